use Rattle.std.proofs.Common.{ℕ, List, drop, subst, sym, arith}
use Rattle.ignore_set.specs.Others.{IsMaskOver}
use Rattle.ignore_set.proofs.MaskLemmas.{over_later}
use Rattle.ignore_set.proofs.haystack.Haystack.mask_from.Goals as goal

pub returns-then-self-offset-clause-over : goal.returns-then-self-offset-clause-over
returns-then-self-offset-clause-over c =
    let text = c.self.inside.text.now in
    let from = c.self.inside.from in
    let over = subst (λ m. IsMaskOver (drop c.args.offset text) m) (sym c.self.invariant.1)
    (over_later text from c.args.offset c.if-self-offset.true) in
    subst (λ (l : List ℕ). IsMaskOver (drop c.args.offset l) c.self.inside.mask) c.self.view_is over

pub returns-clause-over : goal.returns-clause-over
returns-clause-over c =
    let text = c.self.inside.text.now in
    let over = subst (λ m. IsMaskOver (drop c.args.offset text) m) (sym c.mask_back-mask.ensures)
    (over_later text c.args.offset c.args.offset (omega arith)) in
    subst (λ (l : List ℕ). IsMaskOver (drop c.args.offset l) c.mask_back-mask.result) c.self.view_is over
