use Rattle.std.proofs.Common.{ap, string_bytes, subst, sym, ◌∙◌}
use Rattle.std.specs.Prelude.{bit_or}
use Rattle.std.specs.Str.Iter.{HasSubslice}
use Rattle.std.proofs.lemmas.Bool.{eq-eqb}
use Rattle.ignore_set.specs.Others.{IndexedText}
use Rattle.ignore_set.proofs.needle.Needle.may_be_in.Goals as goal

pub returns : goal.returns
returns c = λ text over h.
    let needle = string_bytes c.self.inside.text in
    let same = ap (λ (n : IndexedText). n.text) c.self.view_is in
    eq-eqb (bit_or c.self.inside.mask c.args.mask) c.args.mask
    (ap (λ m. bit_or m c.args.mask) c.self.invariant ∙ over needle (subst (λ n. HasSubslice text n) (sym same) h))
