use Rattle.std.proofs.Common.{◌≡◌, ◌++◌, ◌∷◌, [], length, ap, ◌∙◌, sym, append_assoc, arith}
use Rattle.std.proofs.lemmas.List.{append-nil}
use Rattle.std.proofs.lemmas.Grind.{common_steps}
use Rattle.ignore_glob.specs.Lexing.{ranges, are_in_order}
use Rattle.ignore_glob.proofs.BracketLemmas.{find_items}
use Rattle.ignore_glob.proofs.BeginsLemmas.{and_left, and_fails}
use Rattle.ignore_glob.proofs.glob.class.ranges_of.Goals as goal

pub returns-then-not-ordered-clause-none : goal.returns-then-not-ordered-clause-none
returns-then-not-ordered-clause-none c =
    let it = c.item-ordered.ensures in
    let rest = c.item-ordered.result.2.now in
    let f = find_items (length rest) rest (omega arith) in
    let new = c.loop-rest.invariant ((c.item-ordered.result.0.0, it.0) ∷ f.0) (rest, it.1, it.2, f.1) in
    (new.0, new.1, new.2 ∙ and_fails _ _ (are_in_order f.0) it.4 c.if-not-ordered.true)

pub loop-rest-preserved : goal.loop-rest-preserved
loop-rest-preserved c items h =
    let it = c.item-ordered.ensures in
    let range = c.item-ordered.result.0 in
    let new = c.loop-rest.invariant ((range.0, it.0) ∷ items) (c.item-ordered.result.2.now, it.1, it.2, h) in
    let pushed : c.push.new.self.items ≡ c.loop-rest.all.items ++ range ∷ [] = grind (arith, common_steps) in
    let reported : ranges new.0 ≡ c.loop-rest.all.items ++ range ∷ ranges items = new.3
    ∙ ap (λ high. c.loop-rest.all.items ++ (range.0, high) ∷ ranges items) (sym it.3) in
    (new.0, new.1, new.2 ∙ and_left _ _ (are_in_order items) it.4 c.if-not-ordered.false, rw (pushed, append_assoc) reported)

pub returns-clause-some : goal.returns-clause-some
returns-clause-some c =
    let none : c.loop-rest.rest.now ≡ [] = grind (arith, common_steps) in
    let new = c.loop-rest.invariant [] none in
    (new.0, new.1, new.2, sym (rw append-nil at new.3))
