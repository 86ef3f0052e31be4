use Rattle.std.proofs.Common.{◌≡◌, ◌↔◌, List, [], ◌∷◌, length, drop, refl, sym, ◌∙◌, ap, subst, arith}
use Rattle.ignore_files.specs.declared.types.Listed.{Listed}
use Rattle.ignore_survey.specs.Stands.{Left}
use Rattle.ignore_survey.specs.declared.stack.Frame.{Frame}
use Rattle.ignore_survey.proofs.LeftLemmas.{iff_trans, leave}
use Rattle.ignore_survey.proofs.stack.take_listed.Goals as goal

nothing_first : (xs : List Listed) → xs ≡ drop 1 xs → xs ≡ []
nothing_first [] same = refl
nothing_first (x ∷ xs) same = absurd (omega (arith, ap (λ (l : List Listed). length l) same))

pub loop-frame-preserved : goal.loop-frame-preserved
loop-frame-preserved c = λ g items.
    let others = c.pop_front.new.self.items in
    iff_trans (c.loop-frame.invariant g items)
    (subst (λ (fs : List Frame). Left g fs items ↔ Left g others items) (sym c.in-Some.ensures.items)
    (leave g c.in-Some.frame others items (nothing_first c.in-Some.frame.rest.items (c.in_default-pop_front.ensures.items ∙ c.in_default-pop_front.ensures.rest))))
