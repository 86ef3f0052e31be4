-- Worked findings: what is not found of a rule, nor of two lists.
use Rattle.std.proofs.Common.{◌≡◌, ℕ, zero, suc, ◌<◌, Bool, true, false, List, [], ◌∷◌, Some, length, slice_get, arith, refl}
use Rattle.ignore_base.specs.Text.{Chars}
use Rattle.ignore_rules.specs.Answer.{does_apply}
use Rattle.ignore_rules.specs.Rules.{Rule}
use Rattle.ignore_every.specs.Differences.{AreDifferent}
use Rattle.ignore_every.specs.Findings.{AppliesAt, AreReasons, DecidesNever, IsShortest}
use Rattle.ignore_every.specs.Questions.{IsAsked, IsClean, Decides}
use Rattle.ignore_every.specs.declared.said.Counted.{Counted}
use Rattle.ignore_every.specs.declared.said.Difference.{Difference}

-- a rule that decides on some clean path isn't overruled, though an ignored folder be on its way
decides_in_a_folder : (rules : List Rule) (index : ℕ) (path : Chars) (is_dir : Bool) → IsClean path → Decides rules index path is_dir
    → DecidesNever false rules index → ⊥
decides_in_a_folder rules index path is_dir clean decided never = never path is_dir clean decided

-- where the rule decides on a shorter question, a longer one is no shortest
longer_is_no_shortest : (rules : List Rule) (index : ℕ) (path other : Chars) (is_dir kind : Bool) → IsAsked true rules other
    → Decides rules index other kind → length other < length path → IsShortest true rules index path is_dir → ⊥
longer_is_no_shortest rules index path other is_dir kind asked decided less shortest =
    let least = shortest.least other kind asked decided in omega (arith, less, least)

-- a rule that stands twice has a reason: without its second line the reasons are not all
twice_has_a_reason : (rule : Rule) (path : Chars) (is_dir : Bool) → IsClean path → does_apply path is_dir rule ≡ true
    → AreReasons (rule ∷ rule ∷ []) 0 [] → ⊥
twice_has_a_reason rule path is_dir clean does reasons =
    let first : AppliesAt (rule ∷ rule ∷ []) 0 path is_dir = (rule, refl, does) in
    let second : Decides (rule ∷ rule ∷ []) 1 path is_dir =
    record { rule = rule; place = refl; applies = does; last = λ i later less at. past i later less at } in
    let named = reasons.all path is_dir 1 clean first second in
    absurd (cc named.1)
  where
    past : (i : ℕ) (later : Rule) → 1 < i → slice_get (rule ∷ rule ∷ []) i ≡ Some later → does_apply path is_dir later ≡ false
    past zero later less at = absurd (omega (arith, less))
    past (suc zero) later less at = absurd (omega (arith, less))
    past (suc (suc i)) later less at = absurd (cc at)

-- a difference isn't told twice
told_twice : (counted : Counted) (old new : List Rule) (most : ℕ) (d : Difference) → AreDifferent counted old new most (d ∷ d ∷ []) → ⊥
told_twice counted old new most d different = different.apart 0 1 d d (omega arith) refl refl (refl, refl)
