-- Worked dead rules: of a rule that stands twice the first is dead, and the list of the dead ones has it.
use Rattle.std.proofs.Common.{◌≡◌, true, [], ◌∷◌, arith, refl, sym, subst}
use Rattle.ignore_rules.specs.Answer.{does_apply}
use Rattle.ignore_rules.specs.Rules.{Rule}
use Rattle.ignore_every.specs.Findings.{DecidesNever}
use Rattle.ignore_kept.specs.Findings.{AreDead}

-- where the first applies, the second decides
first_is_dead : (rule : Rule) → DecidesNever true (rule ∷ rule ∷ []) 0
first_is_dead rule path is_dir asked decided =
    let same : rule ≡ decided.rule = cc decided.place in
    let yes = subst (λ r. does_apply path is_dir r ≡ true) (sym same) decided.applies in
    let no = decided.last 1 rule (omega arith) refl in
    absurd (cc (yes, no))

-- so it isn't left out
not_left_out : (rule : Rule) → AreDead (rule ∷ rule ∷ []) [] → ⊥
not_left_out rule dead = let named = dead.all 0 (omega arith) (first_is_dead rule) in absurd (cc named.1)

-- and it is named once
named_once : (rule : Rule) → AreDead (rule ∷ rule ∷ []) (0 ∷ 0 ∷ []) → ⊥
named_once rule dead = let less = dead.order 0 1 0 0 (omega arith) refl refl in omega (arith, less)
