-- Worked examples: which path is standard input, and how a rule is found by its index.
use Rattle.std.proofs.Common.{◌≡◌, [], ◌∷◌, codes, None, Some, true, false, refl}
use Rattle.ignore_rules.specs.Rules.{Rule}
use Rattle.ig_every.specs.Compared.{rule_with}
use Rattle.ig_every.specs.Reading.{is_input}

-- `-` is standard input, and neither `./-` nor the empty path is
pub inputs : (is_input (codes "-") ≡ true) × (is_input (codes "./-") ≡ false) × (is_input [] ≡ false)
inputs = (refl, refl, refl)

-- of two rules the one with the index 1 is the second, and there is none with the index 2
pub with_index : (a b : Rule) → (rule_with (a ∷ (b ∷ [])) (Some 1) ≡ Some b) × (rule_with (a ∷ (b ∷ [])) (Some 2) ≡ None)
    × (rule_with (a ∷ (b ∷ [])) None ≡ None)
with_index a b = (refl, refl, refl)
