-- Codes: proofs distinguish definitions, choices and matchers by their fields.
use Rattle.std.specs.Prelude.{ℕ, Bool, List, refl}
use Rattle.std.specs.Coded.{Coded, code_by, coded×, coded_bool, coded_list, coded_ℕ}
use Rattle.ignore_glob.specs.Codes.{reading_code}
use Rattle.ignore_glob.specs.Reading.{Reading}
use Rattle.ignore_types.specs.Types.{Definition}
use Rattle.ignore_types.specs.TypeMatch.{Chosen, Matcher}

-- the code of a definition
abbrev pub definition_code : Coded Definition
definition_code =
    code_by (List ℕ × List (List ℕ)) (coded× (coded_list coded_ℕ) (coded_list (coded_list coded_ℕ))) (λ d. (d.name, d.globs))
    (λ p. record { name = p.0; globs = p.1 }) (λ _. refl)

-- the code of a chosen type
abbrev pub chosen_code : Coded Chosen
chosen_code =
    code_by (Definition × (List Reading × Bool)) (coded× definition_code (coded× (coded_list reading_code) coded_bool))
    (λ c. (c.definition, (c.readings, c.negated))) (λ p. record { definition = p.0; readings = p.1.0; negated = p.1.1 }) (λ _. refl)

-- the code of a matcher
abbrev pub matcher_code : Coded Matcher
matcher_code =
    code_by (List Definition × List Chosen) (coded× (coded_list definition_code) (coded_list chosen_code))
    (λ m. (m.definitions, m.choices)) (λ p. record { definitions = p.0; choices = p.1 }) (λ _. refl)
