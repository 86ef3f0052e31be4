-- Codes: proofs distinguish rules, matchers and builders by their fields.
use Rattle.std.specs.Prelude.{ℕ, Bool, List, Option, refl}
use Rattle.std.specs.Coded.{Coded, code_by, coded×, coded_bool, coded_list, coded_option, coded_ℕ}
use Rattle.ignore_glob.specs.Codes.{reading_code}
use Rattle.ignore_glob.specs.Reading.{Reading}
use Rattle.ignore_rules.specs.Rules.{Rule, Ruleset, Building}

-- the code of a rule
abbrev pub rule_code : Coded Rule
rule_code =
    code_by (Option (List ℕ) × (Option ℕ × (List ℕ × (List ℕ × (Bool × (Bool × Reading))))))
    (coded× (coded_option (coded_list coded_ℕ)) (coded× (coded_option coded_ℕ) (coded× (coded_list coded_ℕ)
    (coded× (coded_list coded_ℕ) (coded× coded_bool (coded× coded_bool reading_code))))))
    (λ r. (r.from, (r.line, (r.original, (r.actual, (r.is_whitelist, (r.is_only_dir, r.reading)))))))
    (λ p. record {
      from = p.0;
      line = p.1.0;
      original = p.1.1.0;
      actual = p.1.1.1.0;
      is_whitelist = p.1.1.1.1.0;
      is_only_dir = p.1.1.1.1.1.0;
      reading = p.1.1.1.1.1.1;
    })
    (λ _. refl)

-- the code of a matcher
abbrev pub ruleset_code : Coded Ruleset
ruleset_code =
    code_by (List ℕ × List Rule) (coded× (coded_list coded_ℕ) (coded_list rule_code)) (λ r. (r.root, r.rules))
    (λ p. record { root = p.0; rules = p.1 }) (λ _. refl)

-- the code of a builder
abbrev pub building_code : Coded Building
building_code =
    code_by (List ℕ × (List Rule × (Bool × (Bool × Bool))))
    (coded× (coded_list coded_ℕ) (coded× (coded_list rule_code) (coded× coded_bool (coded× coded_bool coded_bool))))
    (λ b. (b.root, (b.rules, (b.options.glob.case_insensitive, (b.options.glob.allow_unclosed_class, b.options.git_trailing_spaces)))))
    (λ p. record {
      root = p.0;
      rules = p.1.0;
      options = record { glob = record { case_insensitive = p.1.1.0; allow_unclosed_class = p.1.1.1.0 }; git_trailing_spaces = p.1.1.1.1 };
    })
    (λ _. refl)
