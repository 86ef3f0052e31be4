-- A matcher asked about what follows an offset.
use Rattle.std.proofs.Common.{◌≡◌, ℕ, ◌==◌, Bool, true, false, cond, List, ◌∷◌, ◌++◌, drop, length, refl, ap, ◌∙◌}
use Rattle.std.specs.Str.{chars}
use Rattle.ignore_base.specs.Paths.{strip_of, join_of, joined, directory_of, offset_below, StripsByOffset}
use Rattle.ignore_rules.specs.Answer.{answer, list_answer, AnswersByOffset}
use Rattle.ignore_rules.specs.Rules.{Building, Ruleset, built, empty}

-- a matcher whose root is stripped so
left_of_built : (b : Building) (path left : List ℕ) (is_dir : Bool) → strip_of b.root path ≡ left
    → answer (built b).root (built b).rules path is_dir ≡ list_answer (built b).rules (chars left) is_dir
left_of_built b path left is_dir strips = cases (length b.rules == 0)
  where
    matcher : Bool → Ruleset
    matcher none = cond none empty (record { root = b.root; rules = b.rules })

    cases : (none : Bool) → answer (matcher none).root (matcher none).rules path is_dir
        ≡ list_answer (matcher none).rules (chars left) is_dir
    cases true = refl
    cases false = ap (λ p. list_answer b.rules (chars p) is_dir) strips

pub answers_by_offset : StripsByOffset → AnswersByOffset
answers_by_offset law root names name more b is_dir clean are is rest relative =
    let path = join_of root (joined (names ++ (name ∷ more))) in
    left_of_built b path (drop (offset_below (directory_of root names)) path) is_dir
    (ap (λ r. strip_of r path) relative ∙ law root names name more clean are is rest)
