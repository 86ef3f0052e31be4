-- What callers ask, in the words of the crates below.
use Rattle.std.specs.Prelude.{◌≡◌, ◌&&◌, ◌||◌, Bool, true, false, not, Option, None}
use Rattle.ignore.specs.Words.{AddsLine, Building, Bytes, Match, Path, Problem, Refuses, Rule, Ruleset}
use Rattle.ignore.specs.Words.{answer, answer_with_parents, inner, is_ignore, is_none, is_under_root, is_whitelist}

-- whether rules ignore the file at a path
abbrev pub ignores : Ruleset → Path → Bool
ignores rules path = is_ignore (answer rules.root rules.rules path false)

-- the rule that decides about a path, if one does
abbrev pub deciding_rule : Ruleset → Path → Bool → Option Rule
deciding_rule rules path is_dir = inner (answer rules.root rules.rules path is_dir)

-- whether a package includes the file at a path: it is below the root, and neither it nor else its
-- nearest parent with an answer is ignored
abbrev pub is_packed : Ruleset → Path → Bool
is_packed rules path = is_under_root rules path && not (is_ignore (answer_with_parents rules.root rules.rules path false))

-- whether a linter looks at a file: as the globs of the command line answer, or else unless its
-- types skip it
abbrev pub is_linted : Match (Option Rule) → Bool → Bool
is_linted overridden is_skipped = is_whitelist overridden || (is_none overridden && not is_skipped)

-- a line was added; or it is invalid, and the builder is as it was
abbrev pub AddsIfValid : Building → Bytes → Bool → Building → Type 0
AddsIfValid old line true new = AddsLine old None line new
AddsIfValid old line false new = (new ≡ old) × ((problem : Problem) × Refuses old.options line problem)
