-- The globs of the command line.
use Rattle.std.specs.Prelude.{◌≡◌, ◌⊎◌, true, false, List, [], ◌∷◌, None}
use Rattle.ignore_base.specs.Text.{Bytes, Path}
use Rattle.ignore_base.specs.Problem.{Problem}
use Rattle.ignore_rules.specs.Rules.{AddsLine, Building, Refuses, Ruleset, begun, built, with_case_insensitive, with_unclosed_class}
use Rattle.ig_options.specs.declared.options.Options.{Options}

-- adding these globs in turn leads from the old builder to the new one
abbrev pub AddsGlobs : List Bytes → Building → Building → Type 0
AddsGlobs [] old new = new ≡ old
AddsGlobs (glob ∷ globs) old new = (next : Building) × AddsLine old None glob next × AddsGlobs globs next new

-- one of these globs is rejected with this problem: the first, or a later one after the first was
-- added
abbrev pub RefusesGlobs : List Bytes → Building → Problem → Type 0
RefusesGlobs [] old problem = ⊥
RefusesGlobs (glob ∷ globs) old problem =
    Refuses old.options glob problem ⊎ ((next : Building) × AddsLine old None glob next × RefusesGlobs globs next problem)

-- a builder of globs relative to a directory, in which an unclosed class is an error, and which match
-- both cases of a letter where that is asked for
abbrev pub globs_begun : Options → Path → Building
globs_begun o dir = with_case_insensitive (with_unclosed_class (begun dir) false) o.glob_case_insensitive

-- the rules are the globs that are asked for, relative to a directory: first those that match one
-- case, unless all are to match both, then those that match both
abbrev pub AreGlobs : Options → Path → Ruleset → Type 0
AreGlobs o dir rules =
    (plain all : Building) × AddsGlobs o.globs (globs_begun o dir) plain
    × AddsGlobs o.iglobs (with_case_insensitive plain true) all × (rules ≡ built all)

-- the first glob that is rejected has this problem
abbrev pub RefusesOneOf : Options → Path → Problem → Type 0
RefusesOneOf o dir problem =
    RefusesGlobs o.globs (globs_begun o dir) problem
    ⊎ ((plain : Building) × AddsGlobs o.globs (globs_begun o dir) plain
    × RefusesGlobs o.iglobs (with_case_insensitive plain true) problem)
