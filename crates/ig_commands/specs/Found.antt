-- What `unused` notes of surveys: the rules that were read, and those that decided.
use Rattle.std.specs.Prelude.{◌≡◌, ◌⊎◌, ℕ, List, [], ◌∷◌, ◌++◌, map, Option, None, Ok, Err}
use Rattle.std.specs.List.{flat_map}
use Rattle.std.specs.Option.{option_or, option_to_list}
use Rattle.ignore_base.specs.Text.{Bytes, Path}
use Rattle.ignore_dir.specs.Scene.{QueryScene}
use Rattle.ignore_files.specs.declared.files.Files.{Ghosts as Files}
use Rattle.ignore_query.specs.Forget.{ListsKept, kept_dirs}
use Rattle.ignore_query.specs.KeptRules.{rules_of}
use Rattle.ignore_query.specs.declared.incremental.IncrementalIgnore.{IncrementalIgnore}
use Rattle.ignore_query.specs.declared.kept.Cache.{Cache}
use Rattle.ignore_why.specs.Cited.{Named}
use Rattle.ig_commands.specs.Form.{rule_of}
use Rattle.ig_commands.specs.Rules.{given_at}
use Rattle.ig_commands.specs.Surveys.{AreAll, IsCut, OfMatcher, OfRoot, Seen}

-- what the rules of a list are at each place: the first of the list that stands there
abbrev pub first_at : List Named → Path → ℕ → Option Bytes
first_at [] source line = None
first_at (rule ∷ rules) source line = option_or (given_at rule.from rule.line rule.original source line) (first_at rules source line)

-- the rules that decide on the entries among some items, in turn
abbrev pub deciding : List Seen → List Named
deciding [] = []
deciding ((Ok e, problem) ∷ more) = option_to_list (rule_of e.why) ++ deciding more
deciding ((Err p, problem) ∷ more) = deciding more

-- these are the items of the survey of a scene, and these are the rules of the directories that are
-- kept after it; or the limit was met
abbrev pub Finds : List Named → QueryScene → List Seen → Type 0
Finds rules g seen =
    ((new : Cache) × AreAll g seen new × (rules ≡ flat_map (rules_of g) (kept_dirs new)) × ListsKept new) ⊎ IsCut g seen

-- the same of the survey of a matcher's root
abbrev pub FindsOf : {F : Type 0} → Files F → F → IncrementalIgnore → OfRoot × List Named → Type 0
FindsOf files f m r = OfMatcher files f (Finds r.1) m r.0

-- the items of all roots, and the rules that were read
abbrev pub met : List (OfRoot × List Named) → List OfRoot
met all = map (λ r. r.0) all

abbrev pub read_in : List (OfRoot × List Named) → List Named
read_in all = flat_map (λ r. r.1) all
