-- The loads of a tree are those of the tree without sizes, with which the answers of a host are
-- consistent that told what the tree has.
use Rattle.std.proofs.Common.{◌≡◌, Bool, true, false, ◌&&◌, ◌||◌, cond, List, [], ◌∷◌, Option, None, Some, Result, Ok, Err, is_ok, codes, refl, sym, ap, ◌∙◌, subst}
use Rattle.std.specs.Option.{option_to_list}
use Rattle.ignore_base.specs.Paths.{join_of}
use Rattle.ignore_base.specs.Problem.{Problem}
use Rattle.ignore_base.specs.Text.{Path}
use Rattle.ignore_base.specs.declared.fault.Fault.{Fault}
use Rattle.ignore_files.specs.Tree.{Answers, Tree}
use Rattle.ignore_files.specs.declared.types.Metadata.{Metadata}
use Rattle.ignore_files.specs.declared.types.Refusal.{Refusal}
use Rattle.ignore_files.specs.declared.types.Refusal.TheVariants.{Memory}
use Rattle.ignore_files.specs.declared.types.Refusal.TheVariants.{Fault as Refused}
use Rattle.ignore_rules.specs.Matchers.{is_file_there}
use Rattle.ignore_rules.specs.Rules.{Building, Ruleset}
use Rattle.ignore_dir.specs.Exclude.{Place, by_git_file, exclude_by, exclude_place, excludes_in}
use Rattle.ignore_dir.specs.Load.{AddsFiles, AddsPresent, AreLoads, IsExclude, IsRules, Loaded, Loads, is_marked, is_there, needs_marks}
use Rattle.ignore_dir.specs.declared.dir.Dir.{Dir}
use Rattle.ignore_dir.specs.declared.settings.Settings.{Settings}
use Rattle.ignore_guide.specs.Told.{AreOf, OrMemory, StatTold, kind_alone, kind_told, without_sizes}
use Rattle.ignore_guide.specs.declared.told.Told.{Told}

there-alone : (r : Result Metadata Fault) → is_ok (kind_alone r) ≡ is_ok r
there-alone (Ok m) = refl
there-alone (Err fault) = refl

file-alone : (r : Result Metadata Fault) → is_file_there (kind_alone r) ≡ is_file_there r
file-alone (Ok m) = refl
file-alone (Err fault) = refl

module _ (tree : Tree) where
  there-is : (path : Path) → is_there (without_sizes tree) path ≡ is_there tree path
  there-is path = there-alone (tree.stat path true)

  present-by : (b : Bool) (path : Path) (old new : Building) (reported : Option Problem) → AddsPresent b tree path old new reported
      → AddsPresent b (without_sizes tree) path old new reported
  present-by true path old new reported h = h
  present-by false path old new reported h = h

  present-is : (path : Path) (old new : Building) (reported : Option Problem) → AddsPresent (is_there tree path) tree path old new reported
      → AddsPresent (is_there (without_sizes tree) path) (without_sizes tree) path old new reported
  present-is path old new reported h =
      subst (λ (b : Bool). AddsPresent b (without_sizes tree) path old new reported) (sym (there-is path))
      (present-by (is_there tree path) path old new reported h)

  files-are : (paths : List Path) (old new : Building) (reported : List Problem) → AddsFiles tree paths old new reported
      → AddsFiles (without_sizes tree) paths old new reported
  files-are [] old new reported h = h
  files-are (path ∷ paths) old new reported (between, first, rest, one, more, e) =
      (between, first, rest, present-is path old between first one, files-are paths between new rest more, e)

  rules-are : (s : Settings) (dir : Path) (paths : List Path) (rules : Ruleset) (reported : Option Problem) → IsRules tree s dir paths rules reported
      → IsRules (without_sizes tree) s dir paths rules reported
  rules-are s dir paths rules reported h = record {
    filled = h.filled;
    problems = h.problems;
    adds = files-are paths _ h.filled h.problems h.adds;
    builds = h.builds;
    reports = h.reports;
  }

  exclude-by-is : (git : Path) → exclude_by (without_sizes tree) git ≡ exclude_by tree git
  exclude-by-is git = ap (λ (b : Bool). cond b (by_git_file tree git (tree.contents git)) (excludes_in git)) (file-alone (tree.stat git true))

  exclude-is : (s : Settings) (dir : Path) → exclude_place (without_sizes tree) s dir ≡ exclude_place tree s dir
  exclude-is s dir = ap (λ (p : Place). cond s.git_exclude p (Ok None)) (exclude-by-is (join_of dir (codes ".git")))

  excluded-by : (s : Settings) (dir : Path) (place : Place) (rules : Ruleset) (reported : Option Problem)
      → IsExclude tree s dir place rules reported → IsExclude (without_sizes tree) s dir place rules reported
  excluded-by s dir (Ok found) rules reported h = rules-are s dir (option_to_list found) rules reported h
  excluded-by s dir (Err problem) rules reported h = h

  marked-is : (s : Settings) (dir : Path) → is_marked (without_sizes tree) s dir ≡ is_marked tree s dir
  marked-is s dir =
      ap (λ (b : Bool). needs_marks s && (b || is_there (without_sizes tree) (join_of dir (codes ".jj")))) (there-is (join_of dir (codes ".git")))
      ∙ ap (λ (b : Bool). needs_marks s && (is_there tree (join_of dir (codes ".git")) || b)) (there-is (join_of dir (codes ".jj")))

  load-is : (s : Settings) (dir : Path) (loaded : Dir) (reported : Option Problem) → Loads tree s dir loaded reported
      → Loads (without_sizes tree) s dir loaded reported
  load-is s dir loaded reported h = record {
    of_custom = h.of_custom;
    of_ignore = h.of_ignore;
    of_gitignore = h.of_gitignore;
    of_exclude = h.of_exclude;
    custom = rules-are s dir _ loaded.custom h.of_custom h.custom;
    ignore = rules-are s dir _ loaded.ignore h.of_ignore h.ignore;
    gitignore = rules-are s dir _ loaded.gitignore h.of_gitignore h.gitignore;
    exclude = subst (λ (p : Place). IsExclude (without_sizes tree) s dir p loaded.exclude h.of_exclude) (sym (exclude-is s dir))
        (excluded-by s dir (exclude_place tree s dir) loaded.exclude h.of_exclude h.exclude);
    mark = h.mark ∙ sym (marked-is s dir);
    reports = h.reports;
  }

pub loads-are : (tree : Tree) (s : Settings) (loads : Path → Loaded) → AreLoads tree s loads → AreLoads (without_sizes tree) s loads
loads-are tree s loads are dir = load-is tree s dir (loads dir).0 (loads dir).1 (are dir)

-- an answer that was told is the tree's
pub answers-from : {A : Type 0} (told : Option (Result A Fault)) (has : Result A Fault) (r : Result A Refusal)
    → ((a : Result A Fault) → told ≡ Some a → has ≡ a) → OrMemory told r → Answers has r
answers-from told has (Ok a) f h = f (Ok a) h
answers-from told has (Err (Refused fault)) f h = f (Err fault) h
answers-from told has (Err Memory) f h = tt

stat-by : (tree : Tree) (told : Told) → AreOf tree told → (path : Path) (follow : Bool) (a : Result Metadata Fault)
    → cond follow (kind_told told path) None ≡ Some a → kind_alone (tree.stat path follow) ≡ a
stat-by tree told are path true a e = are.kinds path a e
stat-by tree told are path false a e = absurd (cc (e))

pub stat-told : (tree : Tree) (told : Told) → AreOf tree told → (path : Path) (follow : Bool) (r : Result Metadata Refusal)
    → StatTold told path follow r → Answers (kind_alone (tree.stat path follow)) r
stat-told tree told are path follow r h =
    answers-from (cond follow (kind_told told path) None) (kind_alone (tree.stat path follow)) r (stat-by tree told are path follow) h

pub nothing-told : {A : Type 0} (has : Result A Fault) (r : Result A Refusal) → r ≡ Err Memory → Answers has r
nothing-told {A} has r e = subst (λ (x : Result A Refusal). Answers has x) (sym e) tt
