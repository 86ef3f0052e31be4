-- A problem of a load, or of several loads, says where it is: it is no fault alone, and not out of
-- memory.
use Rattle.std.proofs.Common.{◌≡◌, ℕ, ◌+◌, Bool, true, false, cond, drop, length, List, [], ◌∷◌, ◌++◌, codes, Option, None, Some, Result, Ok, Err, refl, sym, subst}
use Rattle.std.specs.Prelude.{nat_eq}
use Rattle.std.specs.List.{filter_map, starts_with}
use Rattle.std.specs.Option.{is_some, option_to_list}
use Rattle.ignore_base.specs.Errors.{io_fault, without_fault}
use Rattle.ignore_base.specs.Paths.{join_of}
use Rattle.ignore_base.specs.Problem.{Problem, io, joined_problems, memory}
use Rattle.ignore_base.specs.declared.fault.Fault.{Fault}
use Rattle.ignore_files.specs.Tree.{Tree}
use Rattle.ignore_files.specs.declared.types.Contents.{Contents}
use Rattle.ignore_rules.specs.Matchers.{is_file_there}
use Rattle.ignore_rules.specs.RuleFile.{AddsContents, AddsLines, added, at_line_of, done, first_line, lines_read, refused, stopped}
use Rattle.ignore_rules.specs.Rules.{Building, Ruleset}
use Rattle.ignore_dir.specs.Above.{problems_of_loads}
use Rattle.ignore_dir.specs.Exclude.{Place, by_commondir, by_git_file, by_gitdir, by_line, common_folder, exclude_by, exclude_place, excludes_in}
use Rattle.ignore_dir.specs.Load.{AddsFiles, AddsPresent, AreLoads, IsExclude, IsRules, Loaded, Loads, is_there, joined_some}
use Rattle.ignore_dir.specs.declared.dir.Dir.{Dir}
use Rattle.ignore_dir.specs.declared.settings.Settings.{Settings}

-- a problem that doesn't say where it is: out of memory, or a fault alone
abbrev pub is_bare : Problem → Bool
is_bare (io fault) = true
is_bare memory = true
is_bare _ = false

-- a problem says where it is, if there is one
abbrev pub IsPlaced : Option Problem → Type 0
IsPlaced None = Unit {0}
IsPlaced (Some p) = is_bare p ≡ false

abbrev ArePlaced : List Problem → Type 0
ArePlaced [] = Unit {0}
ArePlaced (p ∷ ps) = (is_bare p ≡ false) × ArePlaced ps

abbrev pub FailsPlaced : {A : Type 0} → Result A Problem → Type 0
FailsPlaced (Ok a) = Unit {0}
FailsPlaced (Err p) = is_bare p ≡ false

-- Problems of files of rules.

at_line_of-placed : (path : List ℕ) (number : ℕ) (p : Problem) → is_bare (at_line_of path number p) ≡ false
at_line_of-placed [] number p = refl
at_line_of-placed (c ∷ path) number p = refl

AddsLines-placed : (path : List ℕ) (number : ℕ) (met : List (Result (List ℕ) Fault)) (old new : Building) (ps : List Problem)
    → AddsLines path number met old new ps → ArePlaced ps
AddsLines-placed path number met old new ps (done n o) = tt
AddsLines-placed path number met old new ps (stopped n f more o) = (at_line_of-placed path n (io f), tt)
AddsLines-placed path number met old new ps (added n line more o between end reported h v) =
    AddsLines-placed path (n + 1) more between end reported v
AddsLines-placed path number met old new ps (refused n line more o end p reported h v) =
    (at_line_of-placed path n p, AddsLines-placed path (n + 1) more o end reported v)

joined-placed : (ps : List Problem) → ArePlaced ps → IsPlaced (joined_problems ps)
joined-placed [] h = tt
joined-placed (p ∷ []) h = h.0
joined-placed (p ∷ (q ∷ ps)) h = refl

AddsContents-placed : (path : List ℕ) (read : Result Contents Fault) (old new : Building) (problem : Option Problem)
    → AddsContents path read old new problem → IsPlaced problem
AddsContents-placed path (Ok contents) old new problem h =
    subst IsPlaced (sym h.2) (joined-placed h.0 (AddsLines-placed path 1 (lines_read contents.bytes contents.fault) old new h.0 h.1))
AddsContents-placed path (Err fault) old new problem h = subst IsPlaced (sym h.1) refl

without_fault-placed : (p : Option Problem) → IsPlaced p → IsPlaced (without_fault p)
without_fault-placed None h = tt
without_fault-placed (Some p) h = cases (is_some (io_fault p))
  where
    cases : (b : Bool) → IsPlaced (cond b None (Some p))
    cases true = tt
    cases false = h

AddsPresent-placed : (there : Bool) (tree : Tree) (path : List ℕ) (old new : Building) (reported : Option Problem)
    → AddsPresent there tree path old new reported → IsPlaced reported
AddsPresent-placed false tree path old new reported h = subst IsPlaced (sym h.1) tt
AddsPresent-placed true tree path old new reported h =
    subst IsPlaced (sym h.2) (without_fault-placed h.0 (AddsContents-placed path (tree.contents path) old new h.0 h.1))

more_placed : (p : Option Problem) (ps : List Problem) → IsPlaced p → ArePlaced ps → ArePlaced (option_to_list p ++ ps)
more_placed None ps h k = k
more_placed (Some p) ps h k = (h, k)

AddsFiles-placed : (tree : Tree) (paths : List (List ℕ)) (old new : Building) (reported : List Problem)
    → AddsFiles tree paths old new reported → ArePlaced reported
AddsFiles-placed tree [] old new reported h = subst ArePlaced (sym h.1) tt
AddsFiles-placed tree (path ∷ paths) old new reported (between, first, rest, one, others, are) =
    subst ArePlaced (sym are)
    (more_placed first rest (AddsPresent-placed (is_there tree path) tree path old between first one)
    (AddsFiles-placed tree paths between new rest others))

IsRules-placed : (tree : Tree) (s : Settings) (dir : List ℕ) (paths : List (List ℕ)) (rules : Ruleset) (reported : Option Problem)
    → IsRules tree s dir paths rules reported → IsPlaced reported
IsRules-placed tree s dir paths rules reported h =
    subst IsPlaced (sym h.reports) (joined-placed h.problems (AddsFiles-placed tree paths _ h.filled h.problems h.adds))

-- Problems on the way to an exclude file.

pub choice_placed : {A : Type 0} (b : Bool) (x y : Result A Problem) → FailsPlaced x → FailsPlaced y → FailsPlaced (cond b x y)
choice_placed true x y h k = h
choice_placed false x y h k = k

by_line-placed : (path : List ℕ) (next : List ℕ → Place) (r : Result (Option (List ℕ)) Fault)
    → ((line : List ℕ) → FailsPlaced (next line)) → FailsPlaced (by_line path next r)
by_line-placed path next (Ok None) h = tt
by_line-placed path next (Ok (Some line)) h = h line
by_line-placed path next (Err fault) h = refl

by_commondir-placed : (folder : List ℕ) (r : Result Contents Fault) → FailsPlaced (by_commondir folder r)
by_commondir-placed folder (Ok contents) =
    by_line-placed (join_of folder (codes "commondir")) (λ line. excludes_in (common_folder folder line)) (first_line contents) (λ line. tt)
by_commondir-placed folder (Err fault) = tt

by_gitdir-placed : (tree : Tree) (line : List ℕ) → FailsPlaced (by_gitdir tree line)
by_gitdir-placed tree line =
    let folder = drop (length (codes "gitdir: ")) line in
    let read = tree.contents (join_of folder (codes "commondir")) in
    choice_placed (starts_with nat_eq line (codes "gitdir: ")) (by_commondir folder read) (Ok None) (by_commondir-placed folder read) tt

by_git_file-placed : (tree : Tree) (git : List ℕ) (r : Result Contents Fault) → FailsPlaced (by_git_file tree git r)
by_git_file-placed tree git (Ok contents) = by_line-placed git (by_gitdir tree) (first_line contents) (by_gitdir-placed tree)
by_git_file-placed tree git (Err fault) = refl

exclude_place-placed : (tree : Tree) (s : Settings) (dir : List ℕ) → FailsPlaced (exclude_place tree s dir)
exclude_place-placed tree s dir =
    let git = join_of dir (codes ".git") in
    choice_placed s.git_exclude (exclude_by tree git) (Ok None)
    (choice_placed (is_file_there (tree.stat git true)) (by_git_file tree git (tree.contents git)) (excludes_in git)
    (by_git_file-placed tree git (tree.contents git)) tt)
    tt

IsExclude-placed : (tree : Tree) (s : Settings) (dir : List ℕ) (place : Place) (rules : Ruleset) (reported : Option Problem)
    → FailsPlaced place → IsExclude tree s dir place rules reported → IsPlaced reported
IsExclude-placed tree s dir (Ok place) rules reported placed h = IsRules-placed tree s dir (option_to_list place) rules reported h
IsExclude-placed tree s dir (Err p) rules reported placed h = subst IsPlaced (sym h.1) placed

-- Problems of loads, and of several.

abbrev pub EachPlaced : List (Option Problem) → Type 0
EachPlaced [] = Unit {0}
EachPlaced (p ∷ ps) = IsPlaced p × EachPlaced ps

present_placed : (ps : List (Option Problem)) → EachPlaced ps → ArePlaced (filter_map (λ p. p) ps)
present_placed [] h = tt
present_placed (None ∷ ps) h = present_placed ps h.1
present_placed (Some p ∷ ps) h = (h.0, present_placed ps h.1)

pub joined_some-placed : (ps : List (Option Problem)) → EachPlaced ps → IsPlaced (joined_some ps)
joined_some-placed ps h = joined-placed (filter_map (λ p. p) ps) (present_placed ps h)

Loads-placed : (tree : Tree) (s : Settings) (dir : List ℕ) (own : Dir) (reported : Option Problem)
    → Loads tree s dir own reported → IsPlaced reported
Loads-placed tree s dir own reported h =
    subst IsPlaced (sym h.reports)
    (joined_some-placed (h.of_custom ∷ (h.of_ignore ∷ (h.of_gitignore ∷ (h.of_exclude ∷ [])))) (
      IsRules-placed tree s dir _ own.custom h.of_custom h.custom,
      (
        IsRules-placed tree s dir _ own.ignore h.of_ignore h.ignore,
        (
          IsRules-placed tree s dir _ own.gitignore h.of_gitignore h.gitignore,
          (
            IsExclude-placed tree s dir (exclude_place tree s dir) own.exclude h.of_exclude (exclude_place-placed tree s dir) h.exclude,
            tt,
          ),
        ),
      ),
    ))

pub loads_placed : (tree : Tree) (s : Settings) (loads : List ℕ → Loaded) (paths : List (List ℕ)) → AreLoads tree s loads
    → EachPlaced (problems_of_loads loads paths)
loads_placed tree s loads [] are = tt
loads_placed tree s loads (path ∷ paths) are =
    (Loads-placed tree s path (loads path).0 (loads path).1 (are path), loads_placed tree s loads paths are)
