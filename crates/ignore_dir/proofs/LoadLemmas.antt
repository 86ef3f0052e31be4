-- Files added in turn.
use Rattle.std.proofs.Common.{◌≡◌, ℕ, Bool, true, false, List, [], ◌∷◌, ◌++◌, map, Option, None, Some, refl, sym, ap, subst}
use Rattle.std.proofs.Common.{◌∙◌, append_assoc, length, ◌==◌, ◌<◌, ◌+◌, take, get_or, arith}
use Rattle.std.proofs.lemmas.List.{append-nil, map_more}
use Rattle.std.proofs.lemmas.Bool.Decides.{nat_tests}
use Rattle.std.specs.Option.{option_to_list}
use Rattle.std.specs.Prelude.{codes, ◌&&◌, ◌||◌, Result, Ok, Err, is_ok, cond}
use Rattle.ignore_base.specs.declared.fault.Fault.{Fault}
use Rattle.ignore_base.specs.Paths.{join_of}
use Rattle.ignore_base.specs.Problem.{Problem, joined_problems}
use Rattle.ignore_files.specs.Tree.{Tree}
use Rattle.ignore_files.specs.Whole.{IsAbsent, is_found}
use Rattle.ignore_files.specs.declared.types.Metadata.{Metadata}
use Rattle.ignore_base.specs.Errors.{without_fault}
use Rattle.ignore_rules.specs.Matchers.{is_file_there}
use Rattle.ignore_rules.specs.RuleFile.{AddsFile}
use Rattle.ignore_rules.specs.Rules.{Building, Ruleset, built, empty}
use Rattle.ignore_dir.specs.declared.settings.Settings.{Settings}
use Rattle.ignore_dir.specs.Exclude.{Place, excludes_in, by_git_file, exclude_by, exclude_place}
use Rattle.ignore_dir.specs.Load.{is_there, AddsPresent, AddsFiles, started, IsRules, IsExclude}

-- one problem at most, as one
joined_one : (reported : Option Problem) → reported ≡ joined_problems (option_to_list reported ++ [])
joined_one None = refl
joined_one (Some problem) = refl

present : (there : Bool) (tree : Tree) (path : List ℕ) (old new : Building) (problem reported : Option Problem)
    → there ≡ true → AddsFile tree path old new problem → reported ≡ without_fault problem → AddsPresent there tree path old new reported
present true tree path old new problem reported e adds same = (problem, adds, same)
present false tree path old new problem reported e adds same = cc

pub absent : (there : Bool) (tree : Tree) (path : List ℕ) (old : Building) → there ≡ false → AddsPresent there tree path old old None
absent false tree path old e = (refl, refl)
absent true tree path old e = cc

-- no file
pub rules_of_none : (tree : Tree) (s : Settings) (dir : List ℕ) (rules : Ruleset) → rules ≡ empty → IsRules tree s dir [] rules None
rules_of_none tree s dir rules e = record { filled = started s dir; problems = []; adds = (refl, refl); builds = e; reports = refl }

-- one file, which isn't there, or is
pub rules_absent : (tree : Tree) (s : Settings) (dir path : List ℕ) (rules : Ruleset) → is_there tree path ≡ false
    → rules ≡ empty → IsRules tree s dir (path ∷ []) rules None
rules_absent tree s dir path rules e same =
    record {
      filled = started s dir;
      problems = [];
      adds = (started s dir, None, [], absent (is_there tree path) tree path (started s dir) e, (refl, refl), refl);
      builds = same;
      reports = refl;
    }

pub rules_present : (tree : Tree) (s : Settings) (dir path : List ℕ) (old filled : Building)
    (problem reported : Option Problem) (rules : Ruleset)
    → is_there tree path ≡ true → old ≡ started s dir → AddsFile tree path old filled problem
    → reported ≡ without_fault problem → rules ≡ built filled → IsRules tree s dir (path ∷ []) rules reported
rules_present tree s dir path old filled problem reported rules e begins adds same builds =
    let adds' = subst (λ (b : Building). AddsFile tree path b filled problem) begins adds in
    record {
      filled = filled;
      problems = option_to_list reported ++ [];
      adds = (
        filled,
        reported,
        [],
        present (is_there tree path) tree path
            (started s dir) filled problem reported e adds' same,
        (refl, refl),
        refl,
      );
      builds = builds;
      reports = joined_one reported;
    }

-- one file more
pub add_more : (tree : Tree) (paths : List (List ℕ)) (path : List ℕ) (old between new : Building) (problems : List Problem)
    (reported : Option Problem)
    → AddsFiles tree paths old between problems → AddsPresent (is_there tree path) tree path between new reported
    → AddsFiles tree (paths ++ path ∷ []) old new (problems ++ option_to_list reported)
add_more tree [] path old between new problems reported (same, none) adds = (
  new,
  reported,
  [],
  subst (λ (b : Building). AddsPresent (is_there tree path) tree path b new reported) same adds,
  (refl, refl),
  ap (λ ps. ps ++ option_to_list reported) none ∙ sym (append-nil (option_to_list reported)),
)
add_more tree (p ∷ ps) path old between new problems reported (middle, first, rest, here, more, is) adds = (
  middle,
  first,
  rest ++ option_to_list reported,
  here,
  add_more tree ps path middle between new rest reported more adds,
  ap (λ l. l ++ option_to_list reported) is ∙ append_assoc (option_to_list first) rest (option_to_list reported),
)

pub no_names : (names : List (List ℕ)) → (length names == 0) ≡ true → names ≡ []
no_names [] e = refl
no_names (name ∷ names) e = grind (arith, nat_tests)

-- one name more
pub one_name_more : (tree : Tree) (s : Settings) (dir : List ℕ) (names : List (List ℕ)) (i : ℕ) (name path : List ℕ)
    (between new : Building) (problems after : List Problem) (reported : Option Problem)
    → i < length names → name ≡ get_or names i name → path ≡ join_of dir name
    → AddsFiles tree (map (join_of dir) (take i names)) (started s dir) between problems
    → AddsPresent (is_there tree path) tree path between new reported → after ≡ problems ++ option_to_list reported
    → AddsFiles tree (map (join_of dir) (take (i + 1) names)) (started s dir) new after
one_name_more tree s dir names i name path between new problems after reported lt is joins before adds same =
    let more = add_more tree (map (join_of dir) (take i names)) path (started s dir) between new problems reported before adds in
    let paths : map (join_of dir) (take (i + 1) names) ≡ map (join_of dir) (take i names) ++ path ∷ [] =
    map_more (join_of dir) names i name lt ∙ ap (λ p. map (join_of dir) (take i names) ++ p ∷ []) (ap (join_of dir) (sym is) ∙ sym joins) in
    subst (λ (ps : List (List ℕ)). AddsFiles tree ps (started s dir) new after) (sym paths)
    (subst (λ (t : List Problem). AddsFiles tree (map (join_of dir) (take i names) ++ path ∷ []) (started s dir) new t) (sym same) more)

no_file : (r : Result Metadata Fault) → is_ok r ≡ false → is_file_there r ≡ false
no_file (Ok m) h = absurd (cc (h))
no_file (Err fault) h = refl

-- where `.git` is absent there is no exclude file
pub no_exclude : (tree : Tree) (s : Settings) (dir : List ℕ) (rules : Ruleset) → IsAbsent (is_found tree) (join_of dir (codes ".git"))
    → rules ≡ empty → IsExclude tree s dir (exclude_place tree s dir) rules None
no_exclude tree s dir rules none same = put s.git_exclude
  where
    git : List ℕ
    git = join_of dir (codes ".git")

    is : exclude_by tree git ≡ excludes_in git
    is = ap (λ b. let place : Place = cond b (by_git_file tree git (tree.contents git)) (excludes_in git) in place)
        (no_file (tree.stat git true) none.here)

    put : (on : Bool) → IsExclude tree s dir (let place : Place = cond on (exclude_by tree git) (Ok None) in place) rules None
    put false = rules_of_none tree s dir rules same
    put true = subst (λ (p : Place). IsExclude tree s dir p rules None) (sym is)
        (rules_absent tree s dir (join_of git (codes "info/exclude")) rules (none.below (codes "info/exclude") refl) same)

-- where neither is there, no repository begins
pub no_mark : (matters git jj : Bool) → git ≡ false → jj ≡ false → false ≡ matters && (git || jj)
no_mark false git jj h k = refl
no_mark true true jj h k = absurd (cc (h))
no_mark true false true h k = absurd (cc (k))
no_mark true false false h k = refl
