-- Each directory of a tree has one load: some, and no other. That a file adds something, and one
-- thing only, is a premise.
use Rattle.std.proofs.Common.{◌≡◌, ℕ, Bool, true, false, List, [], ◌∷◌, ◌++◌, Option, Some, None, Ok, Err, refl, sym, ap, ◌∙◌, subst, codes}
use Rattle.std.specs.Option.{option_to_list}
use Rattle.ignore_base.specs.Errors.{without_fault}
use Rattle.ignore_base.specs.Problem.{Problem, joined_problems}
use Rattle.ignore_files.specs.Tree.{Tree}
use Rattle.ignore_rules.specs.RuleFile.{AddsOneThing, AddsSomething}
use Rattle.ignore_rules.specs.Rules.{Building, Ruleset, built, empty}
use Rattle.ignore_dir.specs.declared.dir.Dir.{Dir}
use Rattle.ignore_dir.specs.declared.settings.Settings.{Settings}
use Rattle.ignore_dir.specs.Exclude.{Place, exclude_place}
use Rattle.ignore_dir.specs.Load.{is_there, AddsPresent, AddsFiles, started, IsRules, IsExclude, Loads, Loaded, AreLoads}
use Rattle.ignore_dir.specs.Load.{custom_paths, path_if, is_marked, joined_some}

-- One at most.

AddsPresent-one : AddsOneThing → (there : Bool) (tree : Tree) (path : List ℕ) (old a b : Building) (p q : Option Problem)
    → AddsPresent there tree path old a p → AddsPresent there tree path old b q → (a ≡ b) × (p ≡ q)
AddsPresent-one law false tree path old a b p q h k = (h.0 ∙ sym k.0, h.1 ∙ sym k.1)
AddsPresent-one law true tree path old a b p q h k =
    let same = law path (tree.contents path) old a b h.0 k.0 h.1 k.1 in
    (same.0, h.2 ∙ (ap (λ (x : Option Problem). without_fault x) same.1 ∙ sym k.2))

AddsFiles-one : AddsOneThing → (tree : Tree) (paths : List (List ℕ)) (old a b : Building) (ps qs : List Problem)
    → AddsFiles tree paths old a ps → AddsFiles tree paths old b qs → (a ≡ b) × (ps ≡ qs)
AddsFiles-one law tree [] old a b ps qs h k = (h.0 ∙ sym k.0, h.1 ∙ sym k.1)
AddsFiles-one law tree (path ∷ paths) old a b ps qs (m, p, rest, here, more, is) (n, q, others, there, further, are) =
    let first = AddsPresent-one law (is_there tree path) tree path old m n p q here there in
    let after = AddsFiles-one law tree paths n a b rest others
    (subst (λ (x : Building). AddsFiles tree paths x a rest) first.0 more) further in (
      after.0,
      is ∙ (ap (λ (x : Option Problem). option_to_list x ++ rest) first.1
          ∙ (ap (λ (xs : List Problem). option_to_list q ++ xs) after.1 ∙ sym are)),
    )

IsRules-one : AddsOneThing → (tree : Tree) (s : Settings) (dir : List ℕ) (paths : List (List ℕ)) (a b : Ruleset)
    (p q : Option Problem) → IsRules tree s dir paths a p → IsRules tree s dir paths b q → (a ≡ b) × (p ≡ q)
IsRules-one law tree s dir paths a b p q h k =
    let same = AddsFiles-one law tree paths (started s dir) h.filled k.filled h.problems k.problems h.adds k.adds in (
      h.builds ∙ (ap (λ (x : Building). built x) same.0 ∙ sym k.builds),
      h.reports
          ∙ (ap (λ (x : List Problem). joined_problems x) same.1 ∙ sym k.reports),
    )

IsExclude-one : AddsOneThing → (tree : Tree) (s : Settings) (dir : List ℕ) (place : Place) (a b : Ruleset)
    (p q : Option Problem) → IsExclude tree s dir place a p → IsExclude tree s dir place b q → (a ≡ b) × (p ≡ q)
IsExclude-one law tree s dir (Ok found) a b p q h k = IsRules-one law tree s dir (option_to_list found) a b p q h k
IsExclude-one law tree s dir (Err problem) a b p q h k = (h.0 ∙ sym k.0, h.1 ∙ sym k.1)

same_dirs : (a b : Dir) → a.custom ≡ b.custom → a.ignore ≡ b.ignore → a.gitignore ≡ b.gitignore → a.exclude ≡ b.exclude
    → a.mark ≡ b.mark → a ≡ b
same_dirs a b c i g e m =
    ap (λ (x : Ruleset). let d : Dir = record {
      custom = x;
      ignore = a.ignore;
      gitignore = a.gitignore;
      exclude = a.exclude;
      mark = a.mark;
    } in d) c
    ∙ (ap (λ (x : Ruleset). let d : Dir = record {
      custom = b.custom;
      ignore = x;
      gitignore = a.gitignore;
      exclude = a.exclude;
      mark = a.mark;
    } in d) i
    ∙ (ap (λ (x : Ruleset). let d : Dir = record {
      custom = b.custom;
      ignore = b.ignore;
      gitignore = x;
      exclude = a.exclude;
      mark = a.mark;
    } in d) g
    ∙ (ap (λ (x : Ruleset). let d : Dir = record {
      custom = b.custom;
      ignore = b.ignore;
      gitignore = b.gitignore;
      exclude = x;
      mark = a.mark;
    } in d) e
    ∙ ap (λ (x : Bool). let d : Dir = record {
      custom = b.custom;
      ignore = b.ignore;
      gitignore = b.gitignore;
      exclude = b.exclude;
      mark = x;
    } in d) m)))

-- a directory has no two loads
pub Loads-one : AddsOneThing → (tree : Tree) (s : Settings) (dir : List ℕ) (a b : Dir) (p q : Option Problem)
    → Loads tree s dir a p → Loads tree s dir b q → (a ≡ b) × (p ≡ q)
Loads-one law tree s dir a b p q h k =
    let c = IsRules-one law tree s dir (custom_paths s dir) a.custom b.custom h.of_custom k.of_custom h.custom k.custom in
    let i = IsRules-one law tree s dir (path_if s.ignore dir
    (codes ".ignore")) a.ignore b.ignore h.of_ignore k.of_ignore h.ignore k.ignore in
    let g = IsRules-one law tree s dir (path_if s.git_ignore dir
    (codes ".gitignore")) a.gitignore b.gitignore h.of_gitignore k.of_gitignore h.gitignore k.gitignore in
    let e = IsExclude-one law tree s dir (exclude_place tree s dir) a.exclude b.exclude h.of_exclude k.of_exclude h.exclude k.exclude in (
      same_dirs a b c.0 i.0 g.0 e.0 (h.mark ∙ sym k.mark),
      h.reports
          ∙ (ap (λ (x : Option Problem). joined_some (x ∷ (h.of_ignore ∷ (h.of_gitignore ∷ (h.of_exclude ∷ []))))) c.1
          ∙ (ap (λ (x : Option Problem). joined_some (k.of_custom ∷ (x ∷ (h.of_gitignore ∷ (h.of_exclude ∷ []))))) i.1
          ∙ (ap (λ (x : Option Problem). joined_some (k.of_custom ∷ (k.of_ignore ∷ (x ∷ (h.of_exclude ∷ []))))) g.1
          ∙ (ap (λ (x : Option Problem). joined_some (k.of_custom ∷ (k.of_ignore ∷ (k.of_gitignore ∷ (x ∷ []))))) e.1 ∙ sym k.reports)))),
    )

-- One at least.

AddsPresent-some : AddsSomething → (there : Bool) (tree : Tree) (path : List ℕ) (old : Building)
    → (new : Building) × (reported : Option Problem) × AddsPresent there tree path old new reported
AddsPresent-some law false tree path old = (old, None, (refl, refl))
AddsPresent-some law true tree path old = let r = law path (tree.contents path) old in (r.0, without_fault r.1, (r.1, r.2, refl))

AddsFiles-some : AddsSomething → (tree : Tree) (paths : List (List ℕ)) (old : Building)
    → (new : Building) × (reported : List Problem) × AddsFiles tree paths old new reported
AddsFiles-some law tree [] old = (old, [], (refl, refl))
AddsFiles-some law tree (path ∷ paths) old =
    let first = AddsPresent-some law (is_there tree path) tree path old in
    let rest = AddsFiles-some law tree paths first.0 in
    (rest.0, option_to_list first.1 ++ rest.1, (first.0, first.1, rest.1, first.2, rest.2, refl))

IsRules-some : AddsSomething → (tree : Tree) (s : Settings) (dir : List ℕ) (paths : List (List ℕ))
    → (rules : Ruleset) × (reported : Option Problem) × IsRules tree s dir paths rules reported
IsRules-some law tree s dir paths =
    let all = AddsFiles-some law tree paths (started s dir) in
    (built all.0, joined_problems all.1, record { filled = all.0; problems = all.1; adds = all.2; builds = refl; reports = refl })

IsExclude-some : AddsSomething → (tree : Tree) (s : Settings) (dir : List ℕ) (place : Place)
    → (rules : Ruleset) × (reported : Option Problem) × IsExclude tree s dir place rules reported
IsExclude-some law tree s dir (Ok found) = IsRules-some law tree s dir (option_to_list found)
IsExclude-some law tree s dir (Err problem) = (empty, Some problem, (refl, refl))

pub Loads-some : AddsSomething → (tree : Tree) (s : Settings) (dir : List ℕ)
    → (loaded : Dir) × (reported : Option Problem) × Loads tree s dir loaded reported
Loads-some law tree s dir =
    let c = IsRules-some law tree s dir (custom_paths s dir) in
    let i = IsRules-some law tree s dir (path_if s.ignore dir (codes ".ignore")) in
    let g = IsRules-some law tree s dir (path_if s.git_ignore dir (codes ".gitignore")) in
    let e = IsExclude-some law tree s dir (exclude_place tree s dir) in
    let loaded : Dir = record { custom = c.0; ignore = i.0; gitignore = g.0; exclude = e.0; mark = is_marked tree s dir } in (
      loaded,
      joined_some (c.1 ∷ (i.1 ∷ (g.1 ∷ (e.1 ∷ [])))),
      record {
        of_custom = c.1;
        of_ignore = i.1;
        of_gitignore = g.1;
        of_exclude = e.1;
        custom = c.2;
        ignore = i.2;
        gitignore = g.2;
        exclude = e.2;
        mark = refl;
        reports = refl;
      },
    )

-- the loads of all directories
pub all_loads : AddsSomething → (tree : Tree) (s : Settings) → (loads : List ℕ → Loaded) × AreLoads tree s loads
all_loads law tree s = (λ dir. let l = Loads-some law tree s dir in (l.0, l.1), λ dir. (Loads-some law tree s dir).2)
