-- A file adds one thing, with one problem; so does each matcher that is built from it, or from one
-- answer for it. The answer of a value that is consistent with a tree adds what the tree's file
-- adds.
use Rattle.std.proofs.Common.{◌≡◌, ◌⊎◌, inl, inr, ℕ, ◌+◌, List, ◌∷◌, Option, Some, None, Result, Ok, Err, refl, sym, ap, ◌∙◌, subst}
use Rattle.ignore_base.specs.declared.fault.Fault.{Fault}
use Rattle.ignore_base.specs.Errors.{without_fault}
use Rattle.ignore_base.specs.Problem.{Problem, joined_problems}
use Rattle.ignore_files.specs.declared.env.Env.{Env}
use Rattle.ignore_files.specs.declared.types.Contents.{Contents}
use Rattle.ignore_files.specs.declared.types.Refusal.{Refusal}
use Rattle.ignore_files.specs.declared.types.Refusal.TheVariants.{Memory}
use Rattle.ignore_files.specs.declared.types.Refusal.TheVariants.{Fault as Refused}
use Rattle.ignore_files.specs.declared.files.Files.{Ghosts}
use Rattle.ignore_files.specs.Gives.{IsHonest}
use Rattle.ignore_files.specs.Tree.{Tree, Answers}
use Rattle.ignore_rules.specs.Rules.{Building, Ruleset, begun, built, empty, line_of_file}
use Rattle.ignore_rules.specs.RuleFile.{AddsLines, done, stopped, added, refused, AddsContents, AddsFile, AddsAnswer, at_line_of}
use Rattle.ignore_rules.specs.RuleFile.{line_content, lines_read}
use Rattle.ignore_base.specs.Paths.{folder_of}
use Rattle.ignore_rules.specs.Matchers.{BuildsFile, BuildsWith, BuildsGlobal, IsMatcherOf, IsGlobalIn, IsGlobalMatcher}
use Rattle.ignore_rules.specs.Matchers.{BuildsAnswer, BuildsAnyAnswer, global_file}
use Rattle.ignore_rules.proofs.LinesOnly.{AddsLineOf-one, Refuses-one, AddsLineOf-never}
use Rattle.ignore_excludes.proofs.ExcludesPlaces.{IsExcludesPath-one}

AddsLines-one : (path : List ℕ) (number : ℕ) (decoded : List (Result (List ℕ) Fault)) (old a b : Building) (ps qs : List Problem)
    → AddsLines path number decoded old a ps → AddsLines path number decoded old b qs → (a ≡ b) × (ps ≡ qs)
AddsLines-one path number decoded old a b ps qs (done n o) (done m u) = (refl, refl)
AddsLines-one path number decoded old a b ps qs (stopped n f more o) (stopped m g rest u) = (refl, refl)
AddsLines-one path number decoded old a b ps qs (added n line more o between new reported h v) (added m text rest u after end others k w) =
    let same = AddsLineOf-one o (line_of_file path n) (line_content n line) between after h k in
    AddsLines-one path (n + 1) more between new end reported others v
    (subst (λ (x : Building). AddsLines path (n + 1) more x end others) (sym same) w)
AddsLines-one path number decoded old a b ps qs (added n line more o between new reported h v) (refused m text rest u end p others k w) =
    absurd (AddsLineOf-never o (line_of_file path n) (line_content n line) between p h k)
AddsLines-one path number decoded old a b ps qs (refused n line more o new p reported h v) (added m text rest u after end others k w) =
    absurd (AddsLineOf-never o (line_of_file path n) (line_content n line) after p k h)
AddsLines-one path number decoded old a b ps qs (refused n line more o new p reported h v) (refused m text rest u end q others k w) =
    let one = Refuses-one o.options (line_content n line) p q h k in
    let same = AddsLines-one path (n + 1) more o new end reported others v w in
    (same.0, ap (λ (x : Problem). at_line_of path n x ∷ reported) one ∙ ap (λ (xs : List Problem). at_line_of path n q ∷ xs) same.1)

pub AddsContents-one : (path : List ℕ) (found : Result Contents Fault) (old a b : Building) (p q : Option Problem)
    → AddsContents path found old a p → AddsContents path found old b q → (a ≡ b) × (p ≡ q)
AddsContents-one path (Ok contents) old a b p q h k =
    let same = AddsLines-one path 1 (lines_read contents.bytes contents.fault) old a b h.0 k.0 h.1 k.1 in
    (same.0, h.2 ∙ (ap (λ (ps : List Problem). joined_problems ps) same.1 ∙ sym k.2))
AddsContents-one path (Err fault) old a b p q h k = (h.0 ∙ sym k.0, h.1 ∙ sym k.1)

AddsAnswer-reported : (path : List ℕ) (reported : Result Contents Fault) (answer : Result Contents Refusal) (old new : Building)
    (problem : Option Problem) → Answers reported answer → AddsAnswer path answer old new problem
    → AddsContents path reported old new problem
AddsAnswer-reported path reported (Ok contents) old new problem h k =
    subst (λ (r : Result Contents Fault). AddsContents path r old new problem) (sym h) k
AddsAnswer-reported path reported (Err (Refused fault)) old new problem h k =
    subst (λ (r : Result Contents Fault). AddsContents path r old new problem) (sym h) k
AddsAnswer-reported path reported (Err Memory) old new problem h k = absurd k

-- the clauses on one answer give those on a tree
AddsFile-answered : {F : Type 0} (files : Ghosts F) (f : F) (tree : Tree) (path : List ℕ) (answer : Result Contents Refusal)
    (old new : Building) (problem : Option Problem) → IsHonest files f tree → files.contents_gives f path answer
    → AddsAnswer path answer old new problem → AddsFile tree path old new problem
AddsFile-answered files f tree path answer old new problem honest gives h =
    AddsAnswer-reported path (tree.contents path) answer old new problem (honest.contents path answer gives) h

BuildsFile-one : (tree : Tree) (path : List ℕ) (builder : Building) (a b : Ruleset) (p q : Option Problem)
    → BuildsFile tree path builder a p → BuildsFile tree path builder b q → (a ≡ b) × (p ≡ q)
BuildsFile-one tree path builder a b p q h k =
    let same = AddsContents-one path (tree.contents path) builder h.0 k.0 h.1 k.1 h.2 k.2 in
    (h.3 ∙ (ap (λ (x : Building). built x) same.0 ∙ sym k.3), h.4 ∙ (ap (λ (x : Option Problem). without_fault x) same.1 ∙ sym k.4))

-- one answer for a file adds one thing
AddsAnswer-one : (path : List ℕ) (answer : Result Contents Refusal) (old a b : Building) (p q : Option Problem)
    → AddsAnswer path answer old a p → AddsAnswer path answer old b q → (a ≡ b) × (p ≡ q)
AddsAnswer-one path (Ok contents) old a b p q h k = AddsContents-one path (Ok contents) old a b p q h k
AddsAnswer-one path (Err (Refused fault)) old a b p q h k = AddsContents-one path (Err fault) old a b p q h k
AddsAnswer-one path (Err Memory) old a b p q h k = absurd h

-- one answer for a file gives one matcher, whatever tree there is
BuildsAnswer-one : (path : List ℕ) (answer : Result Contents Refusal) (builder : Building) (a b : Ruleset) (p q : Option Problem)
    → BuildsAnswer path answer builder a p → BuildsAnswer path answer builder b q → (a ≡ b) × (p ≡ q)
BuildsAnswer-one path answer builder a b p q h k =
    let same = AddsAnswer-one path answer builder h.0 k.0 h.1 k.1 h.2 k.2 in
    (h.3 ∙ (ap (λ (x : Building). built x) same.0 ∙ sym k.3), h.4 ∙ (ap (λ (x : Option Problem). without_fault x) same.1 ∙ sym k.4))

-- the matcher of one answer is that of the file in a tree with which the files are consistent
BuildsFile-answered : {F : Type 0} (files : Ghosts F) (f : F) (tree : Tree) (path : List ℕ) (answer : Result Contents Refusal)
    (builder : Building) (matcher : Ruleset) (reported : Option Problem) → IsHonest files f tree → files.contents_gives f path answer
    → BuildsAnswer path answer builder matcher reported → BuildsFile tree path builder matcher reported
BuildsFile-answered files f tree path answer builder matcher reported honest gives h =
    (h.0, h.1, AddsFile-answered files f tree path answer builder h.0 h.1 honest gives h.2, h.3, h.4)

-- the matcher of some answer is empty, or that of some file in such a tree
BuildsAnyAnswer-honest : {F : Type 0} (files : Ghosts F) (f : F) (tree : Tree) (builder : Building) (matcher : Ruleset)
    (reported : Option Problem) → IsHonest files f tree → BuildsAnyAnswer (files.contents_gives f) builder matcher reported
    → ((matcher ≡ empty) × (reported ≡ None)) ⊎ ((path : List ℕ) × BuildsFile tree path builder matcher reported)
BuildsAnyAnswer-honest files f tree builder matcher reported honest (inl h) = inl h
BuildsAnyAnswer-honest files f tree builder matcher reported honest (inr (path, answer, gives, h)) =
    inr (path, BuildsFile-answered files f tree path answer builder matcher reported honest gives h)

-- a file has one matcher
IsMatcherOf-one : (tree : Tree) (path : List ℕ) (a b : Ruleset) (p q : Option Problem) → IsMatcherOf tree path a p
    → IsMatcherOf tree path b q → (a ≡ b) × (p ≡ q)
IsMatcherOf-one tree path a b p q h k = BuildsFile-one tree path (begun (folder_of path)) a b p q h k

BuildsWith-one : (tree : Tree) (found : Option (List ℕ)) (builder : Building) (a b : Ruleset) (p q : Option Problem)
    → BuildsWith tree found builder a p → BuildsWith tree found builder b q → (a ≡ b) × (p ≡ q)
BuildsWith-one tree None builder a b p q h k = (h.0 ∙ sym k.0, h.1 ∙ sym k.1)
BuildsWith-one tree (Some path) builder a b p q h k = BuildsFile-one tree path builder a b p q h k

-- a builder, a tree and an environment have one matcher of the global file
pub BuildsGlobal-one : (tree : Tree) (env : Env) (builder : Building) (a b : Ruleset) (p q : Option Problem)
    → BuildsGlobal tree env builder a p → BuildsGlobal tree env builder b q → (a ≡ b) × (p ≡ q)
BuildsGlobal-one tree env builder a b p q h k =
    let same = IsExcludesPath-one tree env h.0 k.0 h.1 k.1 in
    BuildsWith-one tree (global_file tree h.0) builder a b p q h.2
    (subst (λ (x : Option (List ℕ)). BuildsWith tree (global_file tree x) builder b q) (sym same) k.2)

IsGlobalIn-one : (tree : Tree) (env : Env) (dir : Option (List ℕ)) (a b : Ruleset) (p q : Option Problem) → IsGlobalIn tree env dir a p
    → IsGlobalIn tree env dir b q → (a ≡ b) × (p ≡ q)
IsGlobalIn-one tree env None a b p q h k = (h.0 ∙ sym k.0, h.1 ∙ sym k.1)
IsGlobalIn-one tree env (Some dir) a b p q h k = BuildsGlobal-one tree env (begun dir) a b p q h k

-- a tree and an environment have one global matcher
IsGlobalMatcher-one : (tree : Tree) (env : Env) (a b : Ruleset) (p q : Option Problem) → IsGlobalMatcher tree env a p
    → IsGlobalMatcher tree env b q → (a ≡ b) × (p ≡ q)
IsGlobalMatcher-one tree env a b p q h k = IsGlobalIn-one tree env env.current_dir a b p q h k
