-- Loads by answers: files added in turn, and what is so by more answers.
use Rattle.std.proofs.Common.{◌≡◌, ℕ, ◌+◌, ◌<◌, Bool, true, false, ◌||◌, List, [], ◌∷◌, ◌++◌, map, Option, None, Some, refl, sym, ap, subst}
use Rattle.std.proofs.Common.{◌∙◌, append_assoc, length, take, get_or, Result, Ok, Err, inl, inr, codes}
use Rattle.std.proofs.lemmas.List.{append-nil, map_more}
use Rattle.std.specs.Option.{option_to_list}
use Rattle.std.specs.Prelude.{is_ok, MatchResult}
use Rattle.ignore_base.specs.declared.fault.Fault.{Fault}
use Rattle.ignore_base.specs.declared.fault.Fault.TheVariants.{NotFound}
use Rattle.ignore_base.specs.Errors.{without_fault}
use Rattle.ignore_base.specs.Paths.{join_of}
use Rattle.ignore_base.specs.Problem.{Problem, joined_problems}
use Rattle.ignore_files.specs.declared.files.Files.{Ghosts as Files}
use Rattle.ignore_files.specs.declared.shown.Shown.{Shown}
use Rattle.ignore_files.specs.Tree.{Tree}
use Rattle.ignore_files.specs.Shown.{Shows}
use Rattle.ignore_files.specs.Whole.{IsAbsent, is_found}
use Rattle.ignore_files.specs.declared.types.Contents.{Contents}
use Rattle.ignore_files.specs.declared.types.FileType.TheVariants.{File}
use Rattle.ignore_files.specs.declared.types.Metadata.{Metadata}
use Rattle.ignore_files.specs.declared.types.Refusal.{Refusal}
use Rattle.ignore_files.specs.declared.types.Refusal.TheVariants.{Memory}
use Rattle.ignore_files.specs.declared.types.Refusal.TheVariants.{Fault as Refused}
use Rattle.ignore_rules.specs.RuleFile.{AddsAnswer, AddsContents}
use Rattle.ignore_rules.specs.Rules.{Building, Ruleset, built, empty}
use Rattle.ignore_dir.specs.declared.settings.Settings.{Settings}
use Rattle.ignore_dir.specs.Exclude.{Place, excludes_in}
use Rattle.ignore_dir.specs.declared.dir.Dir.{Dir}
use Rattle.ignore_dir.specs.Load.{custom_paths, needs_marks, path_if, started}
use Rattle.ignore_dir.specs.LoadsBy.{Stats, Reads, as_answer, stats_of, stats_shown, IsLacked, AddsFound, AddsBy, AddAllBy, AreRulesBy, AreExcludesBy}
use Rattle.ignore_dir.specs.LoadsBy.{GitLeads, LeadsIf, IsMarkBy, IsGitBy, LoadsBy}

-- an answer that was added to a builder isn't out of memory
pub read-given : (Gives : Result Contents Refusal → Type 0) (path : List ℕ) (answer : Result Contents Refusal) (old new : Building)
    (problem : Option Problem) → Gives answer → AddsAnswer path answer old new problem
    → (read : Result Contents Fault) × Gives (as_answer read) × AddsContents path read old new problem
read-given Gives path (Ok contents) old new problem gives adds = (Ok contents, gives, adds)
read-given Gives path (Err (Refused fault)) old new problem gives adds = (Err fault, gives, adds)
read-given Gives path (Err Memory) old new problem gives adds = absurd adds

-- an answer by what is known of it
pub answer-is : {A : Type 0} (answer : Result A Refusal) (found : Result A Fault)
    → MatchResult found (λ value. answer ≡ Ok value) (λ fault. answer ≡ Err (Refused fault)) → answer ≡ as_answer found
answer-is answer (Ok value) is = is
answer-is answer (Err fault) is = is

-- One file.

pub adds_none : (Stat : Stats) (Read : Reads) (path : List ℕ) (old : Building) (found : Result Metadata Fault)
    → Stat path found → is_ok found ≡ false → AddsBy Stat Read path old old None
adds_none Stat Read path old found gives e =
    (found, gives, subst (λ (b : Bool). AddsFound Read path b old old None) (sym e) (refl, refl))

pub adds_read : (Stat : Stats) (Read : Reads) (path : List ℕ) (old new : Building) (found : Result Metadata Fault)
    (read : Result Contents Fault) (problem reported : Option Problem) → Stat path found → is_ok found ≡ true → Read path read
    → AddsContents path read old new problem → reported ≡ without_fault problem → AddsBy Stat Read path old new reported
adds_read Stat Read path old new found read problem reported gives e reads adds same =
    (found, gives, subst (λ (b : Bool). AddsFound Read path b old new reported) (sym e) (read, problem, reads, adds, same))

joined_one : (reported : Option Problem) → reported ≡ joined_problems (option_to_list reported ++ [])
joined_one None = refl
joined_one (Some problem) = refl

pub rules_of_none : (Stat : Stats) (Read : Reads) (s : Settings) (dir : List ℕ) (rules : Ruleset) → rules ≡ empty
    → AreRulesBy Stat Read s dir [] rules None
rules_of_none Stat Read s dir rules e =
    record { filled = started s dir; problems = []; adds = (refl, refl); builds = e; reports = refl }

pub rules_of_one : (Stat : Stats) (Read : Reads) (s : Settings) (dir path : List ℕ) (old filled : Building)
    (reported : Option Problem) (rules : Ruleset)
    → old ≡ started s dir → AddsBy Stat Read path old filled reported → rules ≡ built filled
    → AreRulesBy Stat Read s dir (path ∷ []) rules reported
rules_of_one Stat Read s dir path old filled reported rules begins adds builds =
    record {
      filled = filled;
      problems = option_to_list reported ++ [];
      adds = (
        filled,
        reported,
        [],
        subst (λ (b : Building). AddsBy Stat Read path b filled reported) begins adds,
        (refl, refl),
        refl,
      );
      builds = builds;
      reports = joined_one reported;
    }

-- a file that isn't there
pub rules_absent : (Stat : Stats) (Read : Reads) (s : Settings) (dir path : List ℕ) (rules : Ruleset) (found : Result Metadata Fault)
    → Stat path found → is_ok found ≡ false → rules ≡ empty → AreRulesBy Stat Read s dir (path ∷ []) rules None
rules_absent Stat Read s dir path rules found gives e same =
    rules_of_one Stat Read s dir path (started s dir) (started s dir) None rules refl
    (adds_none Stat Read path (started s dir) found gives e) same

-- Files in turn.

add_more : (Stat : Stats) (Read : Reads) (paths : List (List ℕ)) (path : List ℕ) (old between new : Building) (problems : List Problem)
    (reported : Option Problem)
    → AddAllBy Stat Read paths old between problems → AddsBy Stat Read path between new reported
    → AddAllBy Stat Read (paths ++ path ∷ []) old new (problems ++ option_to_list reported)
add_more Stat Read [] path old between new problems reported (same, none) adds = (
  new,
  reported,
  [],
  subst (λ (b : Building). AddsBy Stat Read path b new reported) same adds,
  (refl, refl),
  ap (λ ps. ps ++ option_to_list reported) none ∙ sym (append-nil (option_to_list reported)),
)
add_more Stat Read (p ∷ ps) path old between new problems reported (middle, first, rest, here, more, is) adds = (
  middle,
  first,
  rest ++ option_to_list reported,
  here,
  add_more Stat Read ps path middle between new rest reported more adds,
  ap (λ l. l ++ option_to_list reported) is ∙ append_assoc (option_to_list first) rest (option_to_list reported),
)

pub one_name_more : (Stat : Stats) (Read : Reads) (s : Settings) (dir : List ℕ) (names : List (List ℕ)) (i : ℕ) (name path : List ℕ)
    (between new : Building) (problems after : List Problem) (reported : Option Problem)
    → i < length names → name ≡ get_or names i name → path ≡ join_of dir name
    → AddAllBy Stat Read (map (join_of dir) (take i names)) (started s dir) between problems
    → AddsBy Stat Read path between new reported → after ≡ problems ++ option_to_list reported
    → AddAllBy Stat Read (map (join_of dir) (take (i + 1) names)) (started s dir) new after
one_name_more Stat Read s dir names i name path between new problems after reported lt is joins before adds same =
    let front = map (join_of dir) (take i names) in
    let more = add_more Stat Read front path (started s dir) between new problems reported before adds in
    let paths : map (join_of dir) (take (i + 1) names) ≡ front ++ path ∷ [] =
    map_more (join_of dir) names i name lt ∙ ap (λ p. front ++ p ∷ []) (ap (join_of dir) (sym is) ∙ sym joins) in
    subst (λ (ps : List (List ℕ)). AddAllBy Stat Read ps (started s dir) new after) (sym paths)
    (subst (λ (t : List Problem). AddAllBy Stat Read (front ++ path ∷ []) (started s dir) new t) (sym same) more)

-- What was shown.

pub lacked : {F : Type 0} (files : Files F) (f : F) (dir : List ℕ) (shown : Shown) (path : List ℕ) → IsLacked dir shown path
    → stats_shown files f dir shown path (Err NotFound)
lacked files f dir shown path lacks = inr (lacks, refl)

pub asked : {F : Type 0} (files : Files F) (f : F) (dir : List ℕ) (shown : Shown) (path : List ℕ) (found : Result Metadata Fault)
    → stats_of files f path found → stats_shown files f dir shown path found
asked files f dir shown path found gives = inl gives

-- where `.git` is lacked there is no exclude file
pub no_git : {F : Type 0} (files : Files F) (f : F) (Read : Reads) (s : Settings) (dir : List ℕ) (shown : Shown) (mark : Bool)
    (rules : Ruleset)
    → ((tree : Tree) → Shows tree dir shown → IsAbsent (is_found tree) (join_of dir (codes ".git")))
    → IsMarkBy (needs_marks s) (stats_shown files f dir shown) false (join_of dir (codes ".jj")) mark → rules ≡ empty
    → (place : Place) × IsGitBy (stats_shown files f dir shown) Read s dir mark place
    × AreExcludesBy (stats_shown files f dir shown) Read s dir place rules None
no_git files f Read s dir shown mark rules absent marks same = (
  put s.git_exclude,
  record {
    found = Err NotFound;
    asked = λ _. lacked files f dir shown git (λ tree shows. (absent tree shows).here);
    leads = leads s.git_exclude;
    marks = marks;
  },
  excludes s.git_exclude,
)
  where
    git : List ℕ
    git = join_of dir (codes ".git")

    put : Bool → Place
    put true = excludes_in git
    put false = Ok None

    leads : (on : Bool) → LeadsIf on Read false git (put on)
    leads true = refl
    leads false = refl

    excludes : (on : Bool) → AreExcludesBy (stats_shown files f dir shown) Read s dir (put on) rules None
    excludes true = rules_absent (stats_shown files f dir shown) Read s dir (join_of git (codes "info/exclude")) rules (Err NotFound)
        (lacked files f dir shown (join_of git (codes "info/exclude")) (λ tree shows. (absent tree shows).below (codes "info/exclude") refl))
        refl same
    excludes false = rules_of_none (stats_shown files f dir shown) Read s dir rules same

pub neither : (a b : Bool) → (a || b) ≡ false → (a ≡ false) × (b ≡ false)
neither false b e = (refl, e)
neither true b e = absurd (cc (e))

never : {b : Bool} → b ≡ true → b ≡ false → ⊥
never h k = cc

-- where neither the mark nor the exclude file is asked for
pub git_unasked : (Stat : Stats) (Read : Reads) (s : Settings) (dir : List ℕ) → s.git_exclude ≡ false → needs_marks s ≡ false
    → IsGitBy Stat Read s dir false (Ok None)
git_unasked Stat Read s dir off none =
    record {
      found = Err NotFound;
      asked = λ h. absurd (never h (ap (λ b. b || needs_marks s) off ∙ none));
      leads = subst (λ b. LeadsIf b Read false (join_of dir (codes ".git")) (Ok None)) (sym off) refl;
      marks = subst (λ b. IsMarkBy b Stat false (join_of dir (codes ".jj")) false) (sym none) refl;
    }

-- More answers.

-- each answer of the one is one of the other
abbrev pub Within : Stats → Stats → Type 0
Within Stat Other = (path : List ℕ) (found : Result Metadata Fault) → Stat path found → Other path found

pub adds-more : (Stat Other : Stats) (Read : Reads) (path : List ℕ) (old new : Building) (reported : Option Problem)
    → Within Stat Other → AddsBy Stat Read path old new reported → AddsBy Other Read path old new reported
adds-more Stat Other Read path old new reported w (found, gives, adds) = (found, w path found gives, adds)

pub adds-at : (Stat Other : Stats) (Read : Reads) (path at : List ℕ) (old new : Building) (reported : Option Problem)
    → Within Stat Other → path ≡ at → AddsBy Stat Read path old new reported → AddsBy Other Read at old new reported
adds-at Stat Other Read path at old new reported w e h =
    adds-more Stat Other Read at old new reported w (subst (λ p. AddsBy Stat Read p old new reported) e h)

add_all-more : (Stat Other : Stats) (Read : Reads) (paths : List (List ℕ)) (old new : Building) (reported : List Problem)
    → Within Stat Other → AddAllBy Stat Read paths old new reported → AddAllBy Other Read paths old new reported
add_all-more Stat Other Read [] old new reported w h = h
add_all-more Stat Other Read (path ∷ paths) old new reported w (between, first, rest, here, more, is) = (
  between,
  first,
  rest,
  adds-more Stat Other Read path old between first w here,
  add_all-more Stat Other Read paths between new rest w more,
  is,
)

pub rules-more : (Stat Other : Stats) (Read : Reads) (s : Settings) (dir : List ℕ) (paths : List (List ℕ)) (rules : Ruleset)
    (reported : Option Problem)
    → Within Stat Other → AreRulesBy Stat Read s dir paths rules reported → AreRulesBy Other Read s dir paths rules reported
rules-more Stat Other Read s dir paths rules reported w h =
    record {
      filled = h.filled;
      problems = h.problems;
      adds = add_all-more Stat Other Read paths (started s dir) h.filled h.problems w h.adds;
      builds = h.builds;
      reports = h.reports;
    }

pub excludes-more : (Stat Other : Stats) (Read : Reads) (s : Settings) (dir : List ℕ) (place : Place) (rules : Ruleset)
    (reported : Option Problem)
    → Within Stat Other → AreExcludesBy Stat Read s dir place rules reported → AreExcludesBy Other Read s dir place rules reported
excludes-more Stat Other Read s dir (Ok found) rules reported w h =
    rules-more Stat Other Read s dir (option_to_list found) rules reported w h
excludes-more Stat Other Read s dir (Err problem) rules reported w h = h

mark-more : (Stat Other : Stats) (needs has : Bool) (jj : List ℕ) (mark : Bool)
    → Within Stat Other → IsMarkBy needs Stat has jj mark → IsMarkBy needs Other has jj mark
mark-more Stat Other false has jj mark w h = h
mark-more Stat Other true true jj mark w h = h
mark-more Stat Other true false jj mark w (found, gives, is) = (found, w jj found gives, is)

git-more : (Stat Other : Stats) (Read : Reads) (s : Settings) (dir : List ℕ) (mark : Bool) (place : Place)
    → Within Stat Other → IsGitBy Stat Read s dir mark place → IsGitBy Other Read s dir mark place
git-more Stat Other Read s dir mark place w h =
    record {
      found = h.found;
      asked = λ needs. w (join_of dir (codes ".git")) h.found (h.asked needs);
      leads = h.leads;
      marks = mark-more Stat Other (needs_marks s) (is_ok h.found) (join_of dir (codes ".jj")) mark w h.marks;
    }

pub loads-more : (Stat Other : Stats) (Read : Reads) (s : Settings) (dir : List ℕ) (loaded : Dir) (reported : Option Problem)
    → Within Stat Other → LoadsBy Stat Read s dir loaded reported → LoadsBy Other Read s dir loaded reported
loads-more Stat Other Read s dir loaded reported w h =
    record {
      of_custom = h.of_custom;
      of_ignore = h.of_ignore;
      of_gitignore = h.of_gitignore;
      of_exclude = h.of_exclude;
      place = h.place;
      custom = rules-more Stat Other Read s dir (custom_paths s dir) loaded.custom h.of_custom w h.custom;
      ignore = rules-more Stat Other Read s dir (path_if s.ignore dir (codes ".ignore")) loaded.ignore h.of_ignore w h.ignore;
      gitignore = rules-more Stat Other Read s dir (path_if s.git_ignore dir (codes ".gitignore")) loaded.gitignore h.of_gitignore w
          h.gitignore;
      git = git-more Stat Other Read s dir loaded.mark h.place w h.git;
      exclude = excludes-more Stat Other Read s dir h.place loaded.exclude h.of_exclude w h.exclude;
      reports = h.reports;
    }

-- a tree in which each path leads to something
abbrev everywhere : Metadata → Tree
everywhere m =
    record {
      stat = λ path follow. Ok m;
      list = λ path. Err NotFound;
      contents = λ path. Err NotFound;
      canonical = λ path. Err NotFound;
      identity = λ path follow. Err NotFound;
    }

abbrev thing : Metadata
thing = record { file_type = File; len = 0 }

-- where nothing was shown, all is asked
pub all_asked : {F : Type 0} (files : Files F) (f : F) (dir : List ℕ) (shown : Shown) → ((tree : Tree) (d : List ℕ) → Shows tree d shown)
    → Within (stats_shown files f dir shown) (stats_of files f)
all_asked files f dir shown shows path found (inl gives) = gives
all_asked files f dir shown shows path found (inr (lacks, none)) =
    let no : true ≡ false = lacks (everywhere thing) (shows (everywhere thing) dir) in absurd (cc (no))
