-- A load by answers of a tree is the load of the directory in that tree.
use Rattle.std.proofs.Common.{◌≡◌, ℕ, Bool, true, false, ◌||◌, ◌&&◌, List, [], ◌∷◌, Option, None, Some, refl, sym, ap, subst, ◌∙◌}
use Rattle.std.proofs.Common.{Result, Ok, Err, cond, codes}
use Rattle.std.specs.List.{starts_with}
use Rattle.std.specs.Option.{option_to_list}
use Rattle.std.specs.Prelude.{is_ok, nat_eq, drop, length}
use Rattle.ignore_base.specs.declared.fault.Fault.{Fault}
use Rattle.ignore_base.specs.Paths.{join_of}
use Rattle.ignore_base.specs.Problem.{Problem}
use Rattle.ignore_files.specs.Gives.{IsHonest}
use Rattle.ignore_files.specs.Tree.{Tree, Answers}
use Rattle.ignore_files.specs.declared.files.Files.{Ghosts as Files}
use Rattle.ignore_files.specs.declared.types.Contents.{Contents}
use Rattle.ignore_files.specs.declared.types.Metadata.{Metadata}
use Rattle.ignore_rules.specs.Matchers.{is_file_there}
use Rattle.ignore_rules.specs.RuleFile.{AddsContents, first_line}
use Rattle.ignore_rules.specs.Rules.{Building, Ruleset}
use Rattle.ignore_dir.specs.declared.dir.Dir.{Dir}
use Rattle.ignore_dir.specs.declared.settings.Settings.{Settings}
use Rattle.ignore_dir.specs.Exclude.{Place, by_commondir, by_git_file, by_gitdir, by_line, exclude_by, exclude_place, excludes_in}
use Rattle.ignore_dir.specs.Load.{AddsFiles, AddsPresent, IsExclude, IsRules, Loads, custom_paths, is_marked, is_there, needs_marks, path_if}
use Rattle.ignore_dir.specs.Load.{started}
use Rattle.ignore_dir.specs.LoadsBy.{Stats, Reads, as_answer, stats_of, reads_of, AddsFound, AddsBy, AddAllBy, AreRulesBy, AreExcludesBy}
use Rattle.ignore_dir.specs.LoadsBy.{LineLeads, FirstLineLeads, ContentsLead, GitLeads, LeadsIf, IsMarkBy, IsGitBy, LoadsBy}

-- the answers are those of a tree, as far as a load goes by them
pub record AreOf (tree : Tree) (Stat : Stats) (Read : Reads) : Type 0 where
  pub there : (path : List ℕ) (found : Result Metadata Fault) → Stat path found → is_ok found ≡ is_there tree path
  pub file : (path : List ℕ) (found : Result Metadata Fault) → Stat path found
      → is_file_there found ≡ is_file_there (tree.stat path true)
  pub read : (path : List ℕ) (read : Result Contents Fault) → Read path read → read ≡ tree.contents path

adds-tree : (tree : Tree) (Stat : Stats) (Read : Reads) → AreOf tree Stat Read → (path : List ℕ) (old new : Building)
    (reported : Option Problem)
    → AddsBy Stat Read path old new reported → AddsPresent (is_there tree path) tree path old new reported
adds-tree tree Stat Read of path old new reported (found, gives, adds) =
    subst (λ (b : Bool). AddsPresent b tree path old new reported) (of.there path found gives) (put (is_ok found) adds)
  where
    put : (b : Bool) → AddsFound Read path b old new reported → AddsPresent b tree path old new reported
    put false h = h
    put true (read, problem, reads, is, same) =
        (problem, subst (λ (r : Result Contents Fault). AddsContents path r old new problem) (of.read path read reads) is, same)

all-tree : (tree : Tree) (Stat : Stats) (Read : Reads) → AreOf tree Stat Read → (paths : List (List ℕ)) (old new : Building)
    (reported : List Problem) → AddAllBy Stat Read paths old new reported → AddsFiles tree paths old new reported
all-tree tree Stat Read of [] old new reported h = h
all-tree tree Stat Read of (path ∷ paths) old new reported (between, first, rest, here, more, is) = (
  between,
  first,
  rest,
  adds-tree tree Stat Read of path old between first here,
  all-tree tree Stat Read of paths between new rest more,
  is,
)

rules-tree : (tree : Tree) (Stat : Stats) (Read : Reads) → AreOf tree Stat Read → (s : Settings) (dir : List ℕ) (paths : List (List ℕ))
    (rules : Ruleset) (reported : Option Problem)
    → AreRulesBy Stat Read s dir paths rules reported → IsRules tree s dir paths rules reported
rules-tree tree Stat Read of s dir paths rules reported h =
    record {
      filled = h.filled;
      problems = h.problems;
      adds = all-tree tree Stat Read of paths (started s dir) h.filled h.problems h.adds;
      builds = h.builds;
      reports = h.reports;
    }

excludes-tree : (tree : Tree) (Stat : Stats) (Read : Reads) → AreOf tree Stat Read → (s : Settings) (dir : List ℕ) (place : Place)
    (rules : Ruleset) (reported : Option Problem)
    → AreExcludesBy Stat Read s dir place rules reported → IsExclude tree s dir place rules reported
excludes-tree tree Stat Read of s dir (Ok found) rules reported h =
    rules-tree tree Stat Read of s dir (option_to_list found) rules reported h
excludes-tree tree Stat Read of s dir (Err problem) rules reported h = h

line-tree : (tree : Tree) (Stat : Stats) (Read : Reads) → AreOf tree Stat Read → (line : List ℕ) (place : Place)
    → LineLeads Read (starts_with nat_eq line (codes "gitdir: ")) (drop (length (codes "gitdir: ")) line) place
    → place ≡ by_gitdir tree line
line-tree tree Stat Read of line place h = put (starts_with nat_eq line (codes "gitdir: ")) h
  where
    folder : List ℕ
    folder = drop (length (codes "gitdir: ")) line

    put : (b : Bool) → LineLeads Read b folder place
        → place ≡ (let p : Place = cond b (by_commondir folder (tree.contents (join_of folder (codes "commondir")))) (Ok None) in p)
    put true (read, reads, is) = is ∙ ap (by_commondir folder) (of.read (join_of folder (codes "commondir")) read reads)
    put false h = h

first-tree : (tree : Tree) (Stat : Stats) (Read : Reads) → AreOf tree Stat Read → (git : List ℕ) (line : Result (Option (List ℕ)) Fault)
    (place : Place) → FirstLineLeads Read git line place → place ≡ by_line git (by_gitdir tree) line
first-tree tree Stat Read of git (Ok None) place h = h
first-tree tree Stat Read of git (Ok (Some line)) place h = line-tree tree Stat Read of line place h
first-tree tree Stat Read of git (Err fault) place h = h

contents-tree : (tree : Tree) (Stat : Stats) (Read : Reads) → AreOf tree Stat Read → (git : List ℕ) (read : Result Contents Fault)
    (place : Place) → ContentsLead Read git read place → place ≡ by_git_file tree git read
contents-tree tree Stat Read of git (Ok contents) place h = first-tree tree Stat Read of git (first_line contents) place h
contents-tree tree Stat Read of git (Err fault) place h = h

git-tree : (tree : Tree) (Stat : Stats) (Read : Reads) → AreOf tree Stat Read → (git : List ℕ) (found : Result Metadata Fault)
    (place : Place) → Stat git found → GitLeads Read (is_file_there found) git place → place ≡ exclude_by tree git
git-tree tree Stat Read of git found place gives h =
    put (is_file_there found) h
    ∙ ap (λ b. let p : Place = cond b (by_git_file tree git (tree.contents git)) (excludes_in git) in p) (of.file git found gives)
  where
    put : (b : Bool) → GitLeads Read b git place
        → place ≡ (let p : Place = cond b (by_git_file tree git (tree.contents git)) (excludes_in git) in p)
    put true (read, reads, leads) = contents-tree tree Stat Read of git read place leads ∙ ap (by_git_file tree git) (of.read git read reads)
    put false h = h

or_true : (a b : Bool) → b ≡ true → (a || b) ≡ true
or_true true b e = refl
or_true false b e = e

place-tree : (tree : Tree) (Stat : Stats) (Read : Reads) → AreOf tree Stat Read → (s : Settings) (dir : List ℕ) (mark : Bool) (place : Place)
    → IsGitBy Stat Read s dir mark place → place ≡ exclude_place tree s dir
place-tree tree Stat Read of s dir mark place h =
    put s.git_exclude (λ e. h.asked (ap (λ b. b || needs_marks s) e)) h.leads
  where
    git : List ℕ
    git = join_of dir (codes ".git")

    put : (on : Bool) → (on ≡ true → Stat git h.found) → LeadsIf on Read (is_file_there h.found) git place
        → place ≡ (let p : Place = cond on (exclude_by tree git) (Ok None) in p)
    put true asked leads = git-tree tree Stat Read of git h.found place (asked refl) leads
    put false asked leads = leads

mark-tree : (tree : Tree) (Stat : Stats) (Read : Reads) → AreOf tree Stat Read → (s : Settings) (dir : List ℕ) (mark : Bool) (place : Place)
    → IsGitBy Stat Read s dir mark place → mark ≡ is_marked tree s dir
mark-tree tree Stat Read of s dir mark place h = put (needs_marks s) (λ e. h.asked (or_true s.git_exclude (needs_marks s) e)) h.marks
  where
    git : List ℕ
    git = join_of dir (codes ".git")

    jj : List ℕ
    jj = join_of dir (codes ".jj")

    step : (has : Bool) → IsMarkBy true Stat has jj mark → mark ≡ has || is_there tree jj
    step true m = m
    step false (found, gives, is) = is ∙ of.there jj found gives

    put : (needs : Bool) → (needs ≡ true → Stat git h.found) → IsMarkBy needs Stat (is_ok h.found) jj mark
        → mark ≡ needs && (is_there tree git || is_there tree jj)
    put false asked m = m
    put true asked m = step (is_ok h.found) m ∙ ap (λ b. b || is_there tree jj) (of.there git h.found (asked refl))

pub loads-tree : (tree : Tree) (Stat : Stats) (Read : Reads) → AreOf tree Stat Read → (s : Settings) (dir : List ℕ) (loaded : Dir)
    (reported : Option Problem) → LoadsBy Stat Read s dir loaded reported → Loads tree s dir loaded reported
loads-tree tree Stat Read of s dir loaded reported h =
    record {
      of_custom = h.of_custom;
      of_ignore = h.of_ignore;
      of_gitignore = h.of_gitignore;
      of_exclude = h.of_exclude;
      custom = rules-tree tree Stat Read of s dir (custom_paths s dir) loaded.custom h.of_custom h.custom;
      ignore = rules-tree tree Stat Read of s dir (path_if s.ignore dir (codes ".ignore")) loaded.ignore h.of_ignore h.ignore;
      gitignore = rules-tree tree Stat Read of s dir (path_if s.git_ignore dir (codes ".gitignore")) loaded.gitignore h.of_gitignore
          h.gitignore;
      exclude = subst (λ (p : Place). IsExclude tree s dir p loaded.exclude h.of_exclude)
          (place-tree tree Stat Read of s dir loaded.mark h.place h.git)
          (excludes-tree tree Stat Read of s dir h.place loaded.exclude h.of_exclude h.exclude);
      mark = mark-tree tree Stat Read of s dir loaded.mark h.place h.git;
      reports = h.reports;
    }

-- files that are consistent with a tree give its answers
found-is : (tree : Tree) (path : List ℕ) (found : Result Metadata Fault) → Answers (tree.stat path true) (as_answer found)
    → found ≡ tree.stat path true
found-is tree path (Ok metadata) h = sym h
found-is tree path (Err fault) h = sym h

read-is : (tree : Tree) (path : List ℕ) (read : Result Contents Fault) → Answers (tree.contents path) (as_answer read)
    → read ≡ tree.contents path
read-is tree path (Ok contents) h = sym h
read-is tree path (Err fault) h = sym h

pub honest-are : {F : Type 0} (files : Files F) (f : F) (tree : Tree) → IsHonest files f tree
    → AreOf tree (stats_of files f) (reads_of files f)
honest-are files f tree h =
    record {
      there = λ path found gives. ap (λ (r : Result Metadata Fault). is_ok r)
          (found-is tree path found (h.stat path true (as_answer found) gives));
      file = λ path found gives. ap is_file_there (found-is tree path found (h.stat path true (as_answer found) gives));
      read = λ path read gives. read-is tree path read (h.contents path (as_answer read) gives);
    }

-- a load by a tree's own answers is that of the tree
pub loads-own : (tree : Tree) (s : Settings) (dir : List ℕ) (loaded : Dir) (reported : Option Problem)
    → LoadsBy (λ path found. found ≡ tree.stat path true) (λ path read. read ≡ tree.contents path) s dir loaded reported
    → Loads tree s dir loaded reported
loads-own tree s dir loaded reported h = loads-tree tree _ _ (record {
  there = λ path found is. ap (λ (r : Result Metadata Fault). is_ok r) is;
  file = λ path found is. ap is_file_there is;
  read = λ path read is. is;
}) s dir loaded reported h
