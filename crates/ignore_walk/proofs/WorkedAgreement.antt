-- A worked walk beside its queries: `/t/.h/x`, where hidden names are ignored.
use Rattle.std.proofs.Common.{◌≡◌, ℕ, true, false, List, [], ◌∷◌, codes, bytes_eq, None, Some, Ok, Err, refl, arith, if◌then◌else◌}
use Rattle.std.proofs.lemmas.Bool.{both_ways}
use Rattle.ignore_base.specs.Paths.{JoinsName, LeavesThePath, file_name_of, join_of}
use Rattle.ignore_base.specs.declared.fault.Fault.TheVariants.{NotFound}
use Rattle.ignore_files.specs.Tree.{Tree}
use Rattle.ignore_files.specs.declared.types.FileType.{FileType}
use Rattle.ignore_files.specs.declared.types.FileType.TheVariants.{Dir, File}
use Rattle.ignore_files.specs.declared.types.Listed.{Listed}
use Rattle.ignore_files.specs.declared.types.Listed.TheVariants.{Entry as listed_entry}
use Rattle.ignore_dir.specs.Query.{answer_of_rules, is_ignored, query, rules_verdict}
use Rattle.ignore_dir.specs.Scene.{path_verdict}
use Rattle.ignore_dir.specs.Standard.{nothing_outside, standard}
use Rattle.ignore_dir.specs.declared.settings.Settings.{Settings}
use Rattle.ignore_walk.specs.Agreement.{Reachable, at_root, is_kept, listed}
use Rattle.ignore_walk.specs.Branch.{Branch}
use Rattle.ignore_walk.specs.Child.{child}
use Rattle.ignore_walk.specs.Entry.{Entry, Item}
use Rattle.ignore_walk.specs.Scene.{Scene}
use Rattle.ignore_walk.specs.Visits.{IsShown, IsYielded}
use Rattle.ignore_walk.specs.Visits.{at_root as begun, listed as listed_below}
use Rattle.ignore_walk.specs.Walked.{WalkedOne, enter, fate, ignores, is_skipped}
use Rattle.ignore_walk.specs.Whole.{root_entry}
use Rattle.ignore_walk.proofs.ShownLemmas.{shows}
use Rattle.ignore_walk.proofs.YieldLemmas.{agrees}

-- what is listed at a path
abbrev pub things : List ℕ → List Listed
things p =
    if bytes_eq p (codes "/t") then listed_entry (codes ".h") Dir ∷ []
    else if bytes_eq p (codes "/t/.h") then listed_entry (codes "x") File ∷ []
    else []

abbrev pub tree : Tree
tree = record {
  stat = λ p follow. Ok (record { file_type = if bytes_eq p (codes "/t/.h/x") then File else Dir; len = 0 });
  list = λ p. Ok (things p);
  contents = λ p. Err NotFound;
  canonical = λ p. Err NotFound;
  identity = λ p follow. Ok None;
}

-- no file of rules anywhere
abbrev pub scene : Settings → Scene
scene settings = record {
  tree = tree;
  loads = λ p. (let no = nothing_outside.global in record { custom = no; ignore = no; gitignore = no; exclude = no; mark = false }, None);
  settings = settings;
  outside = nothing_outside;
  same_file_system = false;
  keep = λ e. true;
  order = None;
}

-- all names are shown, and what is yielded is at least two names below the root
abbrev pub deep : Settings
deep = record standard { hidden = false; min_depth = Some 2 }

abbrev pub entry : List ℕ → ℕ → FileType → Entry
entry path depth kind = record { path = path; depth = depth; kind = Some kind; followed = false }

abbrev pub t : List ℕ
t = codes "/t"

abbrev pub h : Entry
h = entry (codes "/t/.h") 1 Dir

abbrev pub x : Entry
x = entry (codes "/t/.h/x") 2 File

-- their places

abbrev pub at_h : Branch
at_h = codes ".h" ∷ []

abbrev pub at_x : Branch
at_x = codes "x" ∷ at_h

-- listings lead to the directory and to the file, whatever the rules say

root_found : (s : Settings) → root_entry (scene s) t ≡ Ok (entry t 0 Dir)
unfolding root_entry
root_found s = refl

h_found : child (scene standard) t [] (listed_entry (codes ".h") Dir) ≡ Ok h
unfolding child join_of
h_found = refl

x_found : child (scene standard) t at_h (listed_entry (codes "x") File) ≡ Ok x
unfolding child join_of
x_found = refl

h_reached : Reachable (scene standard) t at_h h
h_reached = listed (at_root (root_found standard)) refl (0, omega arith, refl) h_found

x_reached : Reachable (scene standard) t at_x x
x_reached = listed h_reached refl (0, omega arith, refl) x_found

-- the query ignores the hidden directory, and what is below it, though `x` isn't hidden
pub hidden_ignored : (is_kept (scene standard) t at_h h ≡ false) × (is_kept (scene standard) t at_x x ≡ false)
unfolding is_kept query answer_of_rules rules_verdict is_ignored path_verdict join_of file_name_of
hidden_ignored = (refl, refl)

-- where all names are shown, the least depth of two leaves out the directory, and not the file
pub deep_kept : (is_kept (scene deep) t at_h h ≡ false) × (is_kept (scene deep) t at_x x ≡ true)
unfolding is_kept query answer_of_rules rules_verdict is_ignored path_verdict join_of file_name_of
deep_kept = (refl, refl)

-- so no walk with the first settings yields the file
pub hidden_unyielded : JoinsName → LeavesThePath → (items : List Item) (n : ℕ)
    → WalkedOne (scene standard) t [] (root_entry (scene standard) t) items n → IsYielded items x → ⊥
hidden_unyielded join left items n w y =
    let kept = (agrees join left (scene standard) t at_x x items n
    (record { keeps_all = λ e. refl; all_devices = refl }) refl x_reached refl w).0 y in
    both_ways _ hidden_ignored.1 kept

-- and each walk with the others yields it: the root and the directory are entered

deep_entered : (fate (scene deep) t [] (entry t 0 Dir) ≡ enter) × (fate (scene deep) t at_h h ≡ enter)
    × (is_skipped (scene deep) t at_x x ≡ false)
unfolding fate is_skipped ignores path_verdict file_name_of join_of
deep_entered = (refl, refl, refl)

deep_found : (child (scene deep) t [] (listed_entry (codes ".h") Dir) ≡ Ok h)
    × (child (scene deep) t at_h (listed_entry (codes "x") File) ≡ Ok x)
unfolding child join_of
deep_found = (refl, refl)

deep_shown : IsShown (scene deep) t x
deep_shown = record {
  place = at_x;
  visited = listed_below (listed_below (begun (root_found deep)) deep_entered.0 (0, omega arith, refl) deep_found.0) deep_entered.1
      (0, omega arith, refl) deep_found.1;
  kept = deep_entered.2;
  deep = refl;
}

pub deep_yielded : (items : List Item) (n : ℕ) → WalkedOne (scene deep) t [] (root_entry (scene deep) t) items n → IsYielded items x
deep_yielded items n w = (shows (scene deep) t x items n w).1 deep_shown
