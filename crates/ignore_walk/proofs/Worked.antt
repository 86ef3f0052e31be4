-- A worked walk: `/t`, `/t/a`, `/t/a/b`, and a link `/t/a/b/c` to `/t/a` that is followed.
use Rattle.std.proofs.Common.{◌≡◌, ℕ, Bool, true, false, List, [], ◌∷◌, None, Some, Ok, Err, refl, sym, subst, if◌then◌else◌}
use Rattle.std.specs.Prelude.{codes, bytes_eq}
use Rattle.ignore_base.specs.declared.fault.Fault.TheVariants.{NotFound}
use Rattle.ignore_base.specs.Paths.{join_of}
use Rattle.ignore_base.specs.Problem.{at_depth, loop}
use Rattle.ignore_files.specs.Tree.{Tree}
use Rattle.ignore_files.specs.declared.types.FileType.TheVariants.{Dir, Symlink}
use Rattle.ignore_files.specs.declared.types.Listed.{Listed}
use Rattle.ignore_files.specs.declared.types.Listed.TheVariants.{Entry as listed_entry}
use Rattle.ignore_dir.specs.Load.{Loaded}
use Rattle.ignore_dir.specs.declared.outside.Outside.{Outside}
use Rattle.ignore_dir.specs.declared.settings.Settings.{Settings}
use Rattle.ignore_walk.specs.Branch.{Branch}
use Rattle.ignore_walk.specs.Child.{child}
use Rattle.ignore_walk.specs.Entry.{Entry, Item}
use Rattle.ignore_walk.specs.Scene.{Scene}
use Rattle.ignore_walk.specs.Walked.{ignores, WalkedOne, WalkedEach, enter, fate, is_skipped, failed, dir, none, more}
use Rattle.ignore_walk.specs.Whole.{root_entry}

-- the number of what a path leads to, and what is listed there
abbrev pub row : List ℕ → ℕ × List Listed
row p =
    if bytes_eq p (codes "/t") then (1, listed_entry (codes "a") Dir ∷ [])
    else if bytes_eq p (codes "/t/a") then (2, listed_entry (codes "b") Dir ∷ [])
    else if bytes_eq p (codes "/t/a/b") then (3, listed_entry (codes "c") Symlink ∷ [])
    else (2, [])

abbrev pub tree : Tree
tree = record {
  stat = λ p follow. Ok (record { file_type = Dir; len = 0 });
  list = λ p. Ok (row p).1;
  contents = λ p. Err NotFound;
  canonical = λ p. Err NotFound;
  identity = λ p follow. Ok (Some (record { device = 1; inode = (row p).0 }));
}

abbrev pub settings : Settings
settings = record {
  custom = [];
  hidden = true;
  parents = true;
  ignore = true;
  git_global = true;
  git_ignore = true;
  git_exclude = true;
  require_git = true;
  case_insensitive = false;
  git_trailing_spaces = false;
  follow_links = true;
  min_depth = None;
  max_depth = None;
  max_filesize = None;
}

abbrev pub scene : (List ℕ → Loaded) → Outside → Scene
scene loads outside = record {
  tree = tree;
  loads = loads;
  settings = settings;
  outside = outside;
  same_file_system = false;
  keep = λ e. true;
  order = None;
}

-- the rules ignore nothing
pub record IsPlain (g : Scene) : Type 0 where
  pub kept : (root : List ℕ) (b : Branch) (is_dir : Bool) → ignores g root b is_dir ≡ false

abbrev pub entry : List ℕ → ℕ → Entry
entry path depth = record { path = path; depth = depth; kind = Some Dir; followed = false }

root_found : (loads : List ℕ → Loaded) (o : Outside) → root_entry (scene loads o) (codes "/t") ≡ Ok (entry (codes "/t") 0)
unfolding root_entry
root_found loads o = refl

a_found : (loads : List ℕ → Loaded) (o : Outside)
    → child (scene loads o) (codes "/t") [] (listed_entry (codes "a") Dir) ≡ Ok (entry (codes "/t/a") 1)
unfolding child join_of
a_found loads o = refl

b_found : (loads : List ℕ → Loaded) (o : Outside)
    → child (scene loads o) (codes "/t") (codes "a" ∷ []) (listed_entry (codes "b") Dir) ≡ Ok (entry (codes "/t/a/b") 2)
unfolding child join_of
b_found loads o = refl

c_loops : (loads : List ℕ → Loaded) (o : Outside)
    → child (scene loads o) (codes "/t") (codes "b" ∷ (codes "a" ∷ [])) (listed_entry (codes "c") Symlink) ≡ Err (at_depth 3 (loop
    (codes "/t/a") (codes "/t/a/b/c")))
unfolding child join_of
c_loops loads o = refl

root_entered : (loads : List ℕ → Loaded) (o : Outside) → fate (scene loads o) (codes "/t") [] (entry (codes "/t") 0) ≡ enter
unfolding fate is_skipped
root_entered loads o = refl

dir_entered : (loads : List ℕ → Loaded) (o : Outside) (b : Branch) (name path : List ℕ) (depth : ℕ) → IsPlain (scene loads o)
    → fate (scene loads o) (codes "/t") (name ∷ b) (entry path depth) ≡ enter
unfolding fate is_skipped
dir_entered loads o b name path depth plain = rw (plain.kept (codes "/t") (name ∷ b) true) refl

-- the loop, in the place of the link
abbrev pub loop_item : Item
loop_item = Err (at_depth 3 (loop (codes "/t/a") (codes "/t/a/b/c")))

-- the item of a directory
abbrev pub dir_item : (List ℕ → Loaded) → List ℕ → ℕ → Item
dir_item loads path depth = Ok (entry path depth, (loads path).1)

-- each directory before what is below it, and the link as a loop; six steps are taken below the
-- root: three things are taken and three directories left
pub loop_reported : (loads : List ℕ → Loaded) (o : Outside) → IsPlain (scene loads o)
    → WalkedOne (scene loads o) (codes "/t") [] (root_entry (scene loads o) (codes "/t"))
    (dir_item loads (codes "/t") 0 ∷ (dir_item loads (codes "/t/a") 1 ∷ (dir_item loads (codes "/t/a/b") 2 ∷ (loop_item ∷ [])))) 6
loop_reported loads o plain =
    let g = scene loads o in
    let t = codes "/t" in
    let below_b : List Item = loop_item ∷ [] in
    let below_a : List Item = dir_item loads (codes "/t/a/b") 2 ∷ below_b in
    let below_t : List Item = dir_item loads (codes "/t/a") 1 ∷ below_a in
    let c : WalkedEach g t (codes "b" ∷ (codes "a" ∷ [])) (listed_entry (codes "c") Symlink ∷ []) below_b 1 =
    more (subst (λ x. WalkedOne g t (codes "c" ∷ (codes "b" ∷ (codes "a" ∷ []))) x below_b 0) (sym (c_loops loads o)) failed) none in
    let b : WalkedEach g t (codes "a" ∷ []) (listed_entry (codes "b") Dir ∷ []) below_a 3 =
    more (subst (λ x. WalkedOne g t (codes "b" ∷ (codes "a" ∷ [])) x below_a 2) (sym (b_found loads o)) (dir (dir_entered loads o
    (codes "a" ∷ []) (codes "b") (codes "/t/a/b") 2 plain) refl c)) none in
    let a : WalkedEach g t [] (listed_entry (codes "a") Dir ∷ []) below_t 5 =
    more (subst (λ x. WalkedOne g t (codes "a" ∷ []) x below_t 4) (sym (a_found loads o)) (dir (dir_entered loads o [] (codes "a")
    (codes "/t/a") 1 plain) refl b)) none in
    subst (λ x. WalkedOne g t [] x (dir_item loads (codes "/t") 0 ∷ below_t) 6) (sym (root_found loads o)) (dir
    (root_entered loads o) refl a)
