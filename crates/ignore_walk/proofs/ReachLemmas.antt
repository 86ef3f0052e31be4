-- What an entry is that listings lead to.
use Rattle.std.proofs.Common.{◌≡◌, ℕ, zero, suc, Bool, true, false, cond, not, ◌&&◌, List, [], ◌∷◌, length, map, reverse, Contains, Result, Ok, Err, refl, sym, ap, subst, ◌∙◌, arith}
use Rattle.ignore_base.specs.Paths.{JoinsName, directory_of, has_slash, is_proper, join_of}
use Rattle.ignore_base.specs.declared.fault.Fault.{Fault}
use Rattle.ignore_base.specs.declared.fault.Fault.TheVariants.{BadName}
use Rattle.ignore_files.specs.declared.types.FileType.{FileType}
use Rattle.ignore_files.specs.declared.types.Listed.{Listed}
use Rattle.ignore_files.specs.declared.types.Listed.TheVariants as thing
use Rattle.ignore_files.specs.declared.types.Metadata.{Metadata}
use Rattle.ignore_dir.specs.Query.{is_dir_there}
use Rattle.ignore_walk.specs.Agreement.{Reachable, at_root, listed}
use Rattle.ignore_walk.specs.Branch.{Branch, path_of}
use Rattle.ignore_walk.specs.Child.{named, or_failed, with_device}
use Rattle.ignore_walk.specs.Entry.{Entry}
use Rattle.ignore_walk.specs.Scene.{Scene}
use Rattle.ignore_walk.specs.Walked.{leads_in, listing_of}
use Rattle.ignore_walk.specs.Whole.{root_by, root_entry, root_of, stays_link}
use Rattle.ignore_walk.proofs.ChildLemmas.{child_depth, child_path, device-same, ok_equal}
use Rattle.ignore_walk.proofs.PlaceNames.{AreNames, all_names, is_name, name_from, names-reverse, reverse-cons}
use Rattle.ignore_walk.proofs.VisitLemmas.{and_then_ok, or_failed_ok, root_path}

either_depth : (b : Bool) (e f : Entry) → e.depth ≡ 0 → f.depth ≡ 0 → (cond b e f).depth ≡ 0
either_depth true e f p q = p
either_depth false e f p q = q

root_depth : (g : Scene) (root : List ℕ) (e : Entry) → root_entry g root ≡ Ok e → e.depth ≡ 0
unfolding root_entry
root_depth g root e h =
    let is_dir = is_dir_there (g.tree.stat root true) in
    let t = and_then_ok (with_device g is_dir) (or_failed root 0 (root_of g root) (g.tree.stat root false)) e h in
    let own = or_failed_ok root 0 (root_of g root) (g.tree.stat root false) t.0 t.1 in
    let found = or_failed_ok root 0 (λ (m : Metadata). Ok (root_by g root own.0.file_type m.file_type))
    (g.tree.stat root true) t.0 own.1 in
    let it = root_by g root own.0.file_type found.0.file_type in
    let depth : it.depth ≡ 0 = either_depth (stays_link g own.0.file_type found.0.file_type) _ _ refl refl in
    ap (λ (x : Entry). x.depth) (device-same g is_dir t.0 e t.2) ∙ (ap (λ (x : Entry). x.depth) (ok_equal it t.0 found.1) ∙ depth)

pub reach_path : (g : Scene) (root : List ℕ) (b : Branch) (e : Entry) → Reachable g root b e → e.path ≡ path_of root b
reach_path g root [] e (at_root h) = root_path g root e h
reach_path g root (name ∷ b) e (listed {kind = kind} r l c h) = child_path g root b name kind e h

pub reach_depth : (g : Scene) (root : List ℕ) (b : Branch) (e : Entry) → Reachable g root b e → e.depth ≡ length b
reach_depth g root [] e (at_root h) = root_depth g root e h
reach_depth g root (name ∷ b) e (listed {kind = kind} r l c h) = omega (child_depth g root b name kind e h, arith)

-- a listed entry has a name

named-name : (x : Listed) (n : List ℕ) (kind : FileType) → named x ≡ thing.Entry n kind → is_name n ≡ true
named-name (thing.Entry m its) n kind e = by (is_proper m && not (has_slash m)) refl e
  where
    by : (b : Bool) → b ≡ is_name m → cond b (thing.Entry m its) (thing.Fault BadName) ≡ thing.Entry n kind → is_name n ≡ true
    by true h k = let same : m ≡ n = cc (k) in subst (λ (t : List ℕ). is_name t ≡ true) same (sym h)
    by false h k = absurd (cc (k))
named-name (thing.Fault f) n kind e = absurd (cc (e))

name-among : (xs : List Listed) (n : List ℕ) (kind : FileType) → Contains (map named xs) (thing.Entry n kind) → is_name n ≡ true
name-among [] n kind (k, l, e) = absurd (omega (arith, l))
name-among (x ∷ xs) n kind (zero, l, e) = named-name x n kind e
name-among (x ∷ xs) n kind (suc k, l, e) = name-among xs n kind (k, omega (arith, l), e)

listed-name : (r : Result (List Listed) Fault) (n : List ℕ) (kind : FileType) → Contains (listing_of r) (thing.Entry n kind)
    → is_name n ≡ true
listed-name (Ok xs) n kind c = name-among xs n kind c
listed-name (Err f) n kind (k, l, e) = absurd (omega (arith, l))

pub reach_names : (g : Scene) (root : List ℕ) (b : Branch) (e : Entry) → Reachable g root b e → AreNames b
reach_names g root [] e (at_root h) = tt
reach_names g root (name ∷ b) e (listed {dir = dir} {kind = kind} r l c h) =
    (listed-name (g.tree.list dir.path) name kind c, reach_names g root b dir r)

-- the root of a directory below it is one
pub root_is_dir : (g : Scene) (root : List ℕ) (b : Branch) (e : Entry) → Reachable g root b e → leads_in g b e ≡ true
    → is_dir_there (g.tree.stat root true) ≡ true
root_is_dir g root [] e (at_root h) l =
    subst (λ (p : List ℕ). is_dir_there (g.tree.stat p true) ≡ true) (root_path g root e h) l
root_is_dir g root (name ∷ b) e (listed {dir = dir} r l c h) m = root_is_dir g root b dir r l

-- the path of a place is that of the directory with its names
pub path-is : JoinsName → (root : List ℕ) (b : Branch) → AreNames b → path_of root b ≡ directory_of root (reverse b)
path-is join root [] h = refl
path-is join root (n ∷ b) h =
    ap (λ (p : List ℕ). join_of p n) (path-is join root b h.1)
    ∙ (join root (reverse b) n (all_names (reverse b) (names-reverse b h.1)) (name_from n h.0)
    ∙ ap (directory_of root) (sym (reverse-cons n b)))
