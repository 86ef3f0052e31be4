-- No item of a list is out of memory or the limit of steps alone: each error says where it is.
use Rattle.std.proofs.Common.{◌≡◌, inl, inr, ℕ, ◌+◌, ◌&&◌, Bool, true, false, cond, List, [], ◌∷◌, ◌++◌, length, map, Option, None, Some, Result, Ok, Err, refl, ap}
use Rattle.std.specs.Option.{option_to_list}
use Rattle.ignore_base.specs.Problem.{Problem}
use Rattle.ignore_base.specs.declared.fault.Fault.{Fault}
use Rattle.ignore_files.specs.Kinds.{is_symlink}
use Rattle.ignore_files.specs.Memory.{and_then}
use Rattle.ignore_files.specs.Tree.{Tree}
use Rattle.ignore_files.specs.declared.types.FileType.{FileType}
use Rattle.ignore_files.specs.declared.types.Listed.{Listed}
use Rattle.ignore_files.specs.declared.types.Listed.TheVariants as thing
use Rattle.ignore_files.specs.declared.types.Metadata.{Metadata}
use Rattle.ignore_dir.specs.Above.{problems_of_loads}
use Rattle.ignore_dir.specs.Load.{AreLoads, joined_some}
use Rattle.ignore_dir.specs.Query.{is_dir_there}
use Rattle.ignore_dir.specs.declared.settings.Settings.{Settings}
use Rattle.ignore_walk.specs.Branch.{Branch, entered, path_of}
use Rattle.ignore_walk.specs.Child.{branch_below, child, followed_link, found, identity_at, is_dir_kind, or_failed, same_among, unlooped, with_device, without_loop}
use Rattle.ignore_walk.specs.Entry.{Entry, Item, failed_at, stdin_entry}
use Rattle.ignore_walk.specs.Finished.{IsEnd, IsFinished}
use Rattle.ignore_walk.specs.Scene.{Scene}
use Rattle.ignore_walk.specs.Walked.{WalkedEach, WalkedOne, closed, dir, failed, is_at_least, leaf, loaded, more, none, skipped, unlisted, yielded}
use Rattle.ignore_walk.specs.Whole.{Whole, WalkedRoots, above_root, other, reported_before, root_by, root_entry, root_of, stdin, unseen}
use Rattle.ignore_walk.specs.Whole.{none as no_roots}
use Rattle.ignore_walk.proofs.PlacedLemmas.{FailsPlaced, IsPlaced, choice_placed, is_bare, joined_some-placed, loads_placed}

-- Problems in the places of entries.

or_failed-placed : {A B : Type 0} (path : List ℕ) (depth : ℕ) (f : A → Result B Problem) (r : Result A Fault)
    → ((a : A) → FailsPlaced (f a)) → FailsPlaced (or_failed path depth f r)
or_failed-placed path depth f (Ok a) h = h a
or_failed-placed path depth f (Err fault) h = refl

and_then-placed : {A B : Type 0} (f : A → Result B Problem) (r : Result A Problem) → ((a : A) → FailsPlaced (f a))
    → FailsPlaced r → FailsPlaced (and_then f r)
and_then-placed f (Ok a) h k = h a
and_then-placed f (Err p) h k = k

unlooped-placed : (e : Entry) (ancestor : Option (List ℕ)) → FailsPlaced (unlooped e ancestor)
unlooped-placed e None = tt
unlooped-placed e (Some ancestor) = refl

with_device-placed : (g : Scene) (is_dir : Bool) (e : Entry) → FailsPlaced (with_device g is_dir e)
with_device-placed g is_dir e =
    choice_placed (g.same_file_system && is_dir) (or_failed e.path e.depth (λ id. Ok e) (identity_at g.tree e.path)) (Ok e)
    (or_failed-placed e.path e.depth (λ id. Ok e) (identity_at g.tree e.path) (λ id. tt)) tt

without_loop-placed : (tree : Tree) (ancestors : List (List ℕ)) (e : Entry) → FailsPlaced (without_loop tree ancestors e)
without_loop-placed tree ancestors e =
    let same = and_then (λ id. same_among tree id ancestors) (identity_at tree e.path) in
    choice_placed (e.followed && is_dir_kind e.kind) (or_failed e.path e.depth (unlooped e) same) (Ok e)
    (or_failed-placed e.path e.depth (unlooped e) same (unlooped-placed e)) tt

found-placed : (g : Scene) (path : List ℕ) (depth : ℕ) (kind : FileType) → FailsPlaced (found g path depth kind)
found-placed g path depth kind =
    let listed : Entry = record { path = path; depth = depth; kind = Some kind; followed = false } in
    choice_placed (g.settings.follow_links && is_symlink kind) (or_failed path depth (followed_link path depth) (g.tree.stat path true)) (Ok listed)
    (or_failed-placed path depth (followed_link path depth) (g.tree.stat path true) (λ m. tt)) tt

child-placed : (g : Scene) (root : List ℕ) (b : Branch) (x : Listed) → FailsPlaced (child g root b x)
unfolding child
child-placed g root b (thing.Entry name kind) =
    let at = found g (path_of root (name ∷ b)) (length b + 1) kind in
    and_then-placed (λ (e : Entry). with_device g (is_dir_kind e.kind) e) (and_then (without_loop g.tree (entered root b)) at)
    (λ e. with_device-placed g (is_dir_kind e.kind) e)
    (and_then-placed (without_loop g.tree (entered root b)) at (without_loop-placed g.tree (entered root b))
    (found-placed g (path_of root (name ∷ b)) (length b + 1) kind))
child-placed g root b (thing.Fault fault) = refl

root_of-placed : (g : Scene) (root : List ℕ) (own : Metadata) → FailsPlaced (root_of g root own)
root_of-placed g root own =
    or_failed-placed root 0 (λ (m : Metadata). Ok (root_by g root own.file_type m.file_type)) (g.tree.stat root true) (λ m. tt)

root_entry-placed : (g : Scene) (root : List ℕ) → FailsPlaced (root_entry g root)
unfolding root_entry
root_entry-placed g root =
    and_then-placed (with_device g (is_dir_there (g.tree.stat root true))) (or_failed root 0 (root_of g root) (g.tree.stat root false))
    (with_device-placed g (is_dir_there (g.tree.stat root true)))
    (or_failed-placed root 0 (root_of g root) (g.tree.stat root false) (root_of-placed g root))

-- The items of a list.

bare_in : Item → Bool
bare_in (Ok entry) = false
bare_in (Err p) = is_bare p

no_end : (item : Item) → bare_in item ≡ false → IsEnd item → ⊥
unfolding bare_in
no_end item h (inl is) = let t : bare_in item ≡ true = ap bare_in is in cc (h, t)
no_end item h (inr is) = let t : bare_in item ≡ true = ap bare_in is in cc (h, t)

item_goes_on : (item : Item) → bare_in item ≡ false → IsFinished (item ∷ [])
item_goes_on item h = (no_end item h, tt)

entry_goes_on : (e : Entry) (problem : Option Problem) → IsFinished (Ok (e, problem) ∷ [])
unfolding bare_in
entry_goes_on e problem = item_goes_on (Ok (e, problem)) refl

error_goes_on : (p : Problem) → is_bare p ≡ false → IsFinished (Err p ∷ [])
unfolding bare_in
error_goes_on p h = item_goes_on (Err p) h

both_finished : (xs ys : List Item) → IsFinished xs → IsFinished ys → IsFinished (xs ++ ys)
both_finished [] ys h k = k
both_finished (x ∷ xs) ys h k = (h.0, both_finished xs ys h.1 k)

yielded_finished : (s : Settings) (e : Entry) (problem : Option Problem) → IsFinished (yielded s e problem)
yielded_finished s e problem = cases (is_at_least s.min_depth e.depth)
  where
    cases : (b : Bool) → IsFinished (cond b (Ok (e, problem) ∷ []) [])
    cases true = entry_goes_on e problem
    cases false = tt

unlisted_finished : (e : Entry) (r : Result (List Listed) Fault) → IsFinished (unlisted e r)
unlisted_finished e (Ok xs) = tt
unlisted_finished e (Err fault) = error_goes_on (failed_at e.path e.depth fault) refl

mutual
  one_finished : (g : Scene) (root : List ℕ) (b : Branch) (r : Result Entry Problem) (items : List Item) (n : ℕ) → FailsPlaced r
      → WalkedOne g root b r items n → IsFinished items
  one_finished g root b (Err p) items n placed failed = error_goes_on p placed
  one_finished g root b (Ok e) items n placed (skipped f) = tt
  one_finished g root b (Ok e) items n placed (leaf f) = yielded_finished g.settings e None
  one_finished g root b (Ok e) items n placed (closed f) = yielded_finished g.settings e (g.loads e.path).1
  one_finished g root b (Ok e) items n placed (dir {xs = xs} {items = inner} {n = k} f a w) =
      both_finished (loaded g e) (unlisted e (g.tree.list e.path) ++ inner) (yielded_finished g.settings e (g.loads e.path).1)
      (both_finished (unlisted e (g.tree.list e.path)) inner (unlisted_finished e (g.tree.list e.path)) (each_finished g root b xs inner k w))

  each_finished : (g : Scene) (root : List ℕ) (b : Branch) (xs : List Listed) (items : List Item) (n : ℕ)
      → WalkedEach g root b xs items n → IsFinished items
  each_finished g root b [] items n none = tt
  each_finished g root b (x ∷ xs) items n (more {own = own} {others = others} {m = p} {n = q} w v) =
      both_finished own others (one_finished g root (branch_below b x) (child g root b x) own p (child-placed g root b x) w)
      (each_finished g root b xs others q v)

-- what a root gives
pub root_finished : (g : Scene) (root : List ℕ) (items : List Item) (n : ℕ) → WalkedOne g root [] (root_entry g root) items n
    → IsFinished items
root_finished g root items n w = one_finished g root [] (root_entry g root) items n (root_entry-placed g root) w

errors_finished : (p : Option Problem) → IsPlaced p → IsFinished (map Err (option_to_list p))
errors_finished None h = tt
errors_finished (Some p) h = error_goes_on p h

reported_finished : (g : Scene) (seen : List (List ℕ)) (root : List ℕ) → AreLoads g.tree g.settings g.loads
    → IsFinished (reported_before g seen root)
reported_finished g seen root are =
    let paths = unseen seen (above_root g root) in
    errors_finished (joined_some (problems_of_loads g.loads paths))
    (joined_some-placed (problems_of_loads g.loads paths) (loads_placed g.tree g.settings g.loads paths are))

roots_finished : (g : Scene) (seen roots : List (List ℕ)) (items : List Item) (n : ℕ) → AreLoads g.tree g.settings g.loads
    → WalkedRoots g seen roots items n → IsFinished items
roots_finished g seen [] items n are no_roots = tt
roots_finished g seen (root ∷ roots) items n are (stdin {items = rest} {n = k} w) =
    both_finished (Ok (stdin_entry, None) ∷ []) rest (entry_goes_on stdin_entry None) (roots_finished g seen roots rest k are w)
roots_finished g seen (root ∷ roots) items n are (other {own = own} {items = rest} {m = p} {n = k} h w v) =
    both_finished (reported_before g seen root) (own ++ rest) (reported_finished g seen root are)
    (both_finished own rest (root_finished g root own p w) (roots_finished g (seen ++ above_root g root) roots rest k are v))

-- what roots give
pub whole_finished : (g : Scene) (roots : List (List ℕ)) (items : List Item) (n : ℕ) → AreLoads g.tree g.settings g.loads
    → Whole g roots items n → IsFinished items
whole_finished g roots items n are w = roots_finished g [] roots items n are w
