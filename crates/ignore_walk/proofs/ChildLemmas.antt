-- From a listed thing to an entry.
use Rattle.std.proofs.Common.{◌≡◌, ◌⊎◌, ◌<◌, ◌≤◌, ℕ, suc, ◌+◌, ◌-◌, Bool, true, false, cond, ◌&&◌, List, [], ◌∷◌, get_or, map, length, reverse, slice_get, Option, None, Some, Result, Ok, Err, refl, sym, ◌∙◌, ap, inl, inr, arith}
use Rattle.std.proofs.lemmas.List.{get_or-map, get_or-reverse, length-map, length-reverse}
use Rattle.std.proofs.lemmas.Option.{get_or_from_slice_get, slice_get-get_or}
use Rattle.ignore_base.specs.Paths.{join_of}
use Rattle.ignore_base.specs.Problem.{Problem, at_depth, io}
use Rattle.ignore_base.specs.declared.fault.Fault.{Fault}
use Rattle.ignore_files.specs.Kinds.{is_symlink}
use Rattle.ignore_files.specs.Memory.{and_then}
use Rattle.ignore_files.specs.Tree.{Tree}
use Rattle.ignore_files.specs.declared.types.FileType.{FileType}
use Rattle.ignore_files.specs.declared.types.Identity.{Identity}
use Rattle.ignore_files.specs.declared.types.Listed.{Listed}
use Rattle.ignore_files.specs.declared.types.Listed.TheVariants as thing
use Rattle.ignore_files.specs.declared.types.Metadata.{Metadata}
use Rattle.ignore_walk.specs.declared.frame.Frame.{Frame}
use Rattle.ignore_walk.specs.Branch.{Branch, path_of, entered}
use Rattle.ignore_walk.specs.Child.{child, followed_link, found, identity_at, is_dir_kind, named, or_failed, same_among, unlooped, with_device, without_loop}
use Rattle.ignore_walk.specs.Entry.{Entry, Item, fresh}
use Rattle.ignore_walk.specs.Found.{tests}
use Rattle.ignore_walk.specs.Scene.{Scene}

pub fresh_err : (p : Problem) (r : Result Entry Problem) → Err p ≡ fresh r → r ≡ Err p
fresh_err p (Ok e) h = absurd (cc (h))
fresh_err p (Err q) h = cc (h)

entry_in : Entry → Item → Result Entry Problem
entry_in e (Ok pair) = Ok pair.0
entry_in e (Err p) = Ok e

problem_at : Item → Option Problem
problem_at (Ok pair) = pair.1
problem_at (Err p) = None

pub fresh_ok : (e : Entry) (o : Option Problem) (r : Result Entry Problem) → Ok (e, o) ≡ fresh r → r ≡ Ok e
unfolding entry_in
fresh_ok e o (Ok f) h = ap (λ (r : Item). entry_in e r) (sym h)
fresh_ok e o (Err q) h = absurd (cc (h))

pub fresh_none : (e : Entry) (o : Option Problem) (r : Result Entry Problem) → Ok (e, o) ≡ fresh r → o ≡ None
unfolding problem_at
fresh_none e o (Ok f) h = ap (λ (r : Item). problem_at r) h
fresh_none e o (Err q) h = absurd (cc (h))

-- the entered directories

pub entered_length : (root : List ℕ) (b : Branch) → length (entered root b) ≡ length b + 1
entered_length root [] = refl
entered_length root (name ∷ b) = omega (entered_length root b, arith)

pub frames_length : (fs : List Frame) (root : List ℕ) (b : Branch) → map (λ (f : Frame). f.path) (reverse fs) ≡ entered root b
    → length fs ≡ length b + 1
frames_length fs root b h =
    sym (length-reverse fs) ∙ (sym (length-map (reverse fs) (λ (f : Frame). f.path)) ∙ (ap (λ (ps :
    List (List ℕ)). length ps) h ∙ entered_length root b))

nearest : (root : List ℕ) (b : Branch) (d : List ℕ) → get_or (entered root b) 0 d ≡ path_of root b
nearest root [] d = refl
nearest root (name ∷ b) d = refl

-- the last frame is that of the place
pub last_frame : (fs : List Frame) (f : Frame) (root : List ℕ) (b : Branch) → map (λ (f : Frame). f.path) (reverse fs) ≡ entered root b
    → slice_get fs (length fs - 1) ≡ Some f → f.path ≡ path_of root b
last_frame fs f root b h last =
    let many : length fs ≡ length b + 1 = frames_length fs root b h in
    let size : length (reverse fs) ≡ length fs = length-reverse fs in
    let at : get_or fs (length fs - 1) f ≡ f = get_or_from_slice_get fs (length fs - 1) f f last in
    let turned : get_or (reverse fs) 0 f ≡ get_or fs (length fs - 1 - 0) f = get_or-reverse fs 0 f (omega arith) in
    let place : length fs - 1 - 0 ≡ length fs - 1 = omega arith in
    let first : get_or (reverse fs) 0 f ≡ f = turned ∙ (ap (λ (k : ℕ). get_or fs k f) place ∙ at) in
    sym (ap (λ (f : Frame). f.path) first) ∙ (sym (get_or-map (λ (f : Frame). f.path) (reverse fs) 0 f f.path (omega arith))
    ∙ (ap (λ (ps : List (List ℕ)). get_or ps 0 f.path) h ∙ nearest root b f.path))

-- where there is a place, there is a last frame
pub no_last : (fs : List Frame) (root : List ℕ) (b : Branch) (p : List ℕ) → map (λ (f : Frame). f.path) (reverse fs) ≡ entered root b
    → slice_get fs (length fs - 1) ≡ None → p ≡ path_of root b
no_last [] root [] p h last = absurd (cc (h))
no_last [] root (name ∷ b) p h last = absurd (cc (h))
no_last (f ∷ fs) root b p h last =
    let some = slice_get-get_or (f ∷ fs) (length (f ∷ fs) - 1) f (omega arith) in
    absurd (cc (last, some))

and_then-both : {A B C E : Type 0} (f : B → Result C E) (h : A → Result B E) (r : Result A E)
    → and_then f (and_then h r) ≡ and_then (λ (a : A). and_then f (h a)) r
and_then-both f h (Ok a) = refl
and_then-both f h (Err e) = refl

-- what a listed entry is, by the frames
pub child_is : (g : Scene) (root : List ℕ) (b : Branch) (name : List ℕ) (kind : FileType) (fs : List Frame) (path : List ℕ) (depth : ℕ)
    → path ≡ join_of (path_of root b) name → depth ≡ length b + 1 → map (λ (f : Frame). f.path) (reverse fs) ≡ entered root b
    → child g root b (thing.Entry name kind) ≡ and_then (tests g (map (λ (f : Frame). f.path) (reverse fs))) (found g path depth kind)
unfolding child
child_is g root b name kind fs path depth at deep h =
    rw (at, deep, h) (and_then-both (λ (e : Entry). with_device g (is_dir_kind e.kind) e) (without_loop g.tree (entered root b))
    (found g (join_of (path_of root b) name) (length b + 1) kind))

pub fault_is : (g : Scene) (root : List ℕ) (b : Branch) (fault : Fault)
    → child g root b (thing.Fault fault) ≡ Err (at_depth (length b + 1) (io fault))
unfolding child
fault_is g root b fault = refl

-- What a listed entry is has the path of its place.

value_or : Entry → Result Entry Problem → Entry
value_or d (Ok e) = e
value_or d (Err p) = d

abbrev pub ok : Entry → Result Entry Problem
ok e = Ok e

pub ok_equal : (e f : Entry) → ok e ≡ ok f → f ≡ e
unfolding value_or
ok_equal e f h = sym (ap (λ (r : Result Entry Problem). value_or e r) h)

and_then-ok : {A B E : Type 0} (f : A → Result B E) (r : Result A E) (y : B) → and_then f r ≡ Ok y → (x : A) × (r ≡ Ok x) × (f x ≡ Ok y)
and_then-ok f (Ok x) y h = (x, refl, h)
and_then-ok f (Err e) y h = absurd (cc (h))

found-depth : (g : Scene) (path : List ℕ) (depth : ℕ) (kind : FileType) (e : Entry) → found g path depth kind ≡ Ok e → e.depth ≡ depth
found-depth g path depth kind e h = by (g.settings.follow_links && is_symlink kind) (g.tree.stat path true) h
  where
    by : (b : Bool) (r : Result Metadata Fault)
        → cond b (or_failed path depth (followed_link path depth) r) (Ok (record { path = path; depth = depth; kind = Some kind; followed = false })) ≡ Ok e
        → e.depth ≡ depth
    by true (Ok m) k = ap (λ (x : Entry). x.depth) (ok_equal (record { path = path; depth = depth; kind = Some m.file_type; followed = true }) e k)
    by true (Err f) k = absurd (cc (k))
    by false r k = ap (λ (x : Entry). x.depth) (ok_equal (record { path = path; depth = depth; kind = Some kind; followed = false }) e k)

found-path : (g : Scene) (path : List ℕ) (depth : ℕ) (kind : FileType) (e : Entry) → found g path depth kind ≡ Ok e → e.path ≡ path
found-path g path depth kind e h = by (g.settings.follow_links && is_symlink kind) (g.tree.stat path true) h
  where
    by : (b : Bool) (r : Result Metadata Fault)
        → cond b (or_failed path depth (followed_link path depth) r) (Ok (record { path = path; depth = depth; kind = Some kind; followed = false })) ≡ Ok e
        → e.path ≡ path
    by true (Ok m) k = ap (λ (x : Entry). x.path) (ok_equal (record { path = path; depth = depth; kind = Some m.file_type; followed = true }) e k)
    by true (Err f) k = absurd (cc (k))
    by false r k = ap (λ (x : Entry). x.path) (ok_equal (record { path = path; depth = depth; kind = Some kind; followed = false }) e k)

unlooped-same : (tree : Tree) (ancestors : List (List ℕ)) (e f : Entry) → without_loop tree ancestors e ≡ Ok f → f ≡ e
unlooped-same tree ancestors e f h =
    by (e.followed && is_dir_kind e.kind) (and_then (λ id. same_among tree id ancestors) (identity_at tree e.path)) h
  where
    by : (b : Bool) (r : Result (Option (List ℕ)) Fault) → cond b (or_failed e.path e.depth (unlooped e) r) (Ok e) ≡ Ok f → f ≡ e
    by true (Ok None) k = ok_equal e f k
    by true (Ok (Some a)) k = absurd (cc (k))
    by true (Err x) k = absurd (cc (k))
    by false r k = ok_equal e f k

pub device-same : (g : Scene) (is_dir : Bool) (e f : Entry) → with_device g is_dir e ≡ Ok f → f ≡ e
device-same g is_dir e f h = by (g.same_file_system && is_dir) (identity_at g.tree e.path) h
  where
    by : (b : Bool) (r : Result Identity Fault) → cond b (or_failed e.path e.depth (λ (id : Identity). Ok e) r) (Ok e) ≡ Ok f → f ≡ e
    by true (Ok id) k = ok_equal e f k
    by true (Err x) k = absurd (cc (k))
    by false r k = ok_equal e f k

pub child_path : (g : Scene) (root : List ℕ) (b : Branch) (name : List ℕ) (kind : FileType) (e : Entry)
    → child g root b (thing.Entry name kind) ≡ Ok e → e.path ≡ path_of root (name ∷ b)
unfolding child
child_path g root b name kind e h =
    let path = path_of root (name ∷ b) in
    let depth = length b + 1 in
    let last = and_then-ok (λ (x : Entry). with_device g (is_dir_kind x.kind) x) (and_then (without_loop g.tree (entered root b)) (found g path depth kind)) e h in
    let loop = and_then-ok (without_loop g.tree (entered root b)) (found g path depth kind) last.0 last.1 in
    ap (λ (x : Entry). x.path) (device-same g (is_dir_kind last.0.kind) last.0 e last.2)
    ∙ (ap (λ (x : Entry). x.path) (unlooped-same g.tree (entered root b) loop.0 last.0 loop.2) ∙ found-path g path depth kind loop.0 loop.1)

pub child_depth : (g : Scene) (root : List ℕ) (b : Branch) (name : List ℕ) (kind : FileType) (e : Entry)
    → child g root b (thing.Entry name kind) ≡ Ok e → e.depth ≡ length b + 1
unfolding child
child_depth g root b name kind e h =
    let path = path_of root (name ∷ b) in
    let depth = length b + 1 in
    let last = and_then-ok (λ (x : Entry). with_device g (is_dir_kind x.kind) x) (and_then (without_loop g.tree (entered root b)) (found g path depth kind)) e h in
    let loop = and_then-ok (without_loop g.tree (entered root b)) (found g path depth kind) last.0 last.1 in
    ap (λ (x : Entry). x.depth) (device-same g (is_dir_kind last.0.kind) last.0 e last.2)
    ∙ (ap (λ (x : Entry). x.depth) (unlooped-same g.tree (entered root b) loop.0 last.0 loop.2) ∙ found-depth g path depth kind loop.0 loop.1)

-- names

pub named_same : (xs : List Listed) → ((k : ℕ) (x : Listed) → slice_get xs k ≡ Some x → named x ≡ x) → map named xs ≡ xs
named_same [] each = refl
named_same (x ∷ xs) each =
    ap (λ (y : Listed). y ∷ map named xs) (each 0 x refl) ∙ ap (λ (ys : List Listed). x ∷ ys) (named_same xs (λ k y got. each (suc k) y got))

-- the first things are named, and the next
pub named_more : (xs : List Listed) (i : ℕ) (x : Listed) → slice_get xs i ≡ Some x → named x ≡ x
    → ((k : ℕ) (y : Listed) → k < i → slice_get xs k ≡ Some y → named y ≡ y)
    → (k : ℕ) (y : Listed) → k < i + 1 → slice_get xs k ≡ Some y → named y ≡ y
named_more xs i x here same before k y less got = elim (split k i) [
  | inl early ↦ before k y early got
  | inr (inl now) ↦
      let one : y ≡ x = some_same y x (sym got ∙ (ap (λ n. slice_get xs n) now ∙ here)) in
      ap named one ∙ (same ∙ sym one)
  | inr (inr late) ↦ absurd (omega (arith, less, late))
]
  where
    split : (k j : ℕ) → (k < j) ⊎ (k ≡ j) ⊎ (j + 1 ≤ k)
    split k j = grind arith

    some_same : (a b : Listed) → Some a ≡ Some b → a ≡ b
    some_same a b e = cc
