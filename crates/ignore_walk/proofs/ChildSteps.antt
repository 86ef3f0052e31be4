-- How a child that is entered leads on: as a listed directory, or as a link to a directory that was
-- not entered.
use Rattle.std.proofs.Common.{◌≡◌, ℕ, zero, suc, ◌+◌, ◌<◌, Bool, true, false, cond, not, ◌&&◌, ◌||◌, List, [], ◌∷◌, length, map, get_or}
use Rattle.std.proofs.Common.{Option, Some, None, Result, Ok, Err, Contains, ◌⊎◌, inl, inr, refl, sym, ap, ◌∙◌, arith}
use Rattle.ignore_base.specs.declared.fault.Fault.{Fault}
use Rattle.ignore_base.specs.declared.fault.Fault.TheVariants.{BadName}
use Rattle.ignore_base.specs.Paths.{has_slash, is_proper}
use Rattle.ignore_base.specs.Problem.{Problem}
use Rattle.ignore_files.specs.Kinds.{is_dir, is_symlink}
use Rattle.ignore_files.specs.Memory.{and_then}
use Rattle.ignore_files.specs.Tree.{Tree}
use Rattle.ignore_files.specs.declared.types.FileType.{FileType}
use Rattle.ignore_files.specs.declared.types.FileType.TheVariants as type
use Rattle.ignore_files.specs.declared.types.Identity.{Identity}
use Rattle.ignore_files.specs.declared.types.Listed.{Listed}
use Rattle.ignore_files.specs.declared.types.Listed.TheVariants as thing
use Rattle.ignore_files.specs.declared.types.Metadata.{Metadata}
use Rattle.ignore_dir.specs.Query.{is_dir_there}
use Rattle.ignore_dir.specs.Limits.{is_deepest}
use Rattle.ignore_walk.specs.Branch.{Branch, path_of, entered}
use Rattle.ignore_walk.specs.Child.{or_failed, is_dir_kind, identity_at, same_among, unlooped, without_loop, with_device, followed_link, found, named, child}
use Rattle.ignore_walk.specs.Entry.{Entry}
use Rattle.ignore_walk.specs.Scene.{Scene}
use Rattle.ignore_walk.specs.Walked.{skip, yield, load, enter, fate, is_skipped, leads_in, is_foreign, listing_of}
use Rattle.ignore_walk.specs.Whole.{root_entry, root_of, root_by, stays_link}

and_then_ok : {A B E : Type 0} (f : A → Result B E) (r : Result A E) (b : B) → and_then f r ≡ Ok b
    → (a : A) × (r ≡ Ok a) × (f a ≡ Ok b)
and_then_ok f (Ok a) b h = (a, refl, h)
and_then_ok f (Err e) b h = absurd (cc (h))

or_failed_ok : {A B : Type 0} (path : List ℕ) (depth : ℕ) (f : A → Result B Problem) (r : Result A Fault) (b : B)
    → or_failed path depth f r ≡ Ok b → (a : A) × (r ≡ Ok a) × (f a ≡ Ok b)
or_failed_ok path depth f (Ok a) b h = (a, refl, h)
or_failed_ok path depth f (Err e) b h = absurd (cc (h))

-- an entry that is asked about where a test is true
if_ok : (b : Bool) (r : Result Entry Problem) (e e' : Entry) → cond b r (Ok e) ≡ Ok e'
    → ((b ≡ true) × (r ≡ Ok e')) ⊎ ((b ≡ false) × (e ≡ e'))
if_ok true r e e' h = inl (refl, h)
if_ok false r e e' h = inr (refl, cc (h))

with_device_ok : (g : Scene) (is_dir : Bool) (e e' : Entry) → with_device g is_dir e ≡ Ok e' → e ≡ e'
with_device_ok g is_dir e e' h =
    from (if_ok (g.same_file_system && is_dir) (or_failed e.path e.depth (λ (id : Identity). Ok e) (identity_at g.tree e.path)) e e' h)
  where
    from : ((g.same_file_system && is_dir ≡ true) × (or_failed e.path e.depth (λ (id : Identity). Ok e) (identity_at g.tree e.path) ≡ Ok e'))
        ⊎ ((g.same_file_system && is_dir ≡ false) × (e ≡ e')) → e ≡ e'
    from (inl (b, r)) = let known_ = or_failed_ok e.path e.depth (λ (id : Identity). Ok e) (identity_at g.tree e.path) e' r in cc (known_.2)
    from (inr (b, same)) = same

-- a directory that is none of the others, by its identity
record Apart (tree : Tree) (path : List ℕ) (others : List (List ℕ)) : Type 0 where
  id : Identity
  known_as : identity_at tree path ≡ Ok id
  none_of : same_among tree id others ≡ Ok None

unlooped_ok : (e e' : Entry) (o : Option (List ℕ)) → unlooped e o ≡ Ok e' → (o ≡ None) × (e ≡ e')
unlooped_ok e e' None h = (refl, cc (h))
unlooped_ok e e' (Some ancestor) h = absurd (cc (h))

looped_ok : (tree : Tree) (others : List (List ℕ)) (e e' : Entry)
    → or_failed e.path e.depth (unlooped e) (and_then (λ id. same_among tree id others) (identity_at tree e.path)) ≡ Ok e'
    → (e ≡ e') × Apart tree e.path others
looped_ok tree others e e' h =
    let a = or_failed_ok e.path e.depth (unlooped e) (and_then (λ id. same_among tree id others) (identity_at tree e.path)) e' h in
    let u = unlooped_ok e e' a.0 a.2 in
    let i = and_then_ok (λ id. same_among tree id others) (identity_at tree e.path) a.0 a.1 in
    (u.1, record { id = i.0; known_as = i.1; none_of = i.2 ∙ ap Ok u.0 })

both : (a b : Bool) → a ≡ true → b ≡ true → a && b ≡ true
both true b h k = k
both false b h k = absurd (cc (h))

-- a followed link to a directory leads to none of those that were entered
without_loop_ok : (tree : Tree) (others : List (List ℕ)) (e e' : Entry) → without_loop tree others e ≡ Ok e'
    → (e ≡ e') × (e.followed ≡ true → is_dir_kind e.kind ≡ true → Apart tree e.path others)
without_loop_ok tree others e e' h =
    from (if_ok (e.followed && is_dir_kind e.kind)
    (or_failed e.path e.depth (unlooped e) (and_then (λ id. same_among tree id others) (identity_at tree e.path))) e e' h)
  where
    from : ((e.followed && is_dir_kind e.kind ≡ true)
        × (or_failed e.path e.depth (unlooped e) (and_then (λ id. same_among tree id others) (identity_at tree e.path)) ≡ Ok e'))
        ⊎ ((e.followed && is_dir_kind e.kind ≡ false) × (e ≡ e'))
        → (e ≡ e') × (e.followed ≡ true → is_dir_kind e.kind ≡ true → Apart tree e.path others)
    from (inl (b, r)) = let is = looped_ok tree others e e' r in (is.0, λ p q. is.1)
    from (inr (b, same)) = (same, λ p q. let so : e.followed && is_dir_kind e.kind ≡ true = both e.followed (is_dir_kind e.kind) p q in absurd (cc (b, so)))

-- what was found at a path: what was listed, or what a link leads to
record Found (g : Scene) (path : List ℕ) (kind : FileType) (e : Entry) : Type 0 where
  at : e.path ≡ path
  by : ((e.followed ≡ false) × (e.kind ≡ Some kind))
      ⊎ ((e.followed ≡ true) × ((m : Metadata) × (g.tree.stat path true ≡ Ok m) × (e.kind ≡ Some m.file_type)))

found_ok : (g : Scene) (path : List ℕ) (depth : ℕ) (kind : FileType) (e : Entry) → found g path depth kind ≡ Ok e → Found g path kind e
found_ok g path depth kind e h =
    from (if_ok (g.settings.follow_links && is_symlink kind) (or_failed path depth (followed_link path depth) (g.tree.stat path true))
    (record { path = path; depth = depth; kind = Some kind; followed = false }) e h)
  where
    from : ((g.settings.follow_links && is_symlink kind ≡ true)
        × (or_failed path depth (followed_link path depth) (g.tree.stat path true) ≡ Ok e))
        ⊎ ((g.settings.follow_links && is_symlink kind ≡ false)
        × (record { path = path; depth = depth; kind = Some kind; followed = false } ≡ e)) → Found g path kind e
    from (inl (b, r)) =
        let m = or_failed_ok path depth (followed_link path depth) (g.tree.stat path true) e r in
        let is : record { path = path; depth = depth; kind = Some m.0.file_type; followed = true } ≡ e = cc (m.2) in
        record {
          at = sym (ap (λ (x : Entry). x.path) is);
          by = inr (sym (ap (λ (x : Entry). x.followed) is), (m.0, m.1, sym (ap (λ (x : Entry). x.kind) is)));
        }
    from (inr (b, is)) =
        record {
          at = sym (ap (λ (x : Entry). x.path) is);
          by = inl (sym (ap (λ (x : Entry). x.followed) is), sym (ap (λ (x : Entry). x.kind) is));
        }

-- a link to a directory that is none of those that were entered
pub record LinksIn (g : Scene) (root : List ℕ) (b : Branch) (path : List ℕ) : Type 0 where
  pub m : Metadata
  pub stat : g.tree.stat path true ≡ Ok m
  pub is : is_dir m.file_type ≡ true
  pub id : Identity
  pub identity : identity_at g.tree path ≡ Ok id
  pub none_of : same_among g.tree id (entered root b) ≡ Ok None

-- an entry below a directory that was entered; a directory is a listed one, or such a link
pub record IsChild (g : Scene) (root : List ℕ) (b : Branch) (name : List ℕ) (kind : FileType) (e : Entry) : Type 0 where
  pub at : e.path ≡ path_of root (name ∷ b)
  pub dir : is_dir_kind e.kind ≡ true → (is_dir kind ≡ true) ⊎ LinksIn g root b (path_of root (name ∷ b))

pub child_ok : (g : Scene) (root : List ℕ) (b : Branch) (name : List ℕ) (kind : FileType) (e : Entry)
    → child g root b (thing.Entry name kind) ≡ Ok e → IsChild g root b name kind e
unfolding child
child_ok g root b name kind e h =
    let path = path_of root (name ∷ b) in
    let what = found g path (length b + 1) kind in
    let one = and_then_ok (λ (x : Entry). with_device g (is_dir_kind x.kind) x) (and_then (without_loop g.tree (entered root b)) what) e h in
    let two = and_then_ok (without_loop g.tree (entered root b)) what one.0 one.1 in
    let is = found_ok g path (length b + 1) kind two.0 two.1 in
    let free = without_loop_ok g.tree (entered root b) two.0 one.0 two.2 in
    let same : two.0 ≡ e = free.0 ∙ with_device_ok g (is_dir_kind one.0.kind) one.0 e one.2 in
    record {
      at = ap (λ (x : Entry). x.path) (sym same) ∙ is.at;
      dir = λ d. from two.0 is.at is.by free.1 (ap (λ (x : Entry). is_dir_kind x.kind) same ∙ d);
    }
  where
    from : (x : Entry) → x.path ≡ path_of root (name ∷ b) → ((x.followed ≡ false) × (x.kind ≡ Some kind))
        ⊎ ((x.followed ≡ true) × ((m : Metadata) × (g.tree.stat (path_of root (name ∷ b)) true ≡ Ok m) × (x.kind ≡ Some m.file_type)))
        → (x.followed ≡ true → is_dir_kind x.kind ≡ true → Apart g.tree x.path (entered root b))
        → is_dir_kind x.kind ≡ true → (is_dir kind ≡ true) ⊎ LinksIn g root b (path_of root (name ∷ b))
    from x at (inl (stays, is)) free d = inl (ap is_dir_kind (sym is) ∙ d)
    from x at (inr (follows, (m, s, is))) free d =
        let a = free follows d in
        inr (record {
          m = m;
          stat = s;
          is = ap is_dir_kind (sym is) ∙ d;
          id = a.id;
          identity = ap (identity_at g.tree) (sym at) ∙ a.known_as;
          none_of = a.none_of;
        })

parts : (a b : Bool) → a && not b ≡ true → (a ≡ true) × (b ≡ false)
parts true true h = absurd (cc (h))
parts true false h = (refl, refl)
parts false b h = absurd (cc (h))

-- a name that was listed
pub record IsListed (r : Result (List Listed) Fault) (name : List ℕ) (kind : FileType) : Type 0 where
  pub things : List Listed
  pub list : r ≡ Ok things
  pub has : Contains things (thing.Entry name kind)
  pub proper : is_proper name ≡ true
  pub flat : has_slash name ≡ false

named_is : (x : Listed) (name : List ℕ) (kind : FileType) → named x ≡ thing.Entry name kind
    → (x ≡ thing.Entry name kind) × (is_proper name ≡ true) × (has_slash name ≡ false)
named_is (thing.Entry n k) name kind h = from (is_proper n && not (has_slash n)) refl h
  where
    from : (b : Bool) → is_proper n && not (has_slash n) ≡ b → cond b (thing.Entry n k) (thing.Fault BadName) ≡ thing.Entry name kind
        → (thing.Entry n k ≡ thing.Entry name kind) × (is_proper name ≡ true) × (has_slash name ≡ false)
    from true e q =
        let is = parts (is_proper n) (has_slash n) e in
        let same : n ≡ name = cc (q) in
        (q, ap is_proper (sym same) ∙ is.0, ap has_slash (sym same) ∙ is.1)
    from false e q = absurd (cc (q))
named_is (thing.Fault f) name kind h = absurd (cc (h))

named_at : (xs : List Listed) (name : List ℕ) (kind : FileType) (i : ℕ) → i < length (map named xs)
    → get_or (map named xs) i (thing.Entry name kind) ≡ thing.Entry name kind
    → Contains xs (thing.Entry name kind) × (is_proper name ≡ true) × (has_slash name ≡ false)
named_at [] name kind i p h = absurd (omega (arith, p))
named_at (x ∷ xs) name kind zero p h = let is = named_is x name kind h in ((0, omega arith, is.0), is.1, is.2)
named_at (x ∷ xs) name kind (suc i) p h =
    let later = named_at xs name kind i (omega (arith, p)) h in
    let at = later.0 in
    let less = at.1 in
    ((suc at.0, omega (arith, less), at.2), later.1, later.2)

pub listed_ok : (r : Result (List Listed) Fault) (name : List ℕ) (kind : FileType) → Contains (listing_of r) (thing.Entry name kind)
    → IsListed r name kind
listed_ok (Ok xs) name kind h =
    let is = named_at xs name kind h.0 h.1 h.2 in
    record { things = xs; list = refl; has = is.0; proper = is.1; flat = is.2 }
listed_ok (Err f) name kind h = let p = h.1 in absurd (omega (arith, p))

pub no_fault : (g : Scene) (root : List ℕ) (b : Branch) (f : Fault) (e : Entry) → child g root b (thing.Fault f) ≡ Ok e → ⊥
unfolding child
no_fault g root b f e h = cc (h)

led : (s l m f : Bool) → cond s skip (cond (not l || m) yield (cond f load enter)) ≡ enter → l ≡ true
led true l m f h = absurd (cc (h))
led false true m f h = refl
led false false m f h = absurd (cc (h))

-- what is entered leads in
pub fate_in : (g : Scene) (root : List ℕ) (b : Branch) (e : Entry) → fate g root b e ≡ enter → leads_in g b e ≡ true
unfolding fate
fate_in g root b e h =
    led (is_skipped g root b e) (leads_in g b e) (is_deepest g.settings.max_depth e.depth) (is_foreign g root e) h

root_path : (b : Bool) (root : List ℕ) (x y : Entry) → x.path ≡ root → y.path ≡ root → (cond b x y).path ≡ root
root_path true root x y h k = h
root_path false root x y h k = k

-- a root is at its path
pub root_at : (g : Scene) (root : List ℕ) (e : Entry) → root_entry g root ≡ Ok e → e.path ≡ root
unfolding root_entry
root_at g root e h =
    let one = and_then_ok (with_device g (is_dir_there (g.tree.stat root true))) (or_failed root 0 (root_of g root) (g.tree.stat root false)) e h in
    let own = or_failed_ok root 0 (root_of g root) (g.tree.stat root false) one.0 one.1 in
    let led_to = or_failed_ok root 0 (λ (m : Metadata). Ok (root_by g root own.0.file_type m.file_type)) (g.tree.stat root true) one.0 own.2 in
    let is : root_by g root own.0.file_type led_to.0.file_type ≡ one.0 = cc (led_to.2) in
    ap (λ (x : Entry). x.path) (sym (is ∙ with_device_ok g (is_dir_there (g.tree.stat root true)) one.0 e one.2))
    ∙ root_path (stays_link g own.0.file_type led_to.0.file_type) root _ _ refl refl

pub found_dir : (r : Result Metadata Fault) → is_dir_there r ≡ true → (m : Metadata) × (r ≡ Ok m) × (is_dir m.file_type ≡ true)
found_dir (Ok m) h = (m, refl, h)
found_dir (Err f) h = absurd (cc (h))

pub dir_type : (kind : FileType) → is_dir kind ≡ true → kind ≡ type.Dir
dir_type type.File h = absurd (cc (h))
dir_type type.Dir h = refl
dir_type type.Symlink h = absurd (cc (h))
dir_type type.Other h = absurd (cc (h))
