-- Each entry comes after the directory that lists it.
use Rattle.std.proofs.Common.{◌≡◌, ◌⊎◌, inl, inr, ℕ, List, [], ◌∷◌, ◌++◌, Contains, Option, None, Result, Ok, Err, refl, sym, ap, subst, arith, ⊎_elim}
use Rattle.std.proofs.lemmas.List.Elements.{Contains-append_right}
use Rattle.ignore_base.specs.Problem.{Problem}
use Rattle.ignore_files.specs.declared.types.FileType.{FileType}
use Rattle.ignore_files.specs.declared.types.Listed.{Listed}
use Rattle.ignore_files.specs.declared.types.Listed.TheVariants as thing
use Rattle.ignore_walk.specs.Branch.{Branch}
use Rattle.ignore_walk.specs.Child.{child}
use Rattle.ignore_walk.specs.Entry.{Entry, Item}
use Rattle.ignore_walk.specs.Scene.{Scene}
use Rattle.ignore_walk.specs.Visits.{IsAfterParent, IsVisited, IsYielded, at_root, listed}
use Rattle.ignore_walk.specs.Walked.{WalkedOne, WalkedEach, closed, dir, enter, failed, fate, leaf, listing_of, loaded, more, none, skipped, unlisted, yielded}
use Rattle.ignore_walk.specs.Whole.{root_entry}
use Rattle.ignore_walk.proofs.ChildLemmas.{fault_is}
use Rattle.ignore_walk.proofs.Given.{one_failed}
use Rattle.ignore_walk.proofs.ShownLemmas.{as_listed, first_of_two, no_entry_of, none_in, one_more, own_entry, the_first}

-- an element of two lists in a row is in the first, or in the second after all of the first

record InFirst {X : Type 0} (xs front : List X) (z : X) : Type 0 where
  rest : List X
  are : xs ≡ front ++ z ∷ rest

record InSecond {X : Type 0} (xs ys front : List X) (z : X) (back : List X) : Type 0 where
  before : List X
  first : front ≡ xs ++ before
  second : ys ≡ before ++ z ∷ back

module _ {X : Type 0} where
  more_first : (w : X) (xs front : List X) (z : X) → InFirst xs front z → InFirst (w ∷ xs) (w ∷ front) z
  more_first w xs front z t = record { rest = t.rest; are = ap (λ (l : List X). w ∷ l) t.are }

  more_second : (w : X) (xs ys front : List X) (z : X) (back : List X) → InSecond xs ys front z back
      → InSecond (w ∷ xs) ys (w ∷ front) z back
  more_second w xs ys front z back t = record { before = t.before; first = ap (λ (l : List X). w ∷ l) t.first; second = t.second }

  split : (xs ys front : List X) (z : X) (back : List X) → xs ++ ys ≡ front ++ z ∷ back → InFirst xs front z ⊎ InSecond xs ys front z back
  split [] ys front z back h = inr (record { before = front; first = refl; second = h })
  split (x ∷ xs) ys [] z back h = let same : x ≡ z = cc (h) in inl (record { rest = xs; are = ap (λ (w : X). w ∷ xs) same })
  split (x ∷ xs) ys (w ∷ front) z back h =
      let same : x ≡ w = cc (h) in
      let tails : xs ++ ys ≡ front ++ z ∷ back = cc (h) in
      subst (λ (v : X). InFirst (x ∷ xs) (v ∷ front) z ⊎ InSecond (x ∷ xs) ys (v ∷ front) z back) same
      (⊎_elim
      (λ (t : InFirst xs front z). inl (more_first x xs front z t))
      (λ (t : InSecond xs ys front z back). inr (more_second x xs ys front z back t))
      (split xs ys front z back tails))

  contains-at : (front : List X) (z : X) (back : List X) → Contains (front ++ z ∷ back) z
  contains-at front z back = Contains-append_right front (z ∷ back) z (0, omega arith, refl)

  contains-is : (xs front : List X) (z : X) (back : List X) → xs ≡ front ++ z ∷ back → Contains xs z
  contains-is xs front z back h = subst (λ (l : List X). Contains l z) (sym h) (contains-at front z back)

later_items : (first before : List Item) (e : Entry) → IsYielded before e → IsYielded (first ++ before) e
later_items first before e (p, c) = (p, Contains-append_right first before (Ok (e, p)) c)

after_more : (g : Scene) (root : List ℕ) (first before front : List Item) (e : Entry) → front ≡ first ++ before
    → IsAfterParent g root before e → IsAfterParent g root front e
after_more g root first before front e is t =
    subst (λ (l : List Item). IsAfterParent g root l e) (sym is)
    (record {
      place = t.place;
      dir = t.dir;
      name = t.name;
      kind = t.kind;
      visited = t.visited;
      enters = t.enters;
      lists = t.lists;
      is = t.is;
      after = λ deep. later_items first before t.dir (t.after deep);
    })

-- an entry is one that the directory at a place lists
record IsChild (g : Scene) (root : List ℕ) (b : Branch) (d e : Entry) : Type 0 where
  name : List ℕ
  kind : FileType
  lists : Contains (listing_of (g.tree.list d.path)) (thing.Entry name kind)
  is : child g root b (thing.Entry name kind) ≡ Ok e

child_after : (g : Scene) (root : List ℕ) (b : Branch) (d f : Entry) (front others : List Item) → IsVisited g root b d
    → fate g root b d ≡ enter → front ≡ loaded g d ++ others → IsChild g root b d f → IsAfterParent g root front f
child_after g root b d f front others v enters is t =
    record {
      place = b;
      dir = d;
      name = t.name;
      kind = t.kind;
      visited = v;
      enters = enters;
      lists = t.lists;
      is = t.is;
      after = λ deep. (
        (g.loads d.path).1,
        subst (λ (l : List Item). Contains l (Ok (d, (g.loads d.path).1))) (sym is)
            (first_of_two g.settings d (g.loads d.path).1 others deep),
      );
    }

parent_later : (g : Scene) (root : List ℕ) (b : Branch) (d : Entry) (first before front : List Item) (f : Entry) → front ≡ first ++ before
    → IsChild g root b d f ⊎ IsAfterParent g root before f → IsChild g root b d f ⊎ IsAfterParent g root front f
parent_later g root b d first before front f is (inl c) = inl c
parent_later g root b d first before front f is (inr c) = inr (after_more g root first before front f is c)

abbrev ok : Entry → Result Entry Problem
ok e = Ok e

no_item : {x : Item} → Contains [] x → ⊥
no_item (k, l, h) = omega (arith, l)

mutual
  pub parent_one : (g : Scene) (root : List ℕ) (b : Branch) (r : Result Entry Problem) (own : List Item) (m : ℕ)
      → (front back : List Item) (f : Entry) (q : Option Problem)
      → WalkedOne g root b r own m → ((e : Entry) → r ≡ Ok e → IsVisited g root b e) → own ≡ front ++ Ok (f, q) ∷ back
      → (r ≡ Ok f) ⊎ IsAfterParent g root front f
  parent_one g root b (Err p) own m front back f q failed visit h =
      absurd (none_in p f q (Err p ∷ []) refl (contains-is (Err p ∷ []) front (Ok (f, q)) back h))
  parent_one g root b (Ok e) own m front back f q (skipped is) visit h = absurd (no_item (contains-is [] front (Ok (f, q)) back h))
  parent_one g root b (Ok e) own m front back f q (leaf is) visit h =
      inl (ap (λ (x : Entry). ok x) (own_entry g.settings e f None q (contains-is (yielded g.settings e None) front (Ok (f, q)) back h)).0)
  parent_one g root b (Ok e) own m front back f q (closed is) visit h =
      inl (ap (λ (x : Entry). ok x) (own_entry g.settings e f (g.loads e.path).1 q (contains-is (loaded g e) front (Ok (f, q)) back h)).0)
  parent_one g root b (Ok e) own m front back f q (dir {xs = xs} {items = items} {n = k} is a w) visit h =
      let fault = unlisted e (g.tree.list e.path) in
      ⊎_elim
      (λ (t : InFirst (loaded g e) front (Ok (f, q))).
      inl (ap (λ (x : Entry). ok x)
      (own_entry g.settings e f (g.loads e.path).1 q (contains-is (loaded g e) front (Ok (f, q)) t.rest t.are)).0))
      (λ (t : InSecond (loaded g e) (fault ++ items) front (Ok (f, q)) back).
      ⊎_elim
      (λ (u : InFirst fault t.before (Ok (f, q))).
      absurd (no_entry_of e f q (g.tree.list e.path) (contains-is fault t.before (Ok (f, q)) u.rest u.are)))
      (λ (u : InSecond fault items t.before (Ok (f, q)) back).
      inr (⊎_elim
      (λ (c : IsChild g root b e f). child_after g root b e f front t.before (visit e refl) is t.first c)
      (λ (c : IsAfterParent g root u.before f).
      after_more g root (loaded g e) t.before front f t.first (after_more g root fault u.before t.before f u.first c))
      (parent_each g root b e xs items k u.before back f q w (visit e refl) is
      (λ (x : Listed) (s : Contains xs x). as_listed g.order e.path (listing_of (g.tree.list e.path)) xs x a s) u.second)))
      (split fault items t.before (Ok (f, q)) back t.second))
      (split (loaded g e) (fault ++ items) front (Ok (f, q)) back h)

  parent_each : (g : Scene) (root : List ℕ) (b : Branch) (d : Entry) (xs : List Listed) (items : List Item) (m : ℕ)
      → (front back : List Item) (f : Entry) (q : Option Problem)
      → WalkedEach g root b xs items m → IsVisited g root b d → fate g root b d ≡ enter
      → ((x : Listed) → Contains xs x → Contains (listing_of (g.tree.list d.path)) x) → items ≡ front ++ Ok (f, q) ∷ back
      → IsChild g root b d f ⊎ IsAfterParent g root front f
  parent_each g root b d [] items m front back f q none v is among h = absurd (no_item (contains-is [] front (Ok (f, q)) back h))
  parent_each g root b d (thing.Fault x ∷ xs) items m front back f q
      (more {own = own} {others = others} {m = i} {n = j} w rest) v is among h =
      let failing = one_failed g root b _ own i
      (subst (λ (t : Result Entry Problem). WalkedOne g root b t own i) (fault_is g root b x) w) in
      ⊎_elim
      (λ (t : InFirst own front (Ok (f, q))). absurd (none_in _ f q own failing.0 (contains-is own front (Ok (f, q)) t.rest t.are)))
      (λ (t : InSecond own others front (Ok (f, q)) back).
      parent_later g root b d own t.before front f t.first
      (parent_each g root b d xs others j t.before back f q rest v is
      (λ (y : Listed) (s : Contains xs y). among y (one_more (thing.Fault x) xs y s)) t.second))
      (split own others front (Ok (f, q)) back h)
  parent_each g root b d (thing.Entry name kind ∷ xs) items m front back f q
      (more {own = own} {others = others} {m = i} {n = j} w rest) v is among h =
      ⊎_elim
      (λ (t : InFirst own front (Ok (f, q))).
      ⊎_elim
      (λ (s : child g root b (thing.Entry name kind) ≡ Ok f). inl (record {
        name = name;
        kind = kind;
        lists = among (thing.Entry name kind) (the_first (thing.Entry name kind) xs);
        is = s;
      }))
      (λ (s : IsAfterParent g root front f). inr s)
      (parent_one g root (name ∷ b) (child g root b (thing.Entry name kind)) own i front t.rest f q w
      (λ (e : Entry) (s : child g root b (thing.Entry name kind) ≡ Ok e).
      listed v is (among (thing.Entry name kind) (the_first (thing.Entry name kind) xs)) s) t.are))
      (λ (t : InSecond own others front (Ok (f, q)) back).
      parent_later g root b d own t.before front f t.first
      (parent_each g root b d xs others j t.before back f q rest v is
      (λ (y : Listed) (s : Contains xs y). among y (one_more (thing.Entry name kind) xs y s)) t.second))
      (split own others front (Ok (f, q)) back h)

pub parents : (g : Scene) (root : List ℕ) (e : Entry) (p : Option Problem) (front back : List Item) (n : ℕ)
    → WalkedOne g root [] (root_entry g root) (front ++ Ok (e, p) ∷ back) n
    → (root_entry g root ≡ Ok e) ⊎ IsAfterParent g root front e
parents g root e p front back n w =
    parent_one g root [] (root_entry g root) (front ++ Ok (e, p) ∷ back) n front back e p w
    (λ (d : Entry) (h : root_entry g root ≡ Ok d). at_root h) refl

-- an entry that comes after the directory that lists it is visited at a place below it
pub after_visited : (g : Scene) (root : List ℕ) (front : List Item) (e : Entry) (t : IsAfterParent g root front e)
    → IsVisited g root (t.name ∷ t.place) e
after_visited g root front e t = listed t.visited t.enters t.lists t.is

-- without a least depth no such entry comes first of all, since its directory is before it
pub none_first : (g : Scene) (root : List ℕ) (e : Entry) → g.settings.min_depth ≡ None → IsAfterParent g root [] e → ⊥
none_first g root e unset t = no_item (t.after (rw unset refl)).1
