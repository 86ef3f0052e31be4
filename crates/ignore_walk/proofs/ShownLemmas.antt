-- What is yielded is what is visited, kept, and not above the least depth.
use Rattle.std.proofs.Common.{◌≡◌, ◌≢◌, ◌⊎◌, ◌↔◌, inl, inr, ℕ, zero, suc, Bool, true, false, cond, not, ◌||◌, List, [], ◌∷◌, ◌++◌, map, codes, bytes_eq, option_to_list, Contains, Option, None, Some, Result, Ok, Err, refl, sym, ap, subst, arith, ⊎_elim}
use Rattle.std.proofs.lemmas.Bool.{both_ways}
use Rattle.std.proofs.lemmas.List.Elements.{Contains-append_cases, Contains-append_left, Contains-append_right}
use Rattle.std.proofs.lemmas.List.Sorted.{Contains-permutation, IsPermutation-sym}
use Rattle.ignore_base.specs.Problem.{Problem}
use Rattle.ignore_base.specs.declared.fault.Fault.{Fault}
use Rattle.ignore_files.specs.declared.types.FileType.{FileType}
use Rattle.ignore_files.specs.declared.types.Listed.{Listed}
use Rattle.ignore_files.specs.declared.types.Listed.TheVariants as thing
use Rattle.ignore_dir.specs.Above.{problems_of_loads}
use Rattle.ignore_dir.specs.Load.{joined_some}
use Rattle.ignore_dir.specs.declared.settings.Settings.{Settings}
use Rattle.ignore_dir.specs.Limits.{is_deepest}
use Rattle.ignore_walk.specs.Branch.{Branch}
use Rattle.ignore_walk.specs.Child.{branch_below, child}
use Rattle.ignore_walk.specs.Entry.{Entry, Item, stdin_entry}
use Rattle.ignore_walk.specs.Scene.{Scene}
use Rattle.ignore_walk.specs.Visits.{IsShown, IsShownBelow, IsVisited, IsYielded, at_root, listed}
use Rattle.ignore_walk.specs.Walked.{IsArranged, WalkedOne, WalkedEach, skip, yield, load, enter, closed, dir, failed, fate, is_at_least, is_foreign, is_skipped, leads_in, leaf, listing_of, loaded, more, none, skipped, unlisted, yielded}
use Rattle.ignore_walk.specs.Whole.{WalkedRoots, above_root, other, reported_before, root_entry, stdin, unseen}
use Rattle.ignore_walk.specs.Whole.{none as no_roots}
use Rattle.ignore_walk.proofs.ChildLemmas.{fault_is}
use Rattle.ignore_walk.proofs.Given.{one_dir, one_failed}

-- fates

by_yield : (s leaf foreign : Bool) → cond s skip (cond leaf yield (cond foreign load enter)) ≡ yield → s ≡ false
by_yield true l f h = absurd (cc (h))
by_yield false l f h = refl

by_load : (s leaf foreign : Bool) → cond s skip (cond leaf yield (cond foreign load enter)) ≡ load → s ≡ false
by_load true l f h = absurd (cc (h))
by_load false l f h = refl

by_enter : (s leaf foreign : Bool) → cond s skip (cond leaf yield (cond foreign load enter)) ≡ enter → (s ≡ false) × (leaf ≡ false)
by_enter true l f h = absurd (cc (h))
by_enter false true f h = absurd (cc (h))
by_enter false false f h = (refl, refl)

by_skip : (s leaf foreign : Bool) → s ≡ false → cond s skip (cond leaf yield (cond foreign load enter)) ≢ skip
by_skip true l f h k = cc (h)
by_skip false true f h k = cc (k)
by_skip false false true h k = cc (k)
by_skip false false false h k = cc (k)

module _ (g : Scene) (root : List ℕ) (b : Branch) (e : Entry) where
  abbrev pub stays : Bool
  stays = not (leads_in g b e) || is_deepest g.settings.max_depth e.depth

  yield_kept : fate g root b e ≡ yield → is_skipped g root b e ≡ false
  unfolding fate
  yield_kept h = by_yield (is_skipped g root b e) stays (is_foreign g root e) h

  load_kept : fate g root b e ≡ load → is_skipped g root b e ≡ false
  unfolding fate
  load_kept h = by_load (is_skipped g root b e) stays (is_foreign g root e) h

  pub enter_kept : fate g root b e ≡ enter → (is_skipped g root b e ≡ false) × (stays ≡ false)
  unfolding fate
  enter_kept h = by_enter (is_skipped g root b e) stays (is_foreign g root e) h

  not_skipped : is_skipped g root b e ≡ false → fate g root b e ≢ skip
  unfolding fate
  not_skipped h = by_skip (is_skipped g root b e) stays (is_foreign g root e) h

  pub entered_if : is_skipped g root b e ≡ false → stays ≡ false → is_foreign g root e ≡ false → fate g root b e ≡ enter
  unfolding fate
  entered_if h k l = rw (h, k, l) refl

-- what is yielded of an entry alone

pub entry_in : Entry → Item → Entry
entry_in e (Ok pair) = pair.0
entry_in e (Err p) = e

pub same_entry : (e f : Entry) (p q : Option Problem) → let x : Item = Ok (e, p) in x ≡ Ok (f, q) → e ≡ f
unfolding entry_in
same_entry e f p q h = ap (entry_in e) h

pub no_problem : (p : Problem) (f : Entry) (q : Option Problem) → let x : Item = Err p in x ≡ Ok (f, q) → ⊥
no_problem p f q h = cc (h)

pub own_entry : (s : Settings) (e f : Entry) (p q : Option Problem) → Contains (yielded s e p) (Ok (f, q))
    → (e ≡ f) × (is_at_least s.min_depth e.depth ≡ true)
own_entry s e f p q c = by (is_at_least s.min_depth e.depth) refl c
  where
    by : (b : Bool) → b ≡ is_at_least s.min_depth e.depth → Contains {X = Item} (cond b (Ok (e, p) ∷ []) []) (Ok (f, q))
        → (e ≡ f) × (is_at_least s.min_depth e.depth ≡ true)
    by true h (zero, l, k) = (same_entry e f p q k, sym h)
    by true h (suc i, l, k) = absurd (omega (arith, l))
    by false h (i, l, k) = absurd (omega (arith, l))

pub no_entry_of : (e f : Entry) (q : Option Problem) (r : Result (List Listed) Fault) → Contains (unlisted e r) (Ok (f, q)) → ⊥
no_entry_of e f q (Ok xs) (i, l, k) = omega (arith, l)
no_entry_of e f q (Err x) (zero, l, k) = no_problem _ f q k
no_entry_of e f q (Err x) (suc i, l, k) = omega (arith, l)

pub none_in : (p : Problem) (f : Entry) (q : Option Problem) (own : List Item) → own ≡ Err p ∷ [] → Contains own (Ok (f, q)) → ⊥
none_in p f q own is c = one (subst (λ (l : List Item). Contains l (Ok (f, q))) is c)
  where
    one : Contains {X = Item} (Err p ∷ []) (Ok (f, q)) → ⊥
    one (zero, l, k) = no_problem p f q k
    one (suc i, l, k) = omega (arith, l)

-- listed things

pub one_more : (x : Listed) (xs : List Listed) (t : Listed) → Contains xs t → Contains (x ∷ xs) t
one_more x xs t (k, l, e) = (suc k, omega (arith, l), e)

pub the_first : (x : Listed) (xs : List Listed) → Contains (x ∷ xs) x
the_first x xs = (0, omega arith, refl)

pub as_listed : (order : Option (List ℕ → List ℕ → List ℕ → Bool)) (path : List ℕ) (xs ys : List Listed) (x : Listed)
    → IsArranged order path xs ys
    → Contains ys x → Contains xs x
as_listed None path xs ys x a c = subst (λ (l : List Listed). Contains l x) a c
as_listed (Some order) path xs ys x a c = Contains-permutation ys xs x (IsPermutation-sym xs ys a.0) c

-- an item is that of an entry that is shown

shown_own : (g : Scene) (root : List ℕ) (b : Branch) (e f : Entry) (p q : Option Problem) → IsVisited g root b e
    → is_skipped g root b e ≡ false → Contains (yielded g.settings e p) (Ok (f, q)) → IsShown g root f
shown_own g root b e f p q v kept c =
    let own = own_entry g.settings e f p q c in
    subst (IsShown g root) own.0 (record { place = b; visited = v; kept = kept; deep = own.1 })

mutual
  pub shown_one : (g : Scene) (root : List ℕ) (b : Branch) (r : Result Entry Problem) (own : List Item) (m : ℕ)
      → (f : Entry) (q : Option Problem)
      → WalkedOne g root b r own m → ((e : Entry) → r ≡ Ok e → IsVisited g root b e) → Contains own (Ok (f, q)) → IsShown g root f
  shown_one g root b (Err p) own m f q failed visit c = absurd (none_in p f q (Err p ∷ []) refl c)
  shown_one g root b (Ok e) own m f q (skipped is) visit (i, l, k) = absurd (omega (arith, l))
  shown_one g root b (Ok e) own m f q (leaf is) visit c =
      shown_own g root b e f None q (visit e refl) (yield_kept g root b e is) c
  shown_one g root b (Ok e) own m f q (closed is) visit c =
      shown_own g root b e f (g.loads e.path).1 q (visit e refl) (load_kept g root b e is) c
  shown_one g root b (Ok e) own m f q (dir {xs = xs} {items = items} {n = k} is a w) visit c =
      ⊎_elim
      (λ (x : Contains (loaded g e) (Ok (f, q))).
      shown_own g root b e f (g.loads e.path).1 q (visit e refl) (enter_kept g root b e is).0 x)
      (λ (x : Contains (unlisted e (g.tree.list e.path) ++ items) (Ok (f, q))).
      ⊎_elim
      (λ (y : Contains (unlisted e (g.tree.list e.path)) (Ok (f, q))). absurd (no_entry_of e f q (g.tree.list e.path) y))
      (λ (y : Contains items (Ok (f, q))).
      shown_each g root b e xs items k f q w (visit e refl) is
      (λ (x : Listed) (s : Contains xs x). as_listed g.order e.path (listing_of (g.tree.list e.path)) xs x a s) y)
      (Contains-append_cases (unlisted e (g.tree.list e.path)) items (Ok (f, q)) x))
      (Contains-append_cases (loaded g e) (unlisted e (g.tree.list e.path) ++ items) (Ok (f, q)) c)

  shown_each : (g : Scene) (root : List ℕ) (b : Branch) (d : Entry) (xs : List Listed) (items : List Item) (m : ℕ)
      → (f : Entry) (q : Option Problem)
      → WalkedEach g root b xs items m → IsVisited g root b d → fate g root b d ≡ enter
      → ((x : Listed) → Contains xs x → Contains (listing_of (g.tree.list d.path)) x) → Contains items (Ok (f, q)) → IsShown g root f
  shown_each g root b d [] items m f q none v is among (i, l, k) = absurd (omega (arith, l))
  shown_each g root b d (thing.Fault x ∷ xs) items m f q
      (more {own = own} {others = others} {m = i} {n = j} w rest) v is among c =
      let failing = one_failed g root b _ own i (subst (λ (t : Result Entry Problem). WalkedOne g root b t own i)
      (fault_is g root b x) w) in
      ⊎_elim
      (λ (y : Contains own (Ok (f, q))). absurd (none_in _ f q own failing.0 y))
      (λ (y : Contains others (Ok (f, q))).
      shown_each g root b d xs others j f q rest v is
      (λ (t : Listed) (s : Contains xs t). among t (one_more (thing.Fault x) xs t s)) y)
      (Contains-append_cases own others (Ok (f, q)) c)
  shown_each g root b d (thing.Entry name kind ∷ xs) items m f q
      (more {own = own} {others = others} {m = i} {n = j} w rest) v is among c =
      ⊎_elim
      (λ (y : Contains own (Ok (f, q))).
      shown_one g root (name ∷ b) (child g root b (thing.Entry name kind)) own i f q w
      (λ (e : Entry) (h : child g root b (thing.Entry name kind) ≡ Ok e).
      listed v is (among (thing.Entry name kind) (the_first (thing.Entry name kind) xs)) h) y)
      (λ (y : Contains others (Ok (f, q))).
      shown_each g root b d xs others j f q rest v is
      (λ (t : Listed) (s : Contains xs t). among t (one_more (thing.Entry name kind) xs t s)) y)
      (Contains-append_cases own others (Ok (f, q)) c)

-- an entry that is visited is walked

-- what an entry gives is among the items
pub record WalkedAt (g : Scene) (root : List ℕ) (b : Branch) (e : Entry) (items : List Item) : Type 0 where
  pub own : List Item
  pub m : ℕ
  pub one : WalkedOne g root b (Ok e) own m
  pub among : (x : Item) → Contains own x → Contains items x

-- what one listed thing gives is among the items
record Given (g : Scene) (root : List ℕ) (b : Branch) (x : Listed) (items : List Item) : Type 0 where
  pub own : List Item
  pub m : ℕ
  pub one : WalkedOne g root (branch_below b x) (child g root b x) own m
  pub among : (i : Item) → Contains own i → Contains items i

given_from : (g : Scene) (root : List ℕ) (b : Branch) (x : Listed) (own others : List Item) → Given g root b x others
    → Given g root b x (own ++ others)
given_from g root b x own others t =
    record { own = t.own; m = t.m; one = t.one; among = λ i c. Contains-append_right own others i (t.among i c) }

given_each : (g : Scene) (root : List ℕ) (b : Branch) (xs : List Listed) (items : List Item) (m : ℕ) (x : Listed)
    → WalkedEach g root b xs items m → Contains xs x → Given g root b x items
given_each g root b [] items m x w (k, l, e) = absurd (omega (arith, l))
given_each g root b (y ∷ xs) items m x (more {own = own} {others = others} {m = i} w rest) (zero, l, e) =
    subst (λ (t : Listed). Given g root b t (own ++ others)) e
    (record { own = own; m = i; one = w; among = λ t c. Contains-append_left own others t c })
given_each g root b (y ∷ xs) items m x (more {own = own} {others = others} {n = j} w rest) (suc k, l, e) =
    given_from g root b x own others (given_each g root b xs others j x rest (k, omega (arith, l), e))

as_arranged : (order : Option (List ℕ → List ℕ → List ℕ → Bool)) (path : List ℕ) (xs ys : List Listed) (x : Listed)
    → IsArranged order path xs ys
    → Contains xs x → Contains ys x
as_arranged None path xs ys x a c = subst (λ (l : List Listed). Contains l x) (sym a) c
as_arranged (Some order) path xs ys x a c = Contains-permutation xs ys x a.0 c

walked_from : (g : Scene) (root : List ℕ) (b : Branch) (d e : Entry) (name : List ℕ) (kind : FileType) (items : List Item)
    → WalkedAt g root b d items
    → fate g root b d ≡ enter → Contains (listing_of (g.tree.list d.path)) (thing.Entry name kind)
    → child g root b (thing.Entry name kind) ≡ Ok e
    → WalkedAt g root (name ∷ b) e items
walked_from g root b d e name kind items t is c h =
    let x = thing.Entry name kind in
    let s = one_dir g root b d t.own t.m is t.one in
    let u = given_each g root b s.things s.items s.k x s.each
    (as_arranged g.order d.path (listing_of (g.tree.list d.path)) s.things x s.arranged c) in
    record {
      own = u.own;
      m = u.m;
      one = subst (λ (r : Result Entry Problem). WalkedOne g root (name ∷ b) r u.own u.m) h u.one;
      among = λ i k. t.among i (subst (λ (l : List Item). Contains l i) (sym s.are)
          (Contains-append_right (loaded g d) (unlisted d (g.tree.list d.path) ++ s.items) i
          (Contains-append_right (unlisted d (g.tree.list d.path)) s.items i (u.among i k))));
    }

walked : (g : Scene) (root : List ℕ) (b : Branch) (e : Entry) (items : List Item) (n : ℕ)
    → WalkedOne g root [] (root_entry g root) items n → IsVisited g root b e → WalkedAt g root b e items
walked g root [] e items n w (at_root h) =
    record { own = items; m = n; one = subst (λ (r : Result Entry Problem). WalkedOne g root [] r items n) h w; among = λ i c. c }
walked g root (name ∷ b) e items n w (listed {dir = d} {kind = kind} v is c h) =
    walked_from g root b d e name kind items (walked g root b d items n w v) is c h

-- and yielded, unless it is skipped or above the least depth

pub first_of_two : (s : Settings) (e : Entry) (p : Option Problem) (others : List Item) → is_at_least s.min_depth e.depth ≡ true
    → Contains (yielded s e p ++ others) (Ok (e, p))
first_of_two s e p others h = rw h (0, omega arith, refl)

pub yielded_one : (g : Scene) (root : List ℕ) (b : Branch) (e : Entry) (own : List Item) (m : ℕ) → WalkedOne g root b (Ok e) own m
    → is_skipped g root b e ≡ false → is_at_least g.settings.min_depth e.depth ≡ true → IsYielded own e
yielded_one g root b e own m (skipped is) kept least = absurd (not_skipped g root b e kept is)
yielded_one g root b e own m (leaf is) kept least = rw least (None, (0, omega arith, refl))
yielded_one g root b e own m (closed is) kept least = rw least ((g.loads e.path).1, (0, omega arith, refl))
yielded_one g root b e own m (dir {items = items} is a w) kept least =
    ((g.loads e.path).1, first_of_two g.settings e (g.loads e.path).1 (unlisted e (g.tree.list e.path) ++ items) least)

-- what is yielded under a root

pub yielded_shown : (g : Scene) (root : List ℕ) (e : Entry) (items : List Item) (n : ℕ) → WalkedOne g root [] (root_entry g root) items n
    → IsYielded items e → IsShown g root e
yielded_shown g root e items n w (p, c) =
    shown_one g root [] (root_entry g root) items n e p w (λ (d : Entry) (h : root_entry g root ≡ Ok d). at_root h) c

pub shown_yielded : (g : Scene) (root : List ℕ) (e : Entry) (items : List Item) (n : ℕ) → WalkedOne g root [] (root_entry g root) items n
    → IsShown g root e → IsYielded items e
shown_yielded g root e items n w s =
    let t = walked g root s.place e items n w s.visited in
    let y = yielded_one g root s.place e t.own t.m t.one s.kept s.deep in
    (y.0, t.among (Ok (e, y.0)) y.1)

pub shows : (g : Scene) (root : List ℕ) (e : Entry) (items : List Item) (n : ℕ) → WalkedOne g root [] (root_entry g root) items n
    → IsYielded items e ↔ IsShown g root e
shows g root e items n w = (yielded_shown g root e items n w, shown_yielded g root e items n w)

-- and by a whole walk

abbrev pub IsGiven : Scene → List (List ℕ) → Entry → Type 0
IsGiven g roots e = ((e ≡ stdin_entry) × Contains roots (codes "-")) ⊎ IsShownBelow g roots e

later : {X : Type 0} (x : X) (xs : List X) (y : X) → Contains xs y → Contains (x ∷ xs) y
later x xs y (k, l, e) = (suc k, omega (arith, l), e)

given_later : (g : Scene) (root : List ℕ) (roots : List (List ℕ)) (e : Entry) → IsGiven g roots e → IsGiven g (root ∷ roots) e
given_later g root roots e (inl s) = inl (s.0, later root roots (codes "-") s.1)
given_later g root roots e (inr k) =
    inr (record { root = k.root; given = later root roots k.root k.given; no_stdin = k.no_stdin; shown = k.shown })

no_entry : (o : Option Problem) (e : Entry) (p : Option Problem)
    → Contains (map Err (option_to_list o)) (let x : Item = Ok (e, p) in x) → ⊥
no_entry None e p (k, l, h) = omega (arith, l)
no_entry (Some x) e p (zero, l, h) = no_problem x e p h
no_entry (Some x) e p (suc k, l, h) = omega (arith, l)

whole_given : (g : Scene) (seen roots : List (List ℕ)) (e : Entry) (items : List Item) (n : ℕ)
    → WalkedRoots g seen roots items n → IsYielded items e → IsGiven g roots e
whole_given g seen [] e items n no_roots (p, (k, l, h)) = absurd (omega (arith, l))
whole_given g seen (root ∷ roots) e items n (stdin {items = rest} {n = m} w) (p, (zero, l, h)) =
    inl (sym (same_entry stdin_entry e None p h), (0, omega arith, refl))
whole_given g seen (root ∷ roots) e items n (stdin {items = rest} {n = m} w) (p, (suc k, l, h)) =
    given_later g root roots e (whole_given g seen roots e rest m w (p, (k, omega (arith, l), h)))
whole_given g seen (root ∷ roots) e items n (other {own = own} {items = rest} {m = i} {n = m} file w all) (p, c) =
    ⊎_elim
    (λ (x : Contains (reported_before g seen root) (Ok (e, p))).
    absurd (no_entry (joined_some (problems_of_loads g.loads (unseen seen (above_root g root)))) e p x))
    (λ (x : Contains (own ++ rest) (Ok (e, p))).
    ⊎_elim
    (λ (y : Contains own (Ok (e, p))).
    inr (record { root = root; given = (0, omega arith, refl); no_stdin = file; shown = yielded_shown g root e own i w (p, y) }))
    (λ (y : Contains rest (Ok (e, p))). given_later g root roots e (whole_given g (seen ++ above_root g root) roots e rest m all (p, y)))
    (Contains-append_cases own rest (Ok (e, p)) x))
    (Contains-append_cases (reported_before g seen root) (own ++ rest) (Ok (e, p)) c)

yielded_later : (own items : List Item) (e : Entry) → IsYielded items e → IsYielded (own ++ items) e
yielded_later own items e (p, c) = (p, Contains-append_right own items (Ok (e, p)) c)

no_root : (root : List ℕ) → bytes_eq root (codes "-") ≡ false → root ≡ codes "-" → ⊥
no_root root h e = both_ways _ h (subst (λ (r : List ℕ). bytes_eq r (codes "-") ≡ true) (sym e) refl)

stdin_yielded : (g : Scene) (seen roots : List (List ℕ)) (items : List Item) (n : ℕ) → WalkedRoots g seen roots items n
    → Contains roots (codes "-") → IsYielded items stdin_entry
stdin_yielded g seen [] items n w (k, l, h) = absurd (omega (arith, l))
stdin_yielded g seen (root ∷ roots) items n (stdin w) c = (None, (0, omega arith, refl))
stdin_yielded g seen (root ∷ roots) items n (other file w all) (zero, l, h) = absurd (no_root root file h)
stdin_yielded g seen (root ∷ roots) items n (other {own = own} {items = rest} {n = m} file w all) (suc k, l, h) =
    yielded_later (reported_before g seen root) (own ++ rest) stdin_entry
    (yielded_later own rest stdin_entry (stdin_yielded g (seen ++ above_root g root) roots rest m all (k, omega (arith, l), h)))

root_yielded : (g : Scene) (seen roots : List (List ℕ)) (items : List Item) (n : ℕ) (root : List ℕ) (e : Entry)
    → WalkedRoots g seen roots items n → bytes_eq root (codes "-") ≡ false → IsShown g root e → Contains roots root → IsYielded items e
root_yielded g seen [] items n root e w file t (k, l, h) = absurd (omega (arith, l))
root_yielded g seen (r ∷ roots) items n root e (stdin w) file t (zero, l, h) = absurd (no_root root file (sym h))
root_yielded g seen (r ∷ roots) items n root e (stdin {items = rest} {n = m} w) file t (suc k, l, h) =
    yielded_later (Ok (stdin_entry, None) ∷ []) rest e (root_yielded g seen roots rest m root e w file t (k, omega (arith, l), h))
root_yielded g seen (r ∷ roots) items n root e (other {own = own} {items = rest} {m = i} given w all) file t (zero, l, h) =
    let y = shown_yielded g r e own i w (subst (λ (x : List ℕ). IsShown g x e) (sym h) t) in
    yielded_later (reported_before g seen r) (own ++ rest) e (y.0, Contains-append_left own rest (Ok (e, y.0)) y.1)
root_yielded g seen (r ∷ roots) items n root e (other {own = own} {items = rest} {n = m} given w all) file t (suc k, l, h) =
    yielded_later (reported_before g seen r) (own ++ rest) e
    (yielded_later own rest e (root_yielded g (seen ++ above_root g r) roots rest m root e all file t (k, omega (arith, l), h)))

pub whole_shows : (g : Scene) (roots : List (List ℕ)) (e : Entry) (items : List Item) (n : ℕ) → WalkedRoots g [] roots items n
    → IsYielded items e ↔ IsGiven g roots e
whole_shows g roots e items n w = (
  whole_given g [] roots e items n w,
  λ (k : IsGiven g roots e).
      ⊎_elim
      (λ (s : (e ≡ stdin_entry) × Contains roots (codes "-")). subst (IsYielded items) (sym s.0) (stdin_yielded g [] roots items n w s.1))
      (λ (t : IsShownBelow g roots e). root_yielded g [] roots items n t.root e w t.no_stdin t.shown t.given)
      k,
)
