-- Which entries a survey yields: those that listings lead to through directories below which it goes on.
use Rattle.std.proofs.Common.{◌≡◌, ℕ, zero, suc, ◌+◌, true, false, not, List, [], ◌∷◌, ◌++◌, length, map, reverse, Contains, Some, Result, Ok, Err, inl, inr, refl, sym, ◌∙◌, ap, subst, arith, add-one}
use Rattle.std.proofs.lemmas.List.Elements.{Contains-append_left, Contains-append_right, Contains-append_cases}
use Rattle.std.proofs.lemmas.List.Sorted.{Contains-permutation}
use Rattle.ignore_base.specs.Paths.{JoinsName, join_of, joined}
use Rattle.ignore_base.specs.Problem.{Problem}
use Rattle.ignore_base.specs.Text.{Bytes, Path}
use Rattle.ignore_base.specs.declared.fault.Fault.{Fault}
use Rattle.ignore_dir.specs.Query.{depth_of_path, query}
use Rattle.ignore_dir.specs.Scene as below
use Rattle.ignore_dir.specs.Verdict.{is_ignore}
use Rattle.ignore_files.specs.Kinds.{is_dir}
use Rattle.ignore_files.specs.declared.types.FileType.{FileType}
use Rattle.ignore_files.specs.declared.types.Listed.{Listed}
use Rattle.ignore_files.specs.declared.types.Listed.TheVariants as thing
use Rattle.ignore_walk.proofs.PlaceNames.{AreNames}
use Rattle.ignore_walk.proofs.ReachLemmas.{reach_names, reach_path}
use Rattle.ignore_walk.proofs.ShownLemmas.{as_listed, one_more, the_first}
use Rattle.ignore_walk.specs.Agreement.{Reachable}
use Rattle.ignore_walk.specs.Agreement.{listed as reach_listed}
use Rattle.ignore_walk.specs.Branch.{Branch, path_of}
use Rattle.ignore_walk.specs.Child.{named}
use Rattle.ignore_walk.specs.Entry.{Entry as Walked}
use Rattle.ignore_walk.specs.Scene.{Scene, queries}
use Rattle.ignore_walk.specs.Walked.{leads_in, listing_of}
use Rattle.ignore_survey.specs.Agreement.{IsPlain, walked}
use Rattle.ignore_survey.specs.Survey.{Below, Each, Entry, Item, by_name, entry_at, goes_on, place}
use Rattle.ignore_survey.specs.Survey.{fails, lists, none, fault, leaf, inner}
use Rattle.ignore_survey.proofs.AgreeLemmas.{child-plain, depth-at, descends_dir, joined-push, place-at, query-fair}

-- items

entry_is : (e f : Entry) → let x : Item = Ok e in x ≡ Ok f → f ≡ e
entry_is e f h = cc (h)

no_entry : (p : Problem) (f : Entry) → let x : Item = Err p in x ≡ Ok f → ⊥
no_entry p f h = cc (h)

not_alone : (p : Problem) (f : Entry) → Contains {X = Item} (Err p ∷ []) (Ok f) → ⊥
not_alone p f (zero, l, k) = no_entry p f k
not_alone p f (suc i, l, k) = omega (arith, l)

same_name : (n m : Bytes) (k l : FileType) → thing.Entry n k ≡ thing.Entry m l → (n ≡ m) × (k ≡ l)
same_name n m k l h = (cc (h), cc (h))

-- an item of some more

first : (x : Item) (xs : List Item) → Contains (x ∷ xs) x
first x xs = (0, omega arith, refl)

later : (x y : Item) (xs : List Item) → Contains xs y → Contains (x ∷ xs) y
later x y xs (k, l, e) = (suc k, omega (arith, l), e)

module _ (w : Scene) (root : Path) (join : JoinsName) (plain : IsPlain w) where
  abbrev g : below.QueryScene
  g = queries w root

  -- an entry of a survey, and the entry of the walk at its place
  pub record Found (e : Entry) : Type 0 where
    pub b : Branch
    pub name : Bytes
    pub v : Walked
    pub reached : Reachable w root (name ∷ b) v
    pub path : e.path ≡ joined (reverse (name ∷ b))
    pub asked : e ≡ entry_at g e.path e.kind
    pub is : v ≡ walked root e

  abbrev pub entry_with : Path → ℕ → FileType → Walked
  entry_with path depth kind = record { path = path; depth = depth; kind = Some kind; followed = false }

  abbrev pub entry_below : Branch → Bytes → FileType → Walked
  entry_below b name kind = entry_with (path_of root (name ∷ b)) (length b + 1) kind

  -- where a directory is, by its path below the root
  pub dir_place : (b : Branch) (d : Walked) (dir : Path) → dir ≡ joined (reverse b) → Reachable w root b d → d.path ≡ place root dir
  dir_place b d dir at r =
      reach_path w root b d r ∙ (sym (place-at join root b (reach_names w root b d r)) ∙ ap (place root) (sym at))

  listed_below : (b : Branch) (d : Walked) (name : Bytes) (kind : FileType) → Reachable w root b d → leads_in w b d ≡ true
      → Contains (listing_of (w.tree.list d.path)) (thing.Entry name kind) → Reachable w root (name ∷ b) (entry_below b name kind)
  listed_below b d name kind r l c =
      reach_listed {dir = d} {kind = kind} r l c (child-plain w root b name kind plain.no_links plain.is_open.all_devices)

  pub path_below : (b : Branch) (name : Bytes) (dir : Path) → dir ≡ joined (reverse b) → AreNames (name ∷ b)
      → join_of dir name ≡ joined (reverse (name ∷ b))
  path_below b name dir at names = ap (λ (p : Path). join_of p name) at ∙ joined-push join b name names

  pub is_walked : (b : Branch) (name : Bytes) (kind : FileType) (dir : Path) → dir ≡ joined (reverse b) → AreNames (name ∷ b)
      → entry_below b name kind ≡ walked root (entry_at g (join_of dir name) kind)
  is_walked b name kind dir at names =
      let path = path_below b name dir at names in
      let there : path_of root (name ∷ b) ≡ place root (join_of dir name) =
      sym (ap (place root) path ∙ place-at join root (name ∷ b) names) in
      let deep : length b + 1 ≡ depth_of_path (join_of dir name) = add-one (length b) ∙ sym (ap depth_of_path path ∙ depth-at (name ∷ b) names) in
      ap (λ (p : Path). entry_with p (length b + 1) kind) there ∙ ap (λ (n : ℕ). entry_with (place root (join_of dir name)) n kind) deep

  found : (b : Branch) (d : Walked) (dir : Path) (name : Bytes) (kind : FileType) (e : Entry) → dir ≡ joined (reverse b)
      → Reachable w root b d → leads_in w b d ≡ true → Contains (listing_of (w.tree.list d.path)) (thing.Entry name kind)
      → e ≡ entry_at g (join_of dir name) kind → Found e
  found b d dir name kind e at r l c is =
      let reached = listed_below b d name kind r l c in
      let names = reach_names w root (name ∷ b) (entry_below b name kind) reached in
      record {
        b = b;
        name = name;
        v = entry_below b name kind;
        reached = reached;
        path = ap (λ (x : Entry). x.path) is ∙ path_below b name dir at names;
        asked = is ∙ ap (λ (x : Entry). entry_at g x.path x.kind) (sym is);
        is = is_walked b name kind dir at names ∙ ap (walked root) (sym is);
      }

  -- where a survey goes on is a directory
  dir_kind : (path : Path) (kind : FileType) → goes_on g path kind ≡ true → is_dir kind ≡ true
  dir_kind path kind goes =
      let fair = query-fair g path (is_dir kind) (plain.no_least, plain.no_greatest) in
      descends_dir (is_dir kind) (not (is_ignore (query g path (is_dir kind)).0.verdict)) (sym fair.1 ∙ goes)

  -- each entry of a survey is one that listings lead to
  mutual
    pub in_below : (b : Branch) (d : Walked) (dir : Path) (own : List Item) (e : Entry) → dir ≡ joined (reverse b)
        → Reachable w root b d → leads_in w b d ≡ true → Below g dir own → Contains own (Ok e) → Found e
    in_below b d dir own e at r l (fails shut) c = absurd (not_alone _ e c)
    in_below b d dir own e at r l (lists {things = things} (xs, is, arranged) each) c =
        let its : w.tree.list d.path ≡ Ok xs = ap w.tree.list (dir_place b d dir at r) ∙ is in
        in_each b d dir things own e at r l
        (λ x h. subst (λ (a : Result (List Listed) Fault). Contains (listing_of a) x) (sym its)
        (as_listed by_name (place root dir) (map named xs) things x arranged h)) each c

    in_each : (b : Branch) (d : Walked) (dir : Path) (things : List Listed) (own : List Item) (e : Entry) → dir ≡ joined (reverse b)
        → Reachable w root b d → leads_in w b d ≡ true → ((x : Listed) → Contains things x → Contains (listing_of (w.tree.list d.path)) x)
        → Each g dir things own → Contains own (Ok e) → Found e
    in_each b d dir things own e at r l sub none (k, less, is) = absurd (omega (arith, less))
    in_each b d dir things own e at r l sub (fault each) (zero, less, is) = absurd (no_entry _ e is)
    in_each b d dir things own e at r l sub (fault {f = f} {things = xs} {items = items} each) (suc k, less, is) =
        in_each b d dir xs items e at r l (λ x h. sub x (one_more (thing.Fault f) xs x h)) each (k, omega (arith, less), is)
    in_each b d dir things own e at r l sub (leaf {name = name} {kind = kind} {things = xs} shut each) (zero, less, is) =
        found b d dir name kind e at r l (sub (thing.Entry name kind) (the_first (thing.Entry name kind) xs)) (entry_is _ e is)
    in_each b d dir things own e at r l sub (leaf {name = name} {kind = kind} {things = xs} {items = items} shut each) (suc k, less, is) =
        in_each b d dir xs items e at r l (λ x h. sub x (one_more (thing.Entry name kind) xs x h)) each (k, omega (arith, less), is)
    in_each b d dir things own e at r l sub (inner {name = name} {kind = kind} {things = xs} goes below each) (zero, less, is) =
        found b d dir name kind e at r l (sub (thing.Entry name kind) (the_first (thing.Entry name kind) xs)) (entry_is _ e is)
    in_each b d dir things own e at r l sub
        (inner {name = name} {kind = kind} {things = xs} {inside = inside} {items = items} goes below each) (suc k, less, is) =
        let reached = listed_below b d name kind r l (sub (thing.Entry name kind) (the_first (thing.Entry name kind) xs)) in
        let names = reach_names w root (name ∷ b) (entry_below b name kind) reached in
        elim (Contains-append_cases inside items (Ok e) (k, omega (arith, less), is)) [
          | inl h ↦ in_below (name ∷ b) (entry_below b name kind) (join_of dir name) inside e (path_below b name dir at names) reached
              (dir_kind (join_of dir name) kind goes) below h
          | inr h ↦ in_each b d dir xs items e at r l (λ x i. sub x (one_more (thing.Entry name kind) xs x i)) each h
        ]

  -- what is below a directory is among some items of a survey
  pub record Within (items : List Item) (dir : Path) : Type 0 where
    pub inside : List Item
    pub below : Below g dir inside
    pub among : (x : Item) → Contains inside x → Contains items x

  widen : (xs ys : List Item) (dir : Path) → ((x : Item) → Contains xs x → Contains ys x) → Within xs dir → Within ys dir
  widen xs ys dir more i = record { inside = i.inside; below = i.below; among = λ x h. more x (i.among x h) }

  -- an entry is among the items, and what is below it, where the survey goes on there
  abbrev pub Has : List Item → Path → FileType → Type 0
  Has items path kind = Contains items (Ok (entry_at g path kind)) × (goes_on g path kind ≡ true → Within items path)

  has_more : (xs ys : List Item) (path : Path) (kind : FileType) → ((x : Item) → Contains xs x → Contains ys x) → Has xs path kind
      → Has ys path kind
  has_more xs ys path kind more h = (more _ h.0, λ goes. widen xs ys path more (h.1 goes))

  has_same : (items : List Item) (dir n m : Bytes) (k l : FileType) → thing.Entry n k ≡ thing.Entry m l → Has items (join_of dir n) k
      → Has items (join_of dir m) l
  has_same items dir n m k l is h =
      let same = same_name n m k l is in
      subst (λ (t : FileType). Has items (join_of dir m) t) same.1 (subst (λ (t : Bytes). Has items (join_of dir t) k) same.0 h)

  has : (dir : Path) (things : List Listed) (own : List Item) (name : Bytes) (kind : FileType) → Each g dir things own
      → Contains things (thing.Entry name kind) → Has own (join_of dir name) kind
  has dir things own name kind none (k, less, is) = absurd (omega (arith, less))
  has dir things own name kind (fault each) (zero, less, is) = absurd (cc (is))
  has dir things own name kind (fault {things = xs} {items = items} each) (suc k, less, is) =
      has_more items own (join_of dir name) kind (λ x h. later _ x items h) (has dir xs items name kind each (k, omega (arith, less), is))
  has dir things own name kind (leaf {name = n} {kind = l} {items = items} shut each) (zero, less, is) =
      has_same own dir n name l kind is (first _ items, λ goes. absurd (let e = sym shut ∙ goes in cc (e)))
  has dir things own name kind (leaf {things = xs} {items = items} shut each) (suc k, less, is) =
      has_more items own (join_of dir name) kind (λ x h. later _ x items h) (has dir xs items name kind each (k, omega (arith, less), is))
  has dir things own name kind (inner {name = n} {kind = l} {inside = inside} {items = items} goes below each) (zero, less, is) =
      has_same own dir n name l kind is (
        first _ (inside ++ items),
        λ h. record {
          inside = inside;
          below = below;
          among = λ x i. later _ x (inside ++ items) (Contains-append_left inside items x i);
        },
      )
  has dir things own name kind (inner {things = xs} {inside = inside} {items = items} goes below each) (suc k, less, is) =
      has_more items own (join_of dir name) kind (λ x h. later _ x (inside ++ items) (Contains-append_right inside items x h))
      (has dir xs items name kind each (k, omega (arith, less), is))

  -- each entry that a directory lists has its own, where what is below the directory is among the items
  pub listed_has : (d : Walked) (dir : Path) (items : List Item) (name : Bytes) (kind : FileType) → d.path ≡ place root dir
      → Within items dir → Contains (listing_of (w.tree.list d.path)) (thing.Entry name kind) → Has items (join_of dir name) kind
  listed_has d dir items name kind path i c = has_more i.inside items (join_of dir name) kind i.among (by i.inside i.below)
    where
      at : (a : Result (List Listed) Fault) → w.tree.list (place root dir) ≡ a → Contains (listing_of a) (thing.Entry name kind)
      at a is = subst (λ (r : Result (List Listed) Fault). Contains (listing_of r) (thing.Entry name kind)) (ap w.tree.list path ∙ is) c

      by : (own : List Item) → Below g dir own → Has own (join_of dir name) kind
      by own (fails {fault = f} shut) = let h = at (Err f) shut in absurd (omega (arith, h.1))
      by own (lists {things = things} (xs, is, arranged) each) =
          has dir things own name kind each (Contains-permutation (map named xs) things (thing.Entry name kind) arranged.0 (at (Ok xs) is))
