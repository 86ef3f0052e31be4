-- An entry gives a list, and so do roots: each directory that is entered leaves fewer that may be.
use Rattle.std.proofs.Common.{◌≡◌, ℕ, zero, suc, ◌+◌, ◌*◌, ◌<◌, ◌≤◌, Bool, true, false, cond, ◌&&◌, ◌||◌, eqb, ◌≢◌, List, [], ◌∷◌, ◌++◌, length, map}
use Rattle.std.proofs.Common.{Some, None, Result, Ok, Err, Contains, codes, bytes_eq, ◌⊎◌, inl, inr, refl, sym, ap, subst, ◌∙◌, arith}
use Rattle.std.proofs.lemmas.Bool.{eqb-true}
use Rattle.std.proofs.lemmas.Bool.Decides.{eqb_tells}
use Rattle.std.proofs.lemmas.Slice.Eq.{bytes_eq-Decides}
use Rattle.ignore_base.specs.Problem.{Problem}
use Rattle.ignore_base.specs.declared.fault.Fault.{Fault}
use Rattle.ignore_files.specs.Dirs.{IsNumbered}
use Rattle.ignore_files.specs.Kinds.{is_dir}
use Rattle.ignore_files.specs.Memory.{and_then}
use Rattle.ignore_files.specs.declared.types.FileType.{FileType}
use Rattle.ignore_files.specs.declared.types.FileType.TheVariants as type
use Rattle.ignore_files.specs.declared.types.Identity.{Identity}
use Rattle.ignore_files.specs.declared.types.Listed.{Listed}
use Rattle.ignore_files.specs.declared.types.Listed.TheVariants as thing
use Rattle.ignore_walk.specs.Agreement.{Reachable, at_root, listed}
use Rattle.ignore_walk.specs.Branch.{Branch, path_of, entered}
use Rattle.ignore_walk.specs.Child.{is_dir_kind, known, identity_at, is_same, same_among, branch_below, child}
use Rattle.ignore_walk.specs.Entry.{Entry, Item}
use Rattle.ignore_walk.specs.Scene.{Scene}
use Rattle.ignore_walk.specs.Walked.{Fate, skip, yield, load, enter, fate, listing_of, IsOrdered, leads_in}
use Rattle.ignore_walk.specs.Walked.{WalkedOne, WalkedEach, failed, skipped, leaf, closed, dir, none, more}
use Rattle.ignore_walk.specs.Whole.{WalkedRoots, root_entry, above_root, stdin, other}
use Rattle.ignore_walk.specs.Whole.{none as no_roots}
use Rattle.ignore_walk.proofs.ChildSteps.{IsChild, LinksIn, child_ok, IsListed, listed_ok, no_fault, fate_in, root_at, found_dir, dir_type}
use Rattle.ignore_walk.proofs.SomeOrder.{some_arrangement, arranged_of}
use Rattle.ignore_walk.proofs.Weights.{among, weight, weight_greater, weight_new, weight_first}

eqb_same : (a : ℕ) → eqb a a ≡ true
eqb_same a = by (eqb_tells a a)
  where
    by : ((eqb a a ≡ true) × (a ≡ a)) ⊎ ((eqb a a ≡ false) × (a ≢ a)) → eqb a a ≡ true
    by (inl h) = h.0
    by (inr h) = absurd (h.1 refl)

same_itself : (id : Identity) → is_same id id ≡ true
same_itself id = ap (λ b. b && (eqb id.inode id.inode)) (eqb_same id.device) ∙ eqb_same id.inode

module _ (g : Scene) (n : ℕ) (dirs : IsNumbered g.tree n) (root : List ℕ) where
  -- the number of the directory at a place, and those of the directories around it
  abbrev number_at : Branch → ℕ
  number_at b = dirs.number (path_of root b)

  abbrev numbers : Branch → List ℕ
  numbers b = map dirs.number (entered root b)

  abbrev left_at : Branch → ℕ
  left_at b = weight n (number_at b) (numbers b)

  -- a directory that is none of the others has a number of its own
  next_apart : (path near : List ℕ) (others : List (List ℕ)) (id : Identity) (same : Bool) → eqb (dirs.number near) (dirs.number path) ≡ same
      → identity_at g.tree path ≡ Ok id → dirs.number path < n → same_among g.tree id (near ∷ others) ≡ Ok None
      → (same_among g.tree id others ≡ Ok None → among (dirs.number path) (map dirs.number others) ≡ false)
      → same || among (dirs.number path) (map dirs.number others) ≡ false
  next_apart path near others id true e is p h later =
      let one : g.tree.identity near true ≡ g.tree.identity path true =
      dirs.one path near p (eqb-true (dirs.number near) (dirs.number path) e) in
      let loop : same_among g.tree id (near ∷ others) ≡ Ok (Some near) =
      ap (and_then (λ i. cond (is_same id i) (Ok (Some near)) (same_among g.tree id others))) (ap known one ∙ is)
      ∙ ap (λ b. cond b (Ok (Some near)) (same_among g.tree id others)) (same_itself id) in
      absurd (cc (h, loop))
  next_apart path near others id false e is p h later = later (further (identity_at g.tree near) h)
    where
      at : (i : Identity) (b : Bool) → cond b (Ok (Some near)) (same_among g.tree id others) ≡ Ok None → same_among g.tree id others ≡ Ok None
      at i true k = absurd (cc (k))
      at i false k = k

      further : (r : Result Identity Fault)
          → and_then (λ i. cond (is_same id i) (Ok (Some near)) (same_among g.tree id others)) r ≡ Ok None
          → same_among g.tree id others ≡ Ok None
      further (Ok i) k = at i (is_same id i) k
      further (Err f) k = absurd (cc (k))

  apart : (path : List ℕ) (others : List (List ℕ)) (id : Identity) → identity_at g.tree path ≡ Ok id → dirs.number path < n
      → same_among g.tree id others ≡ Ok None → among (dirs.number path) (map dirs.number others) ≡ false
  apart path [] id is p h = refl
  apart path (near ∷ others) id is p h =
      next_apart path near others id (eqb (dirs.number near) (dirs.number path)) refl is p h (apart path others id is p)

  -- a listed thing that is entered is at its path, has a number, and leaves fewer
  record Steps (b b' : Branch) (e : Entry) : Type 0 where
    at : e.path ≡ path_of root b'
    in_range : number_at b' < n
    fewer : left_at b' < left_at b

  step_name : (b : Branch) (name : List ℕ) (kind : FileType) (e : Entry)
      → IsListed (g.tree.list (path_of root b)) name kind → IsChild g root b name kind e
      → (is_dir_kind e.kind ≡ true) → Steps b (name ∷ b) e
  step_name b name kind e l c d = from (c.dir d)
    where
      from : (is_dir kind ≡ true) ⊎ LinksIn g root b (path_of root (name ∷ b)) → Steps b (name ∷ b) e
      from (inl k) =
          let is : kind ≡ type.Dir = dir_type kind k in
          let has = subst (λ (t : FileType). Contains l.things (thing.Entry name t)) is l.has in
          let grows = dirs.listed (path_of root b) name l.things l.list has l.proper l.flat in
          record {
            at = c.at;
            in_range = grows.1;
            fewer = weight_greater n (number_at b) (number_at (name ∷ b)) (numbers b) grows.0 grows.1;
          }
      from (inr k) =
          let p = dirs.found (path_of root (name ∷ b)) k.m k.stat k.is in
          record {
            at = c.at;
            in_range = p;
            fewer =
                weight_new n (number_at b) (number_at (name ∷ b)) (numbers b) (dirs.listing (path_of root b) l.things l.list) p
                (apart (path_of root (name ∷ b)) (entered root b) k.id k.identity p k.none_of);
          }

  step : (b : Branch) (x : Listed) (e : Entry) → Contains (listing_of (g.tree.list (path_of root b))) x → child g root b x ≡ Ok e
      → fate g root (branch_below b x) e ≡ enter → Steps b (branch_below b x) e
  step b (thing.Entry name kind) e has is enters =
      step_name b name kind e (listed_ok (g.tree.list (path_of root b)) name kind has) (child_ok g root b name kind e is)
      (fate_in g root (name ∷ b) e enters)
  step b (thing.Fault f) e has is enters = absurd (no_fault g root b f e is)

  -- it gives a list
  abbrev One : Branch → Result Entry Problem → Type 0
  One b r = (items : List Item) × (steps : ℕ) × WalkedOne g root b r items steps

  abbrev Each : Branch → List Listed → Type 0
  Each b xs = (items : List Item) × (steps : ℕ) × WalkedEach g root b xs items steps

  some_each : (b : Branch) (xs : List Listed) → ((x : Listed) → Contains xs x → One (branch_below b x) (child g root b x)) → Each b xs
  some_each b [] each = ([], 0, none)
  some_each b (x ∷ xs) each =
      let first = each x (0, omega arith, refl) in
      let others = some_each b xs (λ y h. let less = h.1 in each y (suc h.0, omega (arith, less), h.2)) in
      (_, _, more first.2 others.2)

  -- an entry gives a list where the things that it lists do
  some_entry : IsOrdered g.order → (b : Branch) (e : Entry) (f : Fate) → fate g root b e ≡ f
      → (fate g root b e ≡ enter → (x : Listed) → Contains (listing_of (g.tree.list e.path)) x → One (branch_below b x) (child g root b x))
      → One b (Ok e)
  some_entry o b e skip is each = (_, _, skipped is)
  some_entry o b e yield is each = (_, _, leaf is)
  some_entry o b e load is each = (_, _, closed is)
  some_entry o b e enter is each =
      let listing = listing_of (g.tree.list e.path) in
      let a = some_arrangement g.order e.path listing o in
      let things = some_each b a.0 (λ x h. each is x (arranged_of g.order e.path listing a.0 x a.1 h)) in
      (_, _, dir is a.1 things.2)

  -- by what may still be entered
  some_one : IsOrdered g.order → (k : ℕ) (b : Branch) (r : Result Entry Problem)
      → ((e : Entry) → r ≡ Ok e → fate g root b e ≡ enter → (e.path ≡ path_of root b) × (left_at b < k)) → One b r
  some_one o k b (Err p) fits = (_, _, failed)
  some_one o zero b (Ok e) fits =
      some_entry o b e (fate g root b e) refl (λ is x h. let p = (fits e refl is).1 in absurd (omega (arith, p)))
  some_one o (suc k) b (Ok e) fits =
      some_entry o b e (fate g root b e) refl (λ is x h.
      let here = fits e refl is in
      let has = subst (λ (path : List ℕ). Contains (listing_of (g.tree.list path)) x) here.0 h in
      some_one o k (branch_below b x) (child g root b x) (λ e' r enters.
      let s = step b x e' has r enters in
      let less = s.fewer in
      let most = here.1 in
      (s.at, omega (arith, less, most))))

  child_at : (b : Branch) (x : Listed) (e : Entry) → child g root b x ≡ Ok e → e.path ≡ path_of root (branch_below b x)
  child_at b (thing.Entry name kind) e h = (child_ok g root b name kind e h).at
  child_at b (thing.Fault f) e h = absurd (no_fault g root b f e h)

  some_result : IsOrdered g.order → (b : Branch) (r : Result Entry Problem) → One b r
  some_result o b (Err p) = (_, _, failed)
  some_result o b (Ok e) =
      some_entry o b e (fate g root b e) refl (λ is x h.
      some_one o (suc (left_at (branch_below b x))) (branch_below b x) (child g root b x) (λ e' r enters. (child_at b x e' r, omega arith)))

  -- a directory that is reachable: at its path, with a number, and as far from the root as others
  -- may still follow
  record Within (b : Branch) (e : Entry) : Type 0 where
    at : e.path ≡ path_of root b
    in_range : number_at b < n
    room : length b + left_at b ≤ n * n

  further : (b : Branch) (name : List ℕ) (d e : Entry) → Within b d → Steps b (name ∷ b) e → Within (name ∷ b) e
  further b name d e w s =
      let room = w.room in
      let fewer = s.fewer in
      record { at = s.at; in_range = s.in_range; room = omega (arith, room, fewer) }

  first : (e : Entry) → root_entry g root ≡ Ok e → leads_in g [] e ≡ true → Within [] e
  first e is leads =
      let at = root_at g root e is in
      let m = found_dir (g.tree.stat e.path true) leads in
      let p = dirs.found root m.0 (ap (λ (path : List ℕ). g.tree.stat path true) (sym at) ∙ m.1) m.2 in
      let most = weight_first n (dirs.number root) p in
      record { at = at; in_range = p; room = omega (arith, most) }

  within : (b : Branch) (e : Entry) → Reachable g root b e → leads_in g b e ≡ true → Within b e
  within b e (at_root is) leads = first e is leads
  within b e (listed {b = outer} {dir = d} {name = name} {kind = kind} before in_ has is) leads =
      let w = within outer d before in_ in
      let here = subst (λ (path : List ℕ). Contains (listing_of (g.tree.list path)) (thing.Entry name kind)) w.at has in
      further outer name d e w
      (step_name outer name kind e (listed_ok (g.tree.list (path_of root outer)) name kind here) (child_ok g root outer name kind e is) leads)

  length_entered : (b : Branch) → length (entered root b) ≡ suc (length b)
  length_entered [] = refl
  length_entered (name ∷ b) = ap suc (length_entered b)

  -- no branch leads through more than the square of the number of directories
  dirs_most : (b : Branch) (e : Entry) → Reachable g root b e → leads_in g b e ≡ true → length (entered root b) ≤ n * n
  dirs_most b e h leads =
      let w = within b e h leads in
      let room = w.room in
      let p = w.in_range in
      let long = length_entered b in
      omega (arith, room, p, long)

-- no branch leads through more than n * n directories
pub at_most : (g : Scene) (n : ℕ) → IsNumbered g.tree n → (root : List ℕ) (b : Branch) (e : Entry) → Reachable g root b e
    → leads_in g b e ≡ true → length (entered root b) ≤ n * n
at_most g n dirs root b e h leads = dirs_most g n dirs root b e h leads

-- an entry gives a list
pub some_list : (g : Scene) (n : ℕ) → IsNumbered g.tree n → IsOrdered g.order → (root : List ℕ) (b : Branch) (r : Result Entry Problem)
    → (items : List Item) × (steps : ℕ) × WalkedOne g root b r items steps
some_list g n dirs o root b r = some_result g n dirs root o b r

-- roots give a list
abbrev Roots : Scene → List (List ℕ) → List (List ℕ) → Type 0
Roots g seen roots = (items : List Item) × (steps : ℕ) × WalkedRoots g seen roots items steps

some_root : (g : Scene) (n : ℕ) → IsNumbered g.tree n → IsOrdered g.order → (seen roots : List (List ℕ)) (root : List ℕ) (b : Bool)
    → bytes_eq root (codes "-") ≡ b → ((seen' : List (List ℕ)) → Roots g seen' roots) → Roots g seen (root ∷ roots)
some_root g n dirs o seen roots root true e others =
    let rest = others seen in
    let is : root ≡ codes "-" = (bytes_eq-Decides root (codes "-")).0 e in
    subst (λ (r : List ℕ). Roots g seen (r ∷ roots)) (sym is) (_, _, stdin rest.2)
some_root g n dirs o seen roots root false e others =
    let own = some_list g n dirs o root [] (root_entry g root) in
    let rest = others (seen ++ above_root g root) in
    (_, _, other e own.2 rest.2)

pub some_roots : (g : Scene) (n : ℕ) → IsNumbered g.tree n → IsOrdered g.order → (seen roots : List (List ℕ)) → Roots g seen roots
some_roots g n dirs o seen [] = ([], 0, no_roots)
some_roots g n dirs o seen (root ∷ roots) =
    some_root g n dirs o seen roots root (bytes_eq root (codes "-")) refl (λ seen'. some_roots g n dirs o seen' roots)
