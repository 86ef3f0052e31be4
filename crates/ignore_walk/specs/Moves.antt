-- What a step makes of what a walk has in hand.
use Rattle.std.specs.Prelude.{◌≡◌, ℕ, ◌+◌, false, List, [], ◌∷◌, ◌++◌, codes, bytes_eq, None, Result, Ok, Err}
use Rattle.ignore_base.specs.Text.{Path}
use Rattle.ignore_base.specs.Problem.{Problem}
use Rattle.ignore_files.specs.declared.types.Listed.{Listed}
use Rattle.ignore_walk.specs.Branch.{Branch}
use Rattle.ignore_walk.specs.Child.{branch_below, child}
use Rattle.ignore_walk.specs.Entry.{Entry, Item, stdin_entry}
use Rattle.ignore_walk.specs.Left.{IsNext, Remains, State}
use Rattle.ignore_walk.specs.Scene.{Scene}
use Rattle.ignore_walk.specs.Walked.{IsArranged, enter, fate, listing_of, load, loaded, skip, unlisted, yield, yielded}
use Rattle.ignore_walk.specs.Whole.{Whole, above_root, reported_before, root_entry}

-- the same with more items made
abbrev pub with_made : State → List Item → State
with_made s now =
    record { made = s.made ++ now; root = s.root; place = s.place; rests = s.rests; seen = s.seen; roots = s.roots }

-- the same with an item before those that are made
abbrev pub with_first : Item → State → State
with_first item s =
    record { made = item ∷ s.made; root = s.root; place = s.place; rests = s.rests; seen = s.seen; roots = s.roots }

-- the same with a directory entered at a place, of whose listing this isn't taken
abbrev pub with_entered : State → Branch → List Listed → State
with_entered s b xs =
    record { made = s.made; root = s.root; place = b; rests = xs ∷ s.rests; seen = s.seen; roots = s.roots }

-- what is in hand where no directory is entered
abbrev pub between : List Item → Path → Branch → List Path → List Path → State
between made last place seen roots =
    record { made = made; root = last; place = place; rests = []; seen = seen; roots = roots }

-- what becomes of what is in hand by an entry or a problem at a place below the root: its items are
-- made, by the fate of the entry; and a directory is entered that is to be
pub data Gives (g : Scene) (s : State) : Branch → Result Entry Problem → State → Type 0 where
  fails : {b : Branch} {p : Problem} → Gives g s b (Err p) (with_made s (Err p ∷ []))
  skips : {b : Branch} {e : Entry} → fate g s.root b e ≡ skip → Gives g s b (Ok e) s
  yields : {b : Branch} {e : Entry} → fate g s.root b e ≡ yield → Gives g s b (Ok e) (with_made s (yielded g.settings e None))
  closes : {b : Branch} {e : Entry} → fate g s.root b e ≡ load → Gives g s b (Ok e) (with_made s (loaded g e))
  enters : {b : Branch} {e : Entry} {xs : List Listed} → IsNext b s.place s.rests → fate g s.root b e ≡ enter
      → IsArranged g.order e.path (listing_of (g.tree.list e.path)) xs
      → Gives g s b (Ok e) (with_entered (with_made s (loaded g e ++ unlisted e (g.tree.list e.path))) b xs)

-- a step: the directory that was entered last is left, after all that it lists was taken; or the
-- next thing of its listing is taken, and gives its own; or, where no directory is entered, a root
-- is begun: standard input, or another, before which it is reported what is wrong above it
pub data Moves (g : Scene) : State → State → Type 0 where
  leaves : {s : State} {b : Branch} → IsNext b s.place s.rests → Moves g (with_entered s b []) s
  takes : (s : State) {t : State} {b : Branch} {x : Listed} {xs : List Listed}
      → Gives g (with_entered s b xs) (branch_below b x) (child g s.root b x) t → Moves g (with_entered s b (x ∷ xs)) t
  stdin : {made : List Item} {last : Path} {place : Branch} {seen roots : List Path}
      → Moves g (between made last place seen (codes "-" ∷ roots)) (between (made ++ Ok (stdin_entry, None) ∷ []) last place seen roots)
  begins : {made : List Item} {last root : Path} {place : Branch} {seen roots : List Path} {t : State} → bytes_eq root (codes "-") ≡ false
      → Gives g (between (made ++ reported_before g seen root) root [] (seen ++ above_root g root) roots) [] (root_entry g root) t
      → Moves g (between made last place seen (root ∷ roots)) t

-- what remains of a walk that has the second in hand remained, after these items and in so many more
-- steps, of one that had the first
abbrev pub Precedes : Scene → State → List Item → ℕ → State → Type 0
Precedes g s front k t = (items : List Item) (n : ℕ) → Remains g t items n → Remains g s (front ++ items) (n + k)

-- what remains of a walk that has this in hand is what these roots give
abbrev pub IsOfRoots : Scene → List Path → State → Type 0
IsOfRoots g roots s = (items : List Item) (n : ℕ) → Remains g s items n → Whole g roots items n

-- the same of what remains after these items and so many steps
abbrev pub IsAfter : Scene → List Path → List Item → ℕ → State → Type 0
IsAfter g roots front k s = (items : List Item) (n : ℕ) → Remains g s items n → Whole g roots (front ++ items) (n + k)
