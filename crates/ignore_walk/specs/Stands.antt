-- What the stack of a walk stands for.
use Rattle.std.specs.Prelude.{◌≡◌, ℕ, suc, Bool, true, false, List, [], ◌∷◌, ◌++◌, map, reverse}
use Rattle.ignore_base.specs.Text.{Bytes, Path}
use Rattle.ignore_files.specs.declared.types.Listed.{Listed}
use Rattle.ignore_files.specs.declared.types.Listed.TheVariants as thing
use Rattle.ignore_levels.specs.Levels.{IsChain, counting, slots_of}
use Rattle.ignore_walk.specs.Branch.{Branch, path_of, placed_around, text_at}
use Rattle.ignore_walk.specs.Child.{child, branch_below}
use Rattle.ignore_walk.specs.Entry.{Item, entry_of, item_of}
use Rattle.ignore_walk.specs.Frames.{AreFrames, device_of}
use Rattle.ignore_walk.specs.Left.{State, Remains}
use Rattle.ignore_walk.specs.Moves.{Gives, Moves}
use Rattle.ignore_walk.specs.OnList.{AreOn, place_around}
use Rattle.ignore_walk.specs.Scene.{Scene}
use Rattle.ignore_walk.specs.Shared.{AreSeen, AreShared}
use Rattle.ignore_walk.specs.Walked.{is_skipped, leads_in}
use Rattle.ignore_walk.specs.declared.found.Found.{Found}
use Rattle.ignore_walk.specs.declared.frame.Frame.{Frame}
use Rattle.ignore_walk.specs.declared.stack.Stack.{Stack}

-- what a stack has in hand, by the root that was begun last, the place of the directory that was
-- entered last, and the directories above roots that were begun
abbrev pub state_of : Stack → Path → Branch → List Path → State
state_of s root place seen =
    record {
      made = map item_of s.made.items;
      root = root;
      place = place;
      rests = map (λ (f : Frame). f.rest.items) (reverse s.frames.items);
      seen = seen;
      roots = s.roots.items;
    }

-- a stack has the device of a root
abbrev pub IsAt : Scene → Path → Stack → Type 0
IsAt g root s = s.device ≡ device_of g root

-- in the list of a stack, the directories that it has in hand stand for those around a place
abbrev pub IsAround : Scene → Path → Branch → Stack → Type 0
IsAround g root b s = IsChain (slots_of s.levels) (place_around s.above (reverse s.frames.items)) (counting (placed_around g root b))

-- a stack keeps the directories above roots that were begun, and has them in its list
pub record IsKept (g : Scene) (seen : List Path) (s : Stack) : Type 0 where
  pub kept : AreSeen s.seen.items seen
  pub places : AreShared g (slots_of s.levels) s.seen.items

-- where directories are entered, they are that at a place and those around it, below this root
abbrev pub IsBelow : Scene → Path → Branch → Stack → List Frame → Type 0
IsBelow g root place s [] = Unit {0}
IsBelow g root place s (f ∷ fs) = AreFrames g root place (f ∷ fs) × IsAt g root s

-- a stack is that of a walk below a root, in the directory at a place
pub record IsIn (g : Scene) (root : Path) (place : Branch) (seen : List Path) (s : Stack) : Type 0 where
  pub kept : AreSeen s.seen.items seen
  pub frames : IsBelow g root place s (reverse s.frames.items)
  pub levels : AreOn g root s.seen.items place (slots_of s.levels) (reverse s.frames.items)

-- a stack still gives these items, in so many steps
pub record Stands (g : Scene) (s : Stack) (items : List Item) (n : ℕ) : Type 0 where
  pub root : Path
  pub place : Branch
  pub seen : List Path
  pub is : IsIn g root place seen s
  pub remains : Remains g (state_of s root place seen) items n

-- a stack still gives these items, in so many steps, of which one was taken now
abbrev pub Steps : Scene → Stack → List Item → ℕ → Type 0
Steps g s items n = (k : ℕ) × (n ≡ suc k) × Stands g s items k

-- a stack has in hand what is so
pub record Becomes (g : Scene) (s : Stack) (Is : State → Type 0) : Type 0 where
  pub root : Path
  pub place : Branch
  pub seen : List Path
  pub is : IsIn g root place seen s
  pub by : Is (state_of s root place seen)

-- a listed thing was taken: what is in hand now is this, and what the thing makes of it is a step
pub record Takes (g : Scene) (root : Path) (place : Branch) (seen : List Path) (old : Stack) (x : Listed) (s : Stack) : Type 0 where
  pub is : IsIn g root place seen s
  pub frames : AreFrames g root place (reverse s.frames.items)
  pub at : IsAt g root s
  pub step : (t : State) → Gives g (state_of s root place seen) (branch_below place x) (child g root place x) t
      → Moves g (state_of old root place seen) t

-- the name of a listed thing; a fault has none
abbrev pub name_in : Listed → Bytes
name_in (thing.Entry name kind) = name
name_in (thing.Fault fault) = []

-- the path of a listed thing as the directories around it see it
abbrev pub text_below : Scene → Path → Branch → Listed → Bytes
text_below g root b x = text_at g root b ++ name_in x

-- what was found at a place is to be visited: it isn't skipped; and where it leads into a directory,
-- its path as the directories around it see it, these directories, its device and that of the root
-- are known
pub record Visits (g : Scene) (root : Path) (b : Branch) (s : Stack) (f : Found) (leads : Bool) (text : Bytes) : Type 0 where
  pub path : (entry_of f.entry).path ≡ path_of root b
  pub leads_there : leads ≡ leads_in g b (entry_of f.entry)
  pub kept : is_skipped g root b (entry_of f.entry) ≡ false
  pub at : leads ≡ true → IsAt g root s
  pub device : leads ≡ true → f.device ≡ device_of g (entry_of f.entry).path
  pub seen_as : leads ≡ true → text ≡ text_at g root b
  pub around : leads ≡ true → IsAround g root b s

-- what was in hand before a root was taken from those that weren't begun, where no directory was
-- entered
abbrev pub before_root : Stack → Path → Branch → List Path → Path → State
before_root s last place seen root =
    record { made = map item_of s.made.items; root = last; place = place; rests = []; seen = seen; roots = root ∷ s.roots.items }

-- an item was handed out, the first of those that remained
pub record Hands (g : Scene) (s : Stack) (item : Item) (items : List Item) (n : ℕ) : Type 0 where
  pub others : List Item
  pub are : items ≡ item ∷ others
  pub rest : Stands g s others n
