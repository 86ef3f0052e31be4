-- What is at or below the roots of a walk, whatever the files answer.
use Rattle.std.specs.Prelude.{◌≡◌, ◌⊎◌, ⊤, ℕ, All, Contains, List, [], ◌∷◌, codes, length, map, reverse, Option, None, Some, Ok, Err}
use Rattle.ignore_base.specs.Paths.{IsName, join_of}
use Rattle.ignore_base.specs.Text.{Path}
use Rattle.ignore_files.specs.declared.types.Listed.{Listed}
use Rattle.ignore_files.specs.declared.types.Listed.TheVariants as thing
use Rattle.ignore_walk.specs.Branch.{Branch, entered, path_of}
use Rattle.ignore_walk.specs.Entry.{Entry, Item, item_of, stdin_entry}
use Rattle.ignore_walk.specs.Paces.{Work, work_of}
use Rattle.ignore_walk.specs.declared.frame.Frame.{Frame}
use Rattle.ignore_walk.specs.declared.stack.Stack.{Stack}

-- a path is one of these roots or below one, so many names deep: the root with the names to a place
-- below it, each joined
pub record IsAtOrBelow (roots : List Path) (path : Path) (depth : ℕ) : Type 0 where
  pub root : Path
  pub place : Branch
  pub given : Contains roots root
  pub names : All IsName place
  pub is : path ≡ path_of root place
  pub deep : depth ≡ length place

-- an item that is an entry is at one of these roots or below one, or is standard input where `-` is
-- one of them
abbrev pub StaysBelow : List Path → Item → Type 0
StaysBelow roots (Ok (e, problem)) = ((e ≡ stdin_entry) × Contains roots (codes "-")) ⊎ IsAtOrBelow roots e.path e.depth
StaysBelow roots (Err p) = ⊤

-- so is an answer that is an item
abbrev pub AnswersBelow : List Path → Option Item → Type 0
AnswersBelow roots None = ⊤
AnswersBelow roots (Some item) = StaysBelow roots item

-- a listed thing is a fault, or has a name
abbrev pub HasName : Listed → Type 0
HasName (thing.Entry name kind) = IsName name
HasName (thing.Fault fault) = ⊤

-- directories that were entered, the innermost first, are that at a place below one of these roots
-- and those around it; what isn't taken of their listings has names
pub record AreBelow (roots : List Path) (frames : List Frame) : Type 0 where
  pub root : Path
  pub place : Branch
  pub given : Contains roots root
  pub names : All IsName place
  pub paths : map (λ (f : Frame). f.path) frames ≡ entered root place
  pub listed : All (λ (f : Frame). All HasName f.rest.items) frames

-- the same, or none was entered
abbrev pub EnteredBelow : List Path → List Frame → Type 0
EnteredBelow roots [] = ⊤
EnteredBelow roots (f ∷ frames) = AreBelow roots (f ∷ frames)

-- what a walk has to do is at or below these roots
pub record WorksBelow (roots : List Path) (w : Work) : Type 0 where
  pub waiting : All (Contains roots) w.roots
  pub entered : EnteredBelow roots (reverse w.frames)

-- the items that a stack has in hand are at or below these roots
abbrev pub MadeBelow : List Path → Stack → Type 0
MadeBelow roots s = All (StaysBelow roots) (map item_of s.made.items)

-- all that a stack has in hand is
pub record KeepsBelow (roots : List Path) (s : Stack) : Type 0 where
  pub work : WorksBelow roots (work_of s)
  pub made : MadeBelow roots s

-- an entry has the path and the depth of a listed thing in a directory; a fault has none
abbrev pub IsThing : Path → ℕ → Listed → Entry → Type 0
IsThing dir depth (thing.Entry name kind) e = (e.path ≡ join_of dir name) × (e.depth ≡ depth)
IsThing dir depth (thing.Fault fault) e = ⊥
