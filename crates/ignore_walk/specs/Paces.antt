-- The steps of a walk, whatever the files answer.
use Rattle.std.specs.Prelude.{◌≡◌, ◌⊎◌, ◌+◌, ◌<◌, ℕ, suc, true, false, List, [], ◌∷◌, ◌++◌, Option, Some, Result, Err, IsPermutation, length}
use Rattle.ignore_base.specs.Paths.{join_of}
use Rattle.ignore_base.specs.Text.{Path}
use Rattle.ignore_base.specs.Problem.{io}
use Rattle.ignore_base.specs.declared.fault.Fault.{Fault}
use Rattle.ignore_base.specs.declared.fault.Fault.TheVariants.{StepLimit}
use Rattle.ignore_files.specs.declared.files.Files.{Ghosts as Files}
use Rattle.ignore_files.specs.declared.types.Listed.{Listed}
use Rattle.ignore_files.specs.declared.types.Listed.TheVariants as thing
use Rattle.ignore_files.specs.declared.types.Refusal.{Refusal}
use Rattle.ignore_walk.specs.Answered.{as_answer}
use Rattle.ignore_walk.specs.Entry.{Item}
use Rattle.ignore_walk.specs.Walked.{listing_of}
use Rattle.ignore_walk.specs.declared.frame.Frame.{Frame}
use Rattle.ignore_walk.specs.declared.open.Directory.{Directory}
use Rattle.ignore_walk.specs.declared.stack.Stack.{Stack}
use Rattle.ignore_walk.specs.declared.walk.Walk.{Walk}

-- what a walk has still to do: the roots that weren't begun, and the directories that were entered
pub record Work : Type 0 where
  pub roots : List Path
  pub frames : List Frame

abbrev pub work_of : Stack → Work
work_of s = record { roots = s.roots.items; frames = s.frames.items }

-- at first: these roots, and no directory
abbrev pub work_at : List Path → Work
work_at roots = record { roots = roots; frames = [] }

-- which answers files may give to `list`
abbrev pub Lists : Type 1
Lists = Path → Result (List Listed) Refusal → Type 0

-- these things are what an answer for the directory at a path lists, in some order and with each
-- name that is none as a fault; a fault in its place lists nothing
abbrev pub IsListed : Lists → Path → List Listed → Type 0
IsListed lists path things = (answer : Result (List Listed) Fault) × lists path (as_answer answer) × IsPermutation (listing_of answer) things

-- a directory that was listed is entered, below those that were entered before it
abbrev pub Enters : Directory → List Frame → List Frame → Type 0
Enters directory old new = (f : Frame) × (f.path ≡ directory.path) × (f.rest.items ≡ directory.rest.items) × (new ≡ old ++ f ∷ [])

-- of these directories none was left, and at most that at a path was entered, with all that it lists
abbrev pub MayEnter : Lists → Path → List Frame → List Frame → Type 0
MayEnter lists path old new =
    (new ≡ old) ⊎ ((f : Frame) × (f.path ≡ path) × IsListed lists path f.rest.items × (new ≡ old ++ f ∷ []))

-- the same of what is listed in the directory at a path; a fault is no directory
abbrev pub MayEnterIn : Lists → Path → Listed → List Frame → List Frame → Type 0
MayEnterIn lists dir (thing.Entry name kind) old new = MayEnter lists (join_of dir name) old new
MayEnterIn lists dir (thing.Fault fault) old new = new ≡ old

-- a root was begun, where no directory is entered: it may have been entered itself
pub record Begins (lists : Lists) (old new : Work) : Type 0 where
  pub root : Path
  pub outside : old.frames ≡ []
  pub roots : old.roots ≡ root ∷ new.roots
  pub enters : MayEnter lists root [] new.frames

-- something is to be done: a directory is entered, or a root wasn't begun
abbrev pub HasWork : Work → Type 0
HasWork w = (0 < length w.frames) ⊎ (0 < length w.roots)

-- a listed thing was taken in the directory that was entered last, and nothing else was done
pub record TakesOne (old : Work) (thing : Listed) (new : Work) : Type 0 where
  pub around : List Frame
  pub before : Frame
  pub after : Frame
  pub was : old.frames ≡ around ++ before ∷ []
  pub same : after.path ≡ before.path
  pub taken : before.rest.items ≡ thing ∷ after.rest.items
  pub is : new.frames ≡ around ++ after ∷ []
  pub roots : new.roots ≡ old.roots

-- a listed thing was taken, and the directory that it is may have been entered, at its own path
pub record Takes (lists : Lists) (old new : Work) : Type 0 where
  pub thing : Listed
  pub between : Work
  pub taken : TakesOne old thing between
  pub enters : MayEnterIn lists taken.before.path thing between.frames new.frames
  pub roots : new.roots ≡ between.roots

-- the directory that was entered last was left, after all that it lists was taken
pub record Leaves (old new : Work) : Type 0 where
  pub left : Frame
  pub frames : old.frames ≡ new.frames ++ left ∷ []
  pub done : left.rest.items ≡ []
  pub roots : new.roots ≡ old.roots

-- one step was taken
abbrev pub IsStep : Lists → Work → Work → Type 0
IsStep lists old new = Begins lists old new ⊎ (Takes lists old new ⊎ Leaves old new)

-- so many steps were taken, one after the other
pub data TookSteps (lists : Lists) : ℕ → Work → Work → Type 0 where
  none : {a : Work} → TookSteps lists 0 a a
  more : {k : ℕ} {a b c : Work} → TookSteps lists k a b → IsStep lists b c → TookSteps lists (suc k) a c

-- what one `next` of a walk takes of the steps that are left. The walk stays one of the same files
-- (`ground`). Where the `next` doesn't end it, exactly those that it took (`paced`). It ends it by
-- the limit after all that were left (`limited`)
pub record Paces {F S : Type 0} (files : Files F) (a : Walk F S) (answer : Option Item) (b : Walk F S) : Type 0 where
  pub ground : b.ground ≡ a.ground
  pub paced : b.ended ≡ a.ended
      → (k : ℕ) × (b.left + k ≡ a.left) × TookSteps (files.list_gives a.ground.files.now) k (work_of a.stack) (work_of b.stack)
  pub limited : a.ended ≡ false → b.ended ≡ true → answer ≡ Some (Err (io StepLimit))
      → (w : Work) × TookSteps (files.list_gives a.ground.files.now) a.left (work_of a.stack) w
