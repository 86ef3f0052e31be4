-- What the directories that a survey has in hand stand for.
use Rattle.std.specs.Prelude.{◌≡◌, ◌↔◌, List, [], ◌∷◌, ◌++◌, Option, None, Some, Result, Ok, Err, string_bytes, if◌then◌else◌}
use Rattle.std.specs.declared.alloc.Global.{Global}
use Rattle.std.specs.declared.string.String.{String}
use Rattle.ignore_base.specs.Paths.{join_of}
use Rattle.ignore_base.specs.Problem.{Problem, problem_of, at_path, io}
use Rattle.ignore_base.specs.Text.{Path}
use Rattle.ignore_base.specs.declared.error.Error.{Error}
use Rattle.ignore_dir.specs.Scene.{QueryScene}
use Rattle.ignore_files.specs.declared.types.FileType.{FileType}
use Rattle.ignore_files.specs.declared.types.Listed.{Listed}
use Rattle.ignore_files.specs.declared.types.Listed.TheVariants as thing
use Rattle.ignore_survey.specs.Survey.{Below, Each, Item, entry_at, goes_on, place}
use Rattle.ignore_survey.specs.declared.stack.Frame.{Frame}
use Rattle.ignore_survey.specs.declared.stack.Stack.{Stack}

-- some items, and then others
pub record InTurn (First Then : List Item → Type 0) (items : List Item) : Type 0 where
  pub own : List Item
  pub outer : List Item
  pub first : First own
  pub rest : Then outer
  pub are : items ≡ own ++ outer

-- what is left of the listings of entered directories still gives these items, the innermost first
abbrev pub Left : QueryScene → List Frame → List Item → Type 0
Left g [] items = items ≡ []
Left g (f ∷ fs) items = InTurn (Each g f.path f.rest.items) (Left g fs) items

-- the directory that is to be listed next, if any, gives these items
abbrev pub Waits : QueryScene → Option Path → List Item → Type 0
Waits g None items = items ≡ []
Waits g (Some dir) items = Below g dir items

-- the directory at a path is entered, and gives just what it lists gives; or this error is all that it
-- gives
abbrev pub Enters : QueryScene → Path → Result Frame Error → Type 0
Enters g dir (Ok f) = (items : List Item) → Below g dir items ↔ Each g f.path f.rest.items items
Enters g dir (Err e) = (items : List Item) → Below g dir items ↔ (items ≡ Err (problem_of e) ∷ [])

-- a stack still gives these items
abbrev pub Stands : QueryScene → Stack → List Item → Type 0
Stands g s items = InTurn (Waits g s.waiting) (Left g s.frames.items) items

-- what is left after a listed thing was taken of the innermost directory, which is not among the
-- frames now
abbrev pub Takes : QueryScene → Frame → Listed → List Frame → List Item → Type 0
Takes g f x frames items = InTurn (Each g f.path (x ∷ f.rest.items)) (Left g frames) items

-- an item is the first of these, and the stack still gives the others
pub record Hands (g : QueryScene) (s : Stack) (item : Item) (items : List Item) : Type 0 where
  pub others : List Item
  pub are : items ≡ item ∷ others
  pub rest : Stands g s others

-- what a stack still gives, another gave after an item
abbrev pub Precedes : QueryScene → Stack → Item → Stack → Type 0
Precedes g s item t = (items : List Item) → Stands g t items → Stands g s (item ∷ items)

-- what is to be listed after an entry, if anything is
abbrev pub next_dir : QueryScene → Path → FileType → Option Path
next_dir g path kind = if goes_on g path kind then Some path else None

-- the path and the kind of an entry that was taken, or the problem in its place
abbrev pub Found : Type 0
Found = Result (Path × FileType) Problem

-- the same of a value of the code
abbrev pub found_of : Result (String Global × FileType) Error → Found
found_of (Ok found) = Ok (string_bytes found.0, found.1)
found_of (Err e) = Err (problem_of e)

-- what a thing is that the directory at a path lists
abbrev pub found_at : Path → Path → Listed → Found
found_at root dir (thing.Entry name kind) = Ok (join_of dir name, kind)
found_at root dir (thing.Fault fault) = Err (at_path (place root dir) (io fault))

-- what was taken gives the first of these items, and the stack gives the others; after an entry, once
-- it waits for what is below that
abbrev pub Finds : QueryScene → Stack → Found → List Item → Type 0
Finds g s (Ok found) items =
    Hands g (record { waiting = next_dir g found.0 found.1; frames = s.frames }) (Ok (entry_at g found.0 found.1)) items
Finds g s (Err p) items = Hands g s (Err p) items
