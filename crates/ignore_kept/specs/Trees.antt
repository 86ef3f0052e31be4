-- Trees that C tells.
use Rattle.std.specs.Prelude.{◌≡◌, ◌⊎◌, ℕ, [], Option, Some, None, Result, Ok, Err}
use Rattle.std.specs.Str.{IsUtf8}
use Rattle.ignore_base.specs.Text.{Bytes, Path}
use Rattle.ignore_base.specs.declared.fault.Fault.{Fault}
use Rattle.ignore_files.specs.Changes.{made, dir_added, file_added, link_added, nameless_added, size_set, identity_set, stat_faulted, list_faulted, contents_cut}
use Rattle.ignore_files.specs.Memory.{Memory}
use Rattle.ignore_files.specs.Removed.{removed, file_written}
use Rattle.ignore_files.specs.declared.tree_error.TreeError.{TreeError}
use Rattle.ignore_files.specs.declared.tree_error.TreeError.TheVariants.{Memory as NoMemory}
use Rattle.ignore_kept.specs.Kinds.{tree_in}
use Rattle.ignore_kept.specs.Stops.{ended_code}
use Rattle.ignore_kept.specs.declared.change.Change.{Change}
use Rattle.ignore_kept.specs.declared.change.Change.TheVariants as change
use Rattle.ignore_kept.specs.declared.kept.Kept.{Kept}
use Rattle.ignore_kept.specs.declared.kept.Kept.TheVariants as keeps
use Rattle.ignore_kept.specs.declared.stopped.Stopped.{Stopped}
use Rattle.ignore_kept.specs.declared.stopped.Stopped.TheVariants.{NotUtf8, Memory as Full, Limit, Invalid, Misused, Tree}

-- a handle that keeps a tree
abbrev pub keeping : Memory → Kept
keeping tree = keeps.Tree tree

-- what a call on a tree gives, as it is told to C
abbrev pub told_of : {A : Type 0} → Result A TreeError → Result A Stopped
told_of (Ok done) = Ok done
told_of (Err error) = Err (Tree error)

-- beginning a tree gives what a handle keeps; or it is out of memory, or refuses what is to be
-- refused, or the text isn't UTF-8
abbrev pub Begins : Bytes → Result Kept Stopped → Type 0
Begins cwd (Ok kept) = (tree : Memory) × (made cwd ≡ Ok tree) × (kept ≡ keeping tree)
Begins cwd (Err (Tree error)) = (error ≡ NoMemory) ⊎ (made cwd ≡ Err error)
Begins cwd (Err NotUtf8) = ¬ (IsUtf8 cwd)
Begins cwd (Err Full) = Unit {0}
Begins cwd (Err other) = ⊥

-- the text that C gives with a change, if there is one
abbrev pub text_in : Change → Bytes
text_in change.Dir = []
text_in (change.File bytes) = []
text_in (change.Link target) = target.now
text_in change.Nameless = []
text_in (change.Size size) = []
text_in (change.Identity identity) = []
text_in (change.StatFault fault) = []
text_in (change.ListFault fault) = []
text_in (change.Cut len fault) = []
text_in (change.Rewritten bytes) = []
text_in change.Removed = []

-- the tree after a change at a path, or why it isn't changed
abbrev pub change_of : Change → Path → Memory → Result Memory TreeError
change_of change.Dir path tree = dir_added tree path
change_of (change.File bytes) path tree = file_added bytes.now tree path
change_of (change.Link target) path tree = link_added target.now tree path
change_of change.Nameless path tree = nameless_added tree path
change_of (change.Size size) path tree = size_set size tree path
change_of (change.Identity identity) path tree = identity_set identity tree path
change_of (change.StatFault fault) path tree = stat_faulted fault tree path
change_of (change.ListFault fault) path tree = list_faulted fault tree path
change_of (change.Cut len fault) path tree = contents_cut len fault tree path
change_of (change.Rewritten bytes) path tree = file_written bytes.now tree path
change_of change.Removed path tree = removed tree path

-- a call leaves the tree that is due; or it is out of memory, or refuses what is to be refused, or a
-- text isn't UTF-8, and then the tree is as before
abbrev pub AppliesAs : Result Memory TreeError → Bytes → Memory → Result (Unit {0}) Stopped → Memory → Type 0
AppliesAs due text old (Ok done) new = due ≡ Ok new
AppliesAs due text old (Err (Tree error)) new = (new ≡ old) × ((error ≡ NoMemory) ⊎ (due ≡ Err error))
AppliesAs due text old (Err NotUtf8) new = (new ≡ old) × ¬ (IsUtf8 text)
AppliesAs due text old (Err other) new = ⊥

-- a change at a path leads from a tree to a tree
abbrev pub Applies : Change → Path → Memory → Result (Unit {0}) Stopped → Memory → Type 0
Applies change path old given new = AppliesAs (change_of change path old) (text_in change) old given new

-- a change at a path leads from what a handle kept to what it keeps
abbrev pub Changes : Kept → Change → Bytes → Result (Unit {0}) Stopped → Kept → Type 0
Changes old change path (Ok done) new =
    (before after : Memory) × (tree_in old ≡ Some before) × (change_of change path before ≡ Ok after) × (new ≡ keeping after)
Changes old change path (Err (Tree error)) new =
    (before : Memory) × (tree_in old ≡ Some before) × (new ≡ old)
    × ((error ≡ NoMemory) ⊎ (change_of change path before ≡ Err error))
Changes old change path (Err NotUtf8) new = (new ≡ old) × (¬ (IsUtf8 path) ⊎ ¬ (IsUtf8 (text_in change)))
Changes old change path (Err Misused) new = (new ≡ old) × (tree_in old ≡ None)
Changes old change path (Err other) new = ⊥

-- the same, by the number that C is told
abbrev pub Changed : Kept → Change → Bytes → ℕ → Kept → Type 0
Changed old change path code new =
    (given : Result (Unit {0}) Stopped) × Changes old change path given new × (code ≡ ended_code given)

-- P holds of a fault that has a number; without one the call does nothing, and says so
abbrev pub Faulted : Option Fault → (Fault → Type 0) → ℕ → Kept → Kept → Type 0
Faulted None P code old new = (code ≡ ended_code {A = Unit {0}} (Err Misused)) × (new ≡ old)
Faulted (Some fault) P code old new = P fault
