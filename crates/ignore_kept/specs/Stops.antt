-- How it is numbered why a call did nothing.
use Rattle.std.specs.Prelude.{ℕ, Result, Ok, Err}
use Rattle.ignore_files.specs.declared.tree_error.TreeError.{TreeError}
use Rattle.ignore_files.specs.declared.tree_error.TreeError.TheVariants as tree
use Rattle.ignore_guide.specs.declared.error.GuideError.{GuideError}
use Rattle.ignore_guide.specs.declared.error.GuideError.TheVariants as error
use Rattle.ignore_kept.specs.declared.stopped.Stopped.{Stopped}
use Rattle.ignore_kept.specs.declared.stopped.Stopped.TheVariants.{NotUtf8, Memory, Limit, Invalid, Misused, Outside, Tree, TooLarge}

-- why a tree isn't changed
abbrev pub tree_code : TreeError → ℕ
tree_code tree.NotClean = 11
tree_code tree.NoParent = 12
tree_code tree.Exists = 13
tree_code tree.Missing = 14
tree_code tree.Memory = 5

-- why a call did nothing
abbrev pub stop_code : Stopped → ℕ
stop_code NotUtf8 = 4
stop_code Memory = 5
stop_code Limit = 6
stop_code Invalid = 7
stop_code Misused = 9
stop_code Outside = 10
stop_code (Tree error) = tree_code error
stop_code TooLarge = 17

-- what a call gives that returns nothing: 0, or why it did nothing
abbrev pub ended_code : {A : Type 0} → Result A Stopped → ℕ
ended_code (Ok done) = 0
ended_code (Err stopped) = stop_code stopped

-- why a guide does nothing: a place, or a name, that is none is a call that isn't to be made
abbrev pub guide_stop : GuideError → Stopped
guide_stop error.Memory = Memory
guide_stop error.NoPlace = Misused
guide_stop error.NoName = Misused
guide_stop error.HasChildren = Misused
