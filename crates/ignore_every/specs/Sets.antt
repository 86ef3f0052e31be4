-- The sets that the states of a program's table stand for.
use Rattle.std.specs.Prelude.{ℕ, Bool, List, [], Option, None, Some, slice_get}
use Rattle.ignore_glob.specs.declared.glob.flags.Flags.{Flags}

-- the flags of a set; of none no flags
abbrev pub flags_of : Option Flags → List Bool
flags_of None = []
flags_of (Some set) = set.all.items

-- the flags of the set of a state
abbrev pub set_of : List Flags → ℕ → List Bool
set_of sets s = flags_of (slice_get sets s)
