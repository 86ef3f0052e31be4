-- Items after which a walk goes on, whatever the files answer.
use Rattle.std.specs.Prelude.{◌≡◌, Bool, true, false, ◌||◌, List, [], ◌∷◌, map, Ok, Err}
use Rattle.ignore_base.specs.declared.fault.Fault.{Fault}
use Rattle.ignore_base.specs.declared.fault.Fault.TheVariants.{StepLimit}
use Rattle.ignore_base.specs.Problem.{Problem, io}
use Rattle.ignore_dir.specs.Soft.{IsSoft, holds_memory}
use Rattle.ignore_walk.specs.Entry.{Item, item_of}
use Rattle.ignore_walk.specs.declared.stack.Stack.{Stack}

-- a fault is that of the limit of steps
abbrev pub is_step_limit : Fault → Bool
is_step_limit StepLimit = true
is_step_limit _ = false

-- a problem is the limit of steps alone
abbrev pub is_limit : Problem → Bool
is_limit (io fault) = is_step_limit fault
is_limit _ = false

-- no item but the last has this problem: it is out of memory, or has that inside, or it is the limit
-- of steps alone
abbrev pub is_fatal : Problem → Bool
is_fatal p = holds_memory p || is_limit p

-- a walk goes on after an item: out of memory is nowhere inside an entry's error, and an error in an
-- entry's place isn't fatal
abbrev pub GoesOn : Item → Type 0
GoesOn (Ok (e, problem)) = IsSoft problem
GoesOn (Err p) = is_fatal p ≡ false

-- it goes on after each of these items
abbrev pub AllGoOn : List Item → Type 0
AllGoOn [] = Unit {0}
AllGoOn (item ∷ items) = GoesOn item × AllGoOn items

-- it goes on after each item that a stack has in hand
abbrev pub HasNoEnd : Stack → Type 0
HasNoEnd s = AllGoOn (map item_of s.made.items)
