-- When a walk was finished.
use Rattle.std.specs.Prelude.{◌≡◌, ◌⊎◌, ⊤, List, [], ◌∷◌, Err}
use Rattle.ignore_base.specs.declared.fault.Fault.TheVariants.{StepLimit}
use Rattle.ignore_base.specs.Problem.{io, memory}
use Rattle.ignore_walk.specs.Entry.{Item}

-- an item that ends a walk: memory ran out, or the limit of steps is reached
abbrev pub IsEnd : Item → Type 0
IsEnd item = (item ≡ Err memory) ⊎ (item ≡ Err (io StepLimit))

-- a walk that has yielded these items, and then none, was finished: no item ended it
abbrev pub IsFinished : List Item → Type 0
IsFinished [] = ⊤
IsFinished (item ∷ items) = ¬ (IsEnd item) × IsFinished items
