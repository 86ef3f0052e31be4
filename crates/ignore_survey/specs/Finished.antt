-- When a survey was finished.
use Rattle.std.specs.Prelude.{◌≡◌, ◌⊎◌, ⊤, List, [], ◌∷◌, Err}
use Rattle.ignore_base.specs.declared.fault.Fault.TheVariants.{StepLimit}
use Rattle.ignore_base.specs.Problem.{io, memory}
use Rattle.ignore_survey.specs.Survey.{Item}

-- an item that ends a survey: memory ran out, or no item more may follow
abbrev pub IsEnd : Item → Type 0
IsEnd item = (item ≡ Err memory) ⊎ (item ≡ Err (io StepLimit))

-- a survey that has yielded these items, and then none, was finished: no item ended it
abbrev pub IsFinished : List Item → Type 0
IsFinished [] = ⊤
IsFinished (item ∷ items) = ¬ (IsEnd item) × IsFinished items
