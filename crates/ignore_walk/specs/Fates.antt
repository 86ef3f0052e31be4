-- What becomes of an entry, by the code.
use Rattle.std.specs.Prelude.{ℕ, Bool, false, not, ◌==◌, Option, None, Some}
use Rattle.ignore_walk.specs.Walked.{Fate, yield, load, enter}
use Rattle.ignore_walk.specs.declared.ground.Fate.{Fate as Chosen}
use Rattle.ignore_walk.specs.declared.ground.Fate.TheVariants.{Yield, Load, Enter}

-- the fate that a value of the code stands for
abbrev pub fate_of : Chosen → Fate
fate_of Yield = yield
fate_of Load = load
fate_of Enter = enter

-- two devices are known and differ
abbrev pub differ : Option ℕ → Option ℕ → Bool
differ None b = false
differ (Some a) None = false
differ (Some a) (Some b) = not (a == b)
