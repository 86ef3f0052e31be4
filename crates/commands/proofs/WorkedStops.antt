-- Worked ends: that the output can't be written is said only where the output failed.
use Rattle.std.proofs.Common.{◌≡◌, refl}
use Rattle.std.specs.declared.io.ErrorKind.{ErrorKind}
use Rattle.std.specs.declared.io.ErrorKind.TheVariants.{StorageFull}
use Rattle.commands.specs.Stops.{SaidBy}
use Rattle.commands.specs.declared.stop.Stop.TheVariants.{Memory, Write}

-- an output that never fails ends no run so
never_failed : SaidBy (λ kind. ⊥) Write → ⊥
never_failed said = said.1

-- a full one may, and so may memory whatever the output says
full : SaidBy (λ kind. kind ≡ StorageFull) Write
full = (StorageFull, refl)

out_of_memory : SaidBy (λ kind. ⊥) Memory
out_of_memory = tt
