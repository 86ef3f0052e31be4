-- Worked ends: that the output can't be written, or that nobody reads it, is said only where it failed so.
use Rattle.std.proofs.Common.{◌≡◌, refl, subst}
use Rattle.std.specs.declared.io.ErrorKind.{ErrorKind}
use Rattle.std.specs.declared.io.ErrorKind.TheVariants.{BrokenPipe, StorageFull}
use Rattle.ig_commands.specs.Stops.{SaidBy, write_stop}
use Rattle.ig_commands.specs.declared.stop.Stop.TheVariants.{Closed, Write}
use Rattle.ig_commands.specs.declared.stop.Unwritten.TheVariants.{Full, Other}

-- an output that never fails ends no run
never_closed : SaidBy (λ kind. ⊥) Closed → ⊥
never_closed said = said.1

never_failed : SaidBy (λ kind. ⊥) (Write Other) → ⊥
never_failed said = said.1

-- a full device isn't a closed pipe, and is said to be full
full_is_not_closed : SaidBy (λ kind. kind ≡ StorageFull) Closed → ⊥
full_is_not_closed (kind, is, stops) = cc (subst (λ k. write_stop k ≡ Closed) is stops)

full : SaidBy (λ kind. kind ≡ StorageFull) (Write Full)
full = (StorageFull, refl, refl)

closed : SaidBy (λ kind. kind ≡ BrokenPipe) Closed
closed = (BrokenPipe, refl, refl)
