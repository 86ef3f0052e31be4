-- What holds of a fault that has a number.
use Rattle.std.proofs.Common.{◌≡◌, ℕ, Option, None, Some, Err, sym, subst}
use Rattle.ignore_base.specs.declared.fault.Fault.{Fault}
use Rattle.ignore_kept.specs.Stops.{ended_code}
use Rattle.ignore_kept.specs.Trees.{Faulted}
use Rattle.ignore_kept.specs.declared.kept.Kept.{Kept}
use Rattle.ignore_kept.specs.declared.stopped.Stopped.TheVariants.{Misused}

pub faulted : (numbered : Option Fault) (fault : Fault) (P : Fault → Type 0) (code : ℕ) (old new : Kept) → numbered ≡ Some fault
    → P fault → Faulted numbered P code old new
faulted numbered fault P code old new is p = subst (λ (n : Option Fault). Faulted n P code old new) (sym is) p

pub unfaulted : (numbered : Option Fault) (P : Fault → Type 0) (code : ℕ) (old new : Kept) → None ≡ numbered
    → code ≡ ended_code {A = Unit {0}} (Err Misused) → new ≡ old → Faulted numbered P code old new
unfaulted numbered P code old new is told same = subst (λ (n : Option Fault). Faulted n P code old new) is (told, same)
