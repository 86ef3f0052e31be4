-- A text is rejected with one parse error, and only where it doesn't parse.
use Rattle.std.proofs.Common.{◌≡◌, ℕ, List}
use Rattle.ignore_glob.specs.declared.glob.options.Options.{Options}
use Rattle.ignore_glob.specs.declared.glob.fault.GlobFault.{GlobFault}
use Rattle.ignore_glob.specs.declared.glob.fault.PatternError.TheVariants.{Fault}
use Rattle.ignore_glob.specs.Glob.{Tokens}
use Rattle.ignore_glob.specs.GlobFaults.{IfFault}
use Rattle.ignore_glob.specs.Row.{Reads, IsFaulty}
use Rattle.ignore_glob.proofs.RowLemmas.{one_fault, never_both}

-- two parse errors that a text is rejected with are one
IfFault-one : (o : Options) (text : List ℕ) (f g : GlobFault) → IfFault (Fault f) (λ e. IsFaulty o text e)
    → IfFault (Fault g) (λ e. IsFaulty o text e) → f ≡ g
IfFault-one o text f g a b = one_fault o text f g a b

-- no text that parses is rejected with a parse error
IfFault-never : (o : Options) (text : List ℕ) (ts : Tokens) (f : GlobFault) → Reads o text ts
    → IfFault (Fault f) (λ e. IsFaulty o text e) → ⊥
IfFault-never o text ts f a b = never_both o text ts f a b
