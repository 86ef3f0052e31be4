-- The text and the number of each parse error of a glob.
use Rattle.std.specs.Prelude.{ℕ, codes}
use Rattle.ignore_base.specs.Text.{Bytes}
use Rattle.ignore_glob.specs.declared.glob.fault.GlobFault.{GlobFault}
use Rattle.ignore_glob.specs.declared.glob.fault.GlobFault.TheVariants.{UnclosedClass, InvalidRange, UnopenedAlternates, UnclosedAlternates}
use Rattle.ignore_glob.specs.declared.glob.fault.GlobFault.TheVariants.{DanglingEscape, TooDeep}
use Rattle.ignore_glob.specs.declared.glob.fault.PatternError.{PatternError}
use Rattle.ignore_glob.specs.declared.glob.fault.PatternError.TheVariants as Why

-- the text of a parse error
abbrev pub glob_fault_text : GlobFault → Bytes
glob_fault_text UnclosedClass = codes "unclosed character class"
glob_fault_text InvalidRange = codes "invalid range"
glob_fault_text UnopenedAlternates = codes "unopened alternates"
glob_fault_text UnclosedAlternates = codes "unclosed alternates"
glob_fault_text DanglingEscape = codes "dangling escape"
glob_fault_text TooDeep = codes "alternates nested too deep"

-- the number of a parse error
abbrev pub glob_fault_number : GlobFault → ℕ
glob_fault_number UnclosedClass = 1
glob_fault_number InvalidRange = 2
glob_fault_number UnopenedAlternates = 3
glob_fault_number UnclosedAlternates = 4
glob_fault_number DanglingEscape = 5
glob_fault_number TooDeep = 6

-- the text of an error of parsing
abbrev pub pattern_error_text : PatternError → Bytes
pattern_error_text (Why.Fault fault) = glob_fault_text fault
pattern_error_text Why.Memory = codes "out of memory"

-- the error is out of memory, or P holds for the parse error
abbrev pub IfFault : PatternError → (GlobFault → Type 0) → Type 0
IfFault (Why.Fault f) P = P f
IfFault Why.Memory P = Unit {0}
