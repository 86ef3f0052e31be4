use Rattle.std.proofs.Common.{◌↔◌, drop}
use Rattle.ignore_excludes.specs.Excludes.{EndsLine}
use Rattle.ignore_excludes.proofs.excludes.ends_line.Given as goal

-- what is left answers for the whole
abbrev pub invariant-loop-byte : goal.invariant-loop-byte
invariant-loop-byte l = EndsLine (drop l.byte-index l.text) ↔ EndsLine l.text
