use Rattle.std.proofs.Common.{◌≡◌, drop}
use Rattle.ignore_excludes.specs.Excludes.{trimmed_start}
use Rattle.ignore_excludes.proofs.excludes.space_len.Given as goal

abbrev pub invariant-loop-i : goal.invariant-loop-i
invariant-loop-i l = trimmed_start (drop l.i l.text) ≡ trimmed_start l.text
