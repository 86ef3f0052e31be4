use Rattle.std.proofs.Common.{◌+◌, ◌-◌, ◌≤◌, length, take}
use Rattle.std.specs.Io.KnownBytes.{Appends}
use Rattle.commands.proofs.writing.write_whole.Given as goal

-- what was written so far is a beginning of the bytes
abbrev pub invariant-loop-written : goal.invariant-loop-written
invariant-loop-written g l = record {
  within : l.written ≤ length l.bytes;
  begun : Appends (g.W.Output.contents l.fn.out) (g.W.Output.contents l.out) (take l.written l.bytes);
}

-- each write takes some of the others, or is interrupted
abbrev pub decreases-loop-written : goal.decreases-loop-written
decreases-loop-written g l = (length l.bytes - l.written) + l.interrupts
