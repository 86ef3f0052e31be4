use Rattle.std.proofs.Common.{◌≡◌, map}
use Rattle.ignore_why.specs.Cited.{named_of}
use Rattle.ig_commands.specs.Found.{first_at}
use Rattle.ig_commands.specs.Rules.{Grows}
use Rattle.ig_commands.proofs.unused.Found.note_read.Given as goal

-- the rules so far are noted
abbrev pub invariant-loop-rule : goal.invariant-loop-rule
invariant-loop-rule l = record {
  read : Grows (first_at (map named_of l.yielded)) l.fn.self.read l.self.read;
  used : l.self.used ≡ l.fn.self.used;
}
