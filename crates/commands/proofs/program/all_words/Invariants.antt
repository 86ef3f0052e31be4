use Rattle.std.proofs.Common.{◌≡◌}
use Rattle.commands.proofs.program.all_words.Given as goal

-- the words so far are all that were yielded
abbrev pub invariant-loop-word : goal.invariant-loop-word
invariant-loop-word g l = record { all : l.all.items ≡ l.yielded }
