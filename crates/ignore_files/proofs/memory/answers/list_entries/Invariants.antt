use Rattle.std.proofs.Common.{◌≡◌, map, take}
use Rattle.ignore_files.specs.Answers.{listed_of}
use Rattle.ignore_files.proofs.memory.answers.list_entries.Given as goal

abbrev pub invariant-loop-entry : goal.invariant-loop-entry
invariant-loop-entry l = l.listed.items ≡ map listed_of (take l.entry-index l.entries)
