use Rattle.std.proofs.Common.{◌+◌, ◌-◌, ◌≤◌, length, drop, map}
use Rattle.ignore_base.specs.Problem.{problem_of}
use Rattle.ignore_rules.specs.RuleFile.{lines_read}
use Rattle.ignore_rules.specs.RuleSteps.{Keeps}
use Rattle.ignore_rules.proofs.FileLemmas.{LeadsTo}
use Rattle.ignore_rules.proofs.gitignore.builder.GitignoreBuilder.add_lines.Given as goal

abbrev pub invariant-loop-text : goal.invariant-loop-text
invariant-loop-text l = record {
  within : l.at ≤ length l.bytes;
  counted : l.number ≤ l.at;
  leads : LeadsTo l.path (lines_read l.bytes l.fault) l.initial.self (l.number + 1) (lines_read (drop l.at l.bytes) l.fault) l.self
      (map problem_of l.problems.items);
  kept : Keeps l.initial.self l.self;
}

abbrev pub decreases-loop-text : goal.decreases-loop-text
decreases-loop-text l = length l.bytes - l.at
