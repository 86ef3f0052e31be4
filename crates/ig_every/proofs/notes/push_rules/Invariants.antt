use Rattle.std.proofs.Common.{take}
use Rattle.ig_every.specs.Notes.{AddsTexts}
use Rattle.ig_every.proofs.notes.push_rules.Given as goal

-- the lines of the rules so far are added
abbrev pub invariant-loop-rule : goal.invariant-loop-rule
invariant-loop-rule l = AddsTexts (take l.rule-index l.rules) l.initial.builder l.builder
