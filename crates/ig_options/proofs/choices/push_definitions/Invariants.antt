use Rattle.std.proofs.Common.{drop}
use Rattle.ignore_base.specs.Problem.{Problem}
use Rattle.ignore_types.specs.Types.{Draft}
use Rattle.ig_options.specs.Choices.{AddsTypes, RefusesDefinitions}
use Rattle.ig_options.proofs.choices.push_definitions.Given as goal

-- what is left of the definitions leads where all of them do
abbrev pub invariant-loop-definition : goal.invariant-loop-definition
invariant-loop-definition l = record {
  adds : (new : Draft) → AddsTypes (drop l.definition-index l.definition-items) l.builder new → AddsTypes l.definitions l.fn.builder new;
  refuses : (problem : Problem) → RefusesDefinitions (drop l.definition-index l.definition-items) l.builder problem
      → RefusesDefinitions l.definitions l.fn.builder problem;
}
