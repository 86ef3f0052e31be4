use Rattle.std.proofs.Common.{drop}
use Rattle.ignore_base.specs.Problem.{Problem}
use Rattle.ignore_rules.specs.Rules.{Building}
use Rattle.ig_options.specs.Globs.{AddsGlobs, RefusesGlobs}
use Rattle.ig_options.proofs.globs.push_globs.Given as goal

-- what is left of the globs leads where all of them do
abbrev pub invariant-loop-glob : goal.invariant-loop-glob
invariant-loop-glob l = record {
  adds : (new : Building) → AddsGlobs (drop l.glob-index l.glob-items) l.builder new → AddsGlobs l.globs l.fn.builder new;
  refuses : (problem : Problem) → RefusesGlobs (drop l.glob-index l.glob-items) l.builder problem
      → RefusesGlobs l.globs l.fn.builder problem;
}
