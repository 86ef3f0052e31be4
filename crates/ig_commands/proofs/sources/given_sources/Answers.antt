use Rattle.std.proofs.Common.{ap, ◌∙◌}
use Rattle.std.proofs.lemmas.List.{take_all}
use Rattle.std.specs.List.{flat_map}
use Rattle.ig_commands.specs.Lint.{given_path}
use Rattle.ig_commands.proofs.LintLemmas.{given_more}
use Rattle.ig_commands.proofs.sources.given_sources.Goals as goal

pub loop-given-preserved : goal.loop-given-preserved
loop-given-preserved c =
    given_more c.deref-given-items.result.now c.loop-given.given-index c.given-item.result c.loop-given.outside.items c.push_given.new.paths.items
    c.loop-given-test.true c.given-item.is c.loop-given.invariant c.in_ok-push_given.ensures

pub returns-clause-given : goal.returns-clause-given
returns-clause-given c =
    c.loop-given.invariant
    ∙ ap (flat_map given_path) (take_all c.loop-given.given-index c.deref-given-items.result.now c.loop-given-test.false ∙ c.deref-given-items.ensures.value)
