use Rattle.std.proofs.Common.{[], refl}
use Rattle.std.specs.Str.Lines.{lines}
use Rattle.ignore_rules.specs.Rules.{begun}
use Rattle.commands.specs.Matching.{no_line}
use Rattle.commands.proofs.LineLemmas.{appends_nothing}
use Rattle.commands.proofs.run.answer.Goals as goal

-- out of memory for a builder, nothing is reported
pub returns-in_default-clause-ended : goal.returns-in_default-clause-ended
returns-in_default-clause-ended g c = (
  appends_nothing (g.W.Output.contents c.args.out.now),
  (
    [],
    lines c.args.request.rules.now,
    refl,
    (begun c.args.request.root.now, [], no_line, appends_nothing (g.E.Write.contents c.args.err.now)),
  ),
)
