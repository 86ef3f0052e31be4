use Rattle.commands.proofs.ItemLemmas.{ends_problem}
use Rattle.commands.proofs.listing.write_item.Goals as goal

-- out of memory, or a problem in the place of an entry that can't be reported
pub returns-in-Err-clause-ended : goal.returns-in-Err-clause-ended
returns-in-Err-clause-ended g c =
    ends_problem c.report_problem.result c.args.item c.in-Err.error (g.W.Output.contents c.args.out.now)
    (g.E.Write.contents c.args.err.now) (g.E.Write.contents c.report_problem.new.err)
    c.in-Err.is c.report_problem.ensures.cause c.report_problem.ensures.kept c.report_problem.ensures.ended
