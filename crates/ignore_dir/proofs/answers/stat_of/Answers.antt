use Rattle.std.proofs.Common.{true, subst, sym}
use Rattle.std.proofs.lemmas.Result.{IfOk-weaker}
use Rattle.ignore_dir.proofs.AboveLemmas.{answered-is}
use Rattle.ignore_dir.proofs.LoadsByLemmas.{answer-is}
use Rattle.ignore_dir.proofs.answers.stat_of.Goals as goal

pub returns-clause-value : goal.returns-clause-value
returns-clause-value g c = λ tree h.
    IfOk-weaker c.answered.result _ _
    (λ found is. sym (answered-is (tree.stat c.args.path.now true) c.stat.result found (h.stat c.args.path.now true c.stat.result c.stat.ensures) is))
    c.answered.ensures.answered

pub returns-clause-answered : goal.returns-clause-answered
returns-clause-answered g c =
    IfOk-weaker c.answered.result _ _
    (λ found is. subst (g.F.Files.stat_gives c.args.ground.now.files.now c.args.path.now true) (answer-is c.stat.result found is) c.stat.ensures)
    c.answered.ensures.answered
