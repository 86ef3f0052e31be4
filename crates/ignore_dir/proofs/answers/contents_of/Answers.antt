use Rattle.std.proofs.Common.{subst, sym}
use Rattle.std.proofs.lemmas.Result.{IfOk-weaker}
use Rattle.ignore_dir.proofs.AboveLemmas.{answered-is}
use Rattle.ignore_dir.proofs.LoadsByLemmas.{answer-is}
use Rattle.ignore_dir.proofs.answers.contents_of.Goals as goal

pub returns-clause-value : goal.returns-clause-value
returns-clause-value g c = λ tree h.
    IfOk-weaker c.answered.result _ _
    (λ found is. sym (answered-is (tree.contents c.args.path.now) c.contents.result found (h.contents c.args.path.now c.contents.result c.contents.ensures) is))
    c.answered.ensures.answered

pub returns-clause-answered : goal.returns-clause-answered
returns-clause-answered g c =
    IfOk-weaker c.answered.result _ _
    (λ found is. subst (g.F.Files.contents_gives c.args.ground.now.files.now c.args.path.now) (answer-is c.contents.result found is) c.contents.ensures)
    c.answered.ensures.answered
