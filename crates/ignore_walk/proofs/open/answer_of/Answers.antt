use Rattle.std.proofs.Common.{List, Result, subst}
use Rattle.std.proofs.lemmas.Result.{IfOk-weaker}
use Rattle.ignore_files.specs.declared.types.Listed.{Listed}
use Rattle.ignore_files.specs.declared.types.Refusal.{Refusal}
use Rattle.ignore_walk.proofs.AnsweredLemmas.{is_answer}
use Rattle.ignore_walk.proofs.open.answer_of.Goals as goal

pub returns-clause-answered : goal.returns-clause-answered
returns-clause-answered g c =
    IfOk-weaker c.answered.result _ _
    (λ found h. subst (λ (r : Result (List Listed) Refusal). g.F.Files.list_gives c.args.files.now c.args.path.now r)
    (is_answer c.list.result found h) c.list.ensures)
    c.answered.ensures.answered
