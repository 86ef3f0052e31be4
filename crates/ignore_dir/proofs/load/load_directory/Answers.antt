use Rattle.std.proofs.lemmas.Result.{IfOk-weaker}
use Rattle.ignore_dir.proofs.LoadsByLemmas.{all_asked, loads-more}
use Rattle.ignore_dir.proofs.load.load_directory.Goals as goal

pub returns-clause-answered : goal.returns-clause-answered
returns-clause-answered g c =
    IfOk-weaker c.load_shown.result _ _
    (λ r by. loads-more _ _ _ _ _ _ _ (all_asked g.F.Files c.args.ground.now.files.now c.args.dir.now c.nothing.result c.nothing.ensures) by)
    c.load_shown.ensures.answered
