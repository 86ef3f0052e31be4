use Rattle.std.proofs.Common.{option_map}
use Rattle.std.proofs.lemmas.Result.{IfOk-weaker}
use Rattle.ignore_base.specs.Problem.{problem_of}
use Rattle.ignore_walk.proofs.open.loaded_by.Goals as goal

pub returns-clause-dir : goal.returns-clause-dir
returns-clause-dir g c = λ tree loads honest are shows.
    let s = c.args.ground.now.settings.now in
    let path = c.args.path.now in
    IfOk-weaker c.load_shown.result _ _
    (λ r h. (c.one_load.ensures.one tree s path r.0 (loads path).0 (option_map problem_of r.1) (loads path).1 h (are path)).0)
    (c.load_shown.ensures.read tree honest shows)

pub returns-clause-problem : goal.returns-clause-problem
returns-clause-problem g c = λ tree loads honest are shows.
    let s = c.args.ground.now.settings.now in
    let path = c.args.path.now in
    IfOk-weaker c.load_shown.result _ _
    (λ r h. (c.one_load.ensures.one tree s path r.0 (loads path).0 (option_map problem_of r.1) (loads path).1 h (are path)).1)
    (c.load_shown.ensures.read tree honest shows)
