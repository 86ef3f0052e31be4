use Rattle.std.proofs.Common.{◌∷◌, ◌++◌, List, [], Option, ap, option_map, ◌∙◌}
use Rattle.ignore_base.specs.Problem.{Problem, problem_of}
use Rattle.ignore_dir.specs.Above.{paths_above, problems_of_loads}
use Rattle.ignore_dir.specs.Load.{joined_some}
use Rattle.ignore_guide.proofs.open.open_root.Goals as goal

pub returns-clause-problem : goal.returns-clause-problem
returns-clause-problem g c = λ tree loads honest are.
    let own = option_map problem_of c.in_ok-dir.error in
    let far = problems_of_loads loads (paths_above tree c.args.ground.now.settings.now c.args.root.now) in
    c.in_ok-error.ensures
    ∙ (ap (λ (l : List (Option Problem)). joined_some (l ++ own ∷ [])) (c.in_ok-above.ensures.errors tree loads honest are)
    ∙ ap (λ (p : Option Problem). joined_some (far ++ p ∷ [])) (c.in_ok-dir.ensures.problem tree loads honest are))
