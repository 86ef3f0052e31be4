use Rattle.ignore_walk.proofs.open.loaded.Goals as goal

pub returns-clause-dir : goal.returns-clause-dir
returns-clause-dir g c = λ tree loads honest are.
    c.loaded_by.ensures.dir tree loads honest are (c.nothing.ensures tree c.args.path.now)

pub returns-clause-problem : goal.returns-clause-problem
returns-clause-problem g c = λ tree loads honest are.
    c.loaded_by.ensures.problem tree loads honest are (c.nothing.ensures tree c.args.path.now)
