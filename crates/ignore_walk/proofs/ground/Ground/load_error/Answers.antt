use Rattle.ignore_walk.proofs.GroundLemmas.{suited-loads}
use Rattle.ignore_walk.proofs.ground.Ground.load_error.Goals as goal

pub returns-clause-value : goal.returns-clause-value
returns-clause-value g c = λ s given.
    let suits = c.lent.ensures.suits s given in
    let lent = c.lent.result in
    let self = c.args.self.now in
    c.in_ok-error.ensures.problem s.tree s.loads suits.honest
    (suited-loads g.F.Files g.S.Callbacks lent.files.now self.owner lent.settings.now lent.outside.now self.options s suits)
