use Rattle.ignore_walk.proofs.GroundLemmas.{opens, suited-loads}
use Rattle.ignore_walk.proofs.PaceLemmas.{listed_by}
use Rattle.ignore_walk.proofs.ground.Ground.opened.Goals as goal

pub returns-clause-value : goal.returns-clause-value
returns-clause-value g c = λ s given.
    let suits = c.lent.ensures.suits s given in
    let lent = c.lent.result in
    let self = c.args.self.now in
    let are = suited-loads g.F.Files g.S.Callbacks lent.files.now self.owner lent.settings.now lent.outside.now self.options s suits in
    let done = c.in_ok-opened.ensures in
    opens s c.in_ok-path.path c.args.path.now c.args.text c.in_ok-opened.opened c.in_ok-path.ensures done.path done.text
    (done.dir s.tree s.loads suits.honest are) (done.problem s.tree s.loads suits.honest are) (done.rest s.tree suits.honest s.order suits.order)
    (done.fault s.tree suits.honest)

pub returns-clause-listed : goal.returns-clause-listed
returns-clause-listed g c = listed_by g.F.Files _ _ _ _ c.lent.ensures.files c.in_ok-opened.ensures.listed
