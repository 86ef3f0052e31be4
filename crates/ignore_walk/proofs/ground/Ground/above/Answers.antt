use Rattle.std.proofs.Common.{ap, sym, ◌∙◌}
use Rattle.ignore_dir.specs.declared.settings.Settings.{Settings}
use Rattle.ignore_dir.specs.Above.{kept_above}
use Rattle.ignore_walk.proofs.GroundLemmas.{suited-loads}
use Rattle.ignore_walk.proofs.ground.Ground.above.Goals as goal

pub returns-clause-dir : goal.returns-clause-dir
returns-clause-dir g c = λ s given.
    let suits = c.lent.ensures.suits s given in
    let lent = c.lent.result in
    let self = c.args.self.now in
    let are = suited-loads g.F.Files g.S.Callbacks lent.files.now self.owner lent.settings.now lent.outside.now self.options s suits in
    let dir = c.in_ok-dir.dir in
    c.kept_above.ensures
    ∙ (ap (λ (x : Settings). kept_above x dir) (sym given.settings)
    ∙ ap (kept_above s.settings) (c.in_ok-dir.ensures.dir s.tree s.loads suits.honest are))

pub returns-clause-problem : goal.returns-clause-problem
returns-clause-problem g c = λ s given.
    let suits = c.lent.ensures.suits s given in
    let lent = c.lent.result in
    let self = c.args.self.now in
    c.in_ok-dir.ensures.problem s.tree s.loads suits.honest
    (suited-loads g.F.Files g.S.Callbacks lent.files.now self.owner lent.settings.now lent.outside.now self.options s suits)
