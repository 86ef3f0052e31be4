use Rattle.std.proofs.Common.{None, subst}
use Rattle.ignore_walk.specs.declared.callbacks.Order.TheVariants.{Listed}
use Rattle.ignore.specs.Walks.{GoesBy, IsNewWalkBy, IsWalkBy}
use Rattle.ignore.specs.declared.options.WalkOptions.{WalkOptions}
use Rattle.ignore.specs.contracts.walk.OwnerCallbacks.TheImpl as calls
use Rattle.ignore.proofs.HeadlineLemmas.{on_ok}
use Rattle.ignore.proofs.builder.walks.Walk+F.from_iter.Goals as goal

pub returns-clause-whole : goal.returns-clause-whole
returns-clause-whole g c =
    let o = c.in_ok-builder.ensures.options in
    on_ok c.walk.result (λ w by. (
      o.0,
      o.1,
      o.2,
      o.3,
      subst (λ (b : WalkOptions). IsWalkBy g.F.Files (calls.ghosts g.dyn-1 g.dyn-2) c.args.files.now (record { builder = None }) c.args.env.now b Listed w.inner) o.4 by,
    )) c.walk.ensures.whole

pub returns-clause-starts : goal.returns-clause-starts
returns-clause-starts g c =
    let o = c.in_ok-builder.ensures.options in
    on_ok c.walk.result (λ w by. (
      o.0,
      o.1,
      o.2,
      o.3,
      subst (λ (b : WalkOptions). IsNewWalkBy g.F.Files (calls.ghosts g.dyn-1 g.dyn-2) c.args.files.now (record { builder = None }) c.args.env.now b Listed w.inner) o.4 by,
    )) c.walk.ensures.starts

pub returns-clause-goes_by : goal.returns-clause-goes_by
returns-clause-goes_by g c =
    let o = c.in_ok-builder.ensures.options in
    on_ok c.walk.result (λ w by. (
      o.0,
      o.1,
      o.2,
      o.3,
      subst (λ (b : WalkOptions). GoesBy g.F.Files c.args.files.now (record { builder = None }) c.args.env.now b Listed w.inner) o.4 by,
    )) c.walk.ensures.goes_by
