use Rattle.ignore_guide.specs.declared.hosted.Call.TheVariants as call
use Rattle.ignore_guide.specs.contracts.told.ToldFiles.TheImpl.{ghosts}
use Rattle.ignore_guide.proofs.HostLemmas.{enter-comes, new-place}
use Rattle.ignore_guide.proofs.guide.Guide.come.Goals as goal

pub returns-in-Enter-clause-comes : goal.returns-in-Enter-clause-comes
returns-in-Enter-clause-comes c =
    enter-comes ghosts c.args.told.now c.args.call.now c.in-Enter.parent c.in-Enter.name c.as_str-in-Enter.result.now c.args.self.now
    c.enter.result _ c.in-Enter.is c.as_str-in-Enter.ensures c.enter.ensures.answered

pub returns-in-Root-clause-placed : goal.returns-in-Root-clause-placed
returns-in-Root-clause-placed c =
    new-place c.args.call.now (call.Root c.in-Root.root) c.in-Root.is c.root.result _ _ c.root.ensures.new c.root.ensures.top c.root.ensures.stay

pub returns-in-Enter-clause-placed : goal.returns-in-Enter-clause-placed
returns-in-Enter-clause-placed c =
    new-place c.args.call.now (call.Enter c.in-Enter.parent c.in-Enter.name) c.in-Enter.is c.enter.result _ _ c.enter.ensures.new
    c.enter.ensures.within c.enter.ensures.stay
