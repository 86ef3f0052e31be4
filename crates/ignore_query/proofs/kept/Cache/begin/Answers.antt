use Rattle.ignore_base.specs.Paths.{components}
use Rattle.ignore_files.proofs.Components.{components_some}
use Rattle.ignore_query.proofs.BeginLemmas.{begins_above, begins_in}
use Rattle.ignore_query.proofs.KnownLemmas.{last_of}
use Rattle.ignore_query.proofs.kept.Cache.begin.Goals as goal

pub returns-in-Some : goal.returns-in-Some
returns-in-Some c = λ clean.
    let path = c.args.path.now in
    let end = last_of path in
    begins_in c.args.self.now (components path) end.0 end.1.0 c.parent_key-parent.result.now c.open_above.result c.in-Some.place end.1.1
    (c.parent_key-parent.ensures end.0 end.1.0 end.1.1) clean c.in-Some.is c.open_above.ensures.root c.open_above.ensures.below

pub returns-in-None : goal.returns-in-None
returns-in-None c = λ clean.
    let some = components_some c.args.path.now in begins_above c.args.self.now (components c.args.path.now) some.0 some.1 some.2
