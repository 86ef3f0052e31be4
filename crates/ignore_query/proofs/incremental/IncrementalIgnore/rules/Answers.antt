use Rattle.std.proofs.Common.{◌∙◌}
use Rattle.ignore_query.specs.Reached.{scene_of}
use Rattle.ignore_query.proofs.LoadedLemmas.{all_loaded}
use Rattle.ignore_query.proofs.incremental.IncrementalIgnore.rules.Goals as goal

pub returns-clause-loaded : goal.returns-clause-loaded
returns-clause-loaded c = λ tree loads agrees.
    let g = scene_of c.args.self.now.asked tree loads in
    c.in_ok-rules.ensures.rules
    ∙ all_loaded g c.args.self.now.cache (c.steps_are_whole.ensures.root g) (c.steps_are_whole.ensures.entered g) agrees
    c.rules.ensures.ordered
