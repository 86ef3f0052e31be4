use Rattle.std.proofs.Common.{map}
use Rattle.std.proofs.lemmas.Result.{IfOk-weaker}
use Rattle.ignore.specs.WalkWords.{item_of}
use Rattle.uses.proofs.search.search.Goals as goal

pub returns-clause-whole : goal.returns-clause-whole
returns-clause-whole g c = λ owner env b order by left.
    IfOk-weaker c.visit_files.result _ _
    (λ found h. (
      map item_of h.0,
      c.a_finished_walk_is_the_headline.ensures c.args.files.now owner env b order c.args.walk h.0 by left h.1 h.2,
      h.3,
    ))
    c.visit_files.ensures.found
