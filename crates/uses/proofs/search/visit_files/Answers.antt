use Rattle.uses.proofs.FoundLemmas.{finished_more, found_more}
use Rattle.uses.proofs.search.visit_files.Goals as goal

pub loop-entry-preserved : goal.loop-entry-preserved
loop-entry-preserved g c =
    let l = c.loop-entry in
    record {
      finished = finished_more l.yielded c.in-Some.entry l.invariant.finished c.in_ok-visit.ensures.goes_on;
      found = λ tree honest.
          found_more tree c.args.word.now l.yielded c.in-Some.entry l.found c.visit.new.found (l.invariant.found tree honest)
          (c.in_ok-visit.ensures.found tree honest);
    }
