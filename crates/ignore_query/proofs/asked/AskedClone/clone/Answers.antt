-- A copy asks about the same.
use Rattle.ignore_query.proofs.asked.AskedClone.clone.Goals as goal

pub returns : goal.returns
returns c = record {
  cases = record {
    settings = c.in_ok-clone.ensures.cases;
    outside = c.in_ok-clone-2.ensures.cases;
    root = c.in_ok-clone-3.ensures.cases;
    dir = c.in_ok-copy_of.ensures;
  };
}
