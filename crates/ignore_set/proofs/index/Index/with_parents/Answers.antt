use Rattle.ignore_set.proofs.AddLemmas.{index_none}
use Rattle.ignore_set.proofs.index.Index.with_parents.Goals as goal

pub returns-clause-value : goal.returns-clause-value
returns-clause-value c =
    index_none (record {
      whole = c.new.result;
      names = c.new-2.result;
      ends = c.new-3.result;
      others = c.new-4.result;
      buckets = c.none.result;
      parents = c.args.parents;
    }) c.new.ensures c.new-2.ensures c.new-3.ensures c.new-4.ensures.items c.none.ensures c.requires
