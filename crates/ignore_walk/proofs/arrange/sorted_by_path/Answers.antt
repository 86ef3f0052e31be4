use Rattle.ignore_walk.proofs.Sorting.{arranged-by_path, permuted-by_path}
use Rattle.ignore_walk.proofs.arrange.sorted_by_path.Goals as goal

pub returns : goal.returns
returns g c = record {
  arranged = λ cmp answers o.
      arranged-by_path cmp c.args.dir.now c.args.listing.items _ _ _ c.in_ok-all.ensures.value c.in_ok-unkeyed.ensures
      (c.in_ok-sort_by_path.ensures.sorted cmp answers o);
  permuted = permuted-by_path c.args.dir.now c.args.listing.items _ _ _ c.in_ok-all.ensures.value c.in_ok-unkeyed.ensures
      c.in_ok-sort_by_path.ensures.permuted;
}
