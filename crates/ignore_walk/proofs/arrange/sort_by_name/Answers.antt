use Rattle.std.proofs.Common.{rules}
use Rattle.std.proofs.lemmas.Fn.{always_returns_same}
use Rattle.std.proofs.lemmas.Result.{on_ok_weaker}
use Rattle.std.specs.Ordering.{is_lt}
use Rattle.ignore_walk.specs.Walked.{comes_before}
use Rattle.ignore_walk.proofs.Arranged.{before_order}
use Rattle.ignore_walk.proofs.arrange.sort_by_name.Goals as goal

pub returns : goal.returns
returns g c =
    record {
      arranged = λ cmp dir answers o.
          let lt = comes_before (λ a b. is_lt (cmp a b)) in
          let order = before_order (λ a b. is_lt (cmp a b)) o in
          on_ok_weaker c.sort_by.result
          (λ h. (
            c.sort_by.ensures.permutation,
            h lt order (always_returns_same _ _ _ (λ a r f' k. search rules)),
            c.sort_by.ensures.stable lt order (always_returns_same _ _ _ (λ a r f' k. search rules)),
          ))
          c.sort_by.ensures.sorted;
      permuted = on_ok_weaker c.sort_by.result (λ h. c.sort_by.ensures.permutation) c.sort_by.ensures.sorted;
    }
