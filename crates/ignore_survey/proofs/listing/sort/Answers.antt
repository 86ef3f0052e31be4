use Rattle.std.proofs.Common.{rules}
use Rattle.std.proofs.lemmas.Fn.{always_returns_same}
use Rattle.std.proofs.lemmas.Result.{on_ok_weaker}
use Rattle.std.specs.Cmp.Lexicographic.{slice_cmp}
use Rattle.std.specs.Ordering.{is_lt, nat_cmp}
use Rattle.ignore_walk.specs.Walked.{comes_before}
use Rattle.ignore_survey.proofs.SurveyLemmas.{things_order}
use Rattle.ignore_survey.proofs.listing.sort.Goals as goal

pub returns : goal.returns
returns c = λ dir.
    let lt = comes_before (λ a b. is_lt (slice_cmp nat_cmp a b)) in
    on_ok_weaker c.sort_by.result
    (λ h. (
      c.sort_by.ensures.permutation,
      h lt things_order (always_returns_same _ _ _ (λ a r f' k. search rules)),
      c.sort_by.ensures.stable lt things_order (always_returns_same _ _ _ (λ a r f' k. search rules)),
    ))
    c.sort_by.ensures.sorted
