use Rattle.std.proofs.Common.{drop, subst, sym}
use Rattle.std.specs.List.{IsAmong}
use Rattle.ignore_set.specs.Buckets.{IsFrontOf}
use Rattle.ignore_set.proofs.BucketLemmas.{past_end}
use Rattle.ignore_set.proofs.buckets.Buckets.end.Goals as goal

pub returns-clause-past : goal.returns-clause-past
returns-clause-past c =
    past_end c.args.text.now c.args.self.now c.args.needles.now c.end_of_short-end.result c.end_of_fronts.result c.requires
    (λ j n among got has. c.end_of_short-end.ensures.past j n (subst (λ l. IsAmong l j) (sym c.as_slice.ensures.value) among) got has)
    (λ at j n got big f. c.end_of_fronts.ensures.past at j n got big
    (subst (λ l. IsFrontOf (drop at l) n.text) (sym c.as_bytes.ensures.value) f)) c.end_of_fronts.ensures.least
