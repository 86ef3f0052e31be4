use Rattle.std.proofs.Common.{◌≡◌, ◌-◌, ◌<◌, ◌≤◌, ℕ, Some, drop, inl, inr, length, slice_get, subst, sym, arith}
use Rattle.std.proofs.lemmas.List.{length-drop, take_rest}
use Rattle.ignore_set.specs.Buckets.{IsFrontOf}
use Rattle.ignore_set.specs.Others.{IndexedText}
use Rattle.ignore_set.proofs.BucketLemmas.{front_long}
use Rattle.ignore_set.proofs.IndexLemmas.{split}
use Rattle.ignore_set.proofs.buckets.Buckets.end_of_fronts.Goals as goal

pub loop-at-init : goal.loop-at-init
loop-at-init c = record {
  past = λ at j n from got big f. absurd (omega (
    arith,
    from,
    big,
    c.saturating_sub-at.ensures,
    front_long (drop at c.args.bytes.now) n.text f,
    length-drop at c.args.bytes.now,
  ));
  least = omega arith;
  within = c.requires.least;
}

pub loop-at-preserved : goal.loop-at-preserved
loop-at-preserved c =
    let bytes = c.args.bytes.now in
    let now = c.loop-at.at - 1 in
    let here : (j : ℕ) (n : IndexedText) → slice_get c.args.needles.now j ≡ Some n → 3 ≤ length n.text
    → IsFrontOf (drop now bytes) n.text → j < c.end_of_buckets-end.result =
    λ j n got big f. c.end_of_buckets-end.ensures.past j n got big (subst (λ l. IsFrontOf l n.text) (sym (take_rest bytes now)) f) in
    record {
      past = λ at j n from got big f. elim (split at now) [
        | inl before ↦ absurd (omega (arith, from, before))
        | inr (inl same) ↦ here j n got big (subst (λ k. IsFrontOf (drop k bytes) n.text) same f)
        | inr (inr later) ↦ omega (
          arith,
          c.loop-at.invariant.past at j n (omega (arith, later)) got big f,
          c.end_of_buckets-end.ensures.least,
        )
      ];
      least = omega (arith, c.loop-at.invariant.least, c.end_of_buckets-end.ensures.least);
      within = c.end_of_buckets-end.ensures.within c.loop-at.invariant.within;
    }

pub returns-clause-past : goal.returns-clause-past
returns-clause-past c = λ at j n got big f. c.loop-at.invariant.past at j n (omega (arith, c.loop-at-test.false)) got big f
