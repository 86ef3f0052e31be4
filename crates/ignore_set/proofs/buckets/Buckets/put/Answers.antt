use Rattle.std.proofs.Common.{◌≡◌, ◌++◌, ◌∷◌, ◌%◌, [], Some, ap, refl, set, true, slice_get, sym, ◌∙◌, arith}
use Rattle.std.specs.Vec.{with_item}
use Rattle.std.proofs.lemmas.Option.{slice_get-get_or}
use Rattle.ignore_set.specs.declared.buckets.Buckets.{Buckets}
use Rattle.ignore_set.specs.Others.{bucket_of, mark_of}
use Rattle.ignore_set.proofs.BucketLemmas.{below_three, bucket_fits, put_long, put_short}
use Rattle.ignore_set.proofs.buckets.Buckets.put.Goals as goal

pub returns-in_ok-push-in-Some : goal.returns-in_ok-push-in-Some
returns-in_ok-push-in-Some c = λ needles are size.
    let old = c.args.self.now in
    let n = c.args.needle.now in
    let mark = c.in-Some.mark in
    let was = c.index_mut.result.now in
    let new = c.push.new.self in
    let marked : mark ≡ mark_of n.text = c.in-Some.ensures.1 in
    let is : mark % 16384 ≡ bucket_of n.text = ap (λ k. k % 16384) marked in
    let had = ap (λ k. slice_get old.long.items k) (sym is)
    ∙ (slice_get-get_or old.long.items (mark % 16384) was (omega (arith, is, c.requires.long, bucket_fits n.text))
    ∙ ap Some (sym c.index_mut.ensures.value)) in
    let now : Buckets = record {
      fronts = with_item old.fronts c.front.result true;
      marks = with_item old.marks mark true;
      long = with_item old.long (mark % 16384) new;
      short = old.short;
    } in
    put_long old now needles n was new c.in-Some.ensures.0 had
    (ap (λ k. set old.long.items k new) is)
    (c.in_ok-push-in-Some.ensures.items ∙ ap (λ k. was.items ++ k ∷ []) (sym size))
    (ap (λ k. set old.fronts.items k true) c.front.ensures.value)
    (ap (λ k. set old.marks.items k true) marked) refl are

pub returns-in_ok-push-in-None : goal.returns-in_ok-push-in-None
returns-in_ok-push-in-None c = λ needles are size.
    let old = c.args.self.now in
    let now : Buckets = record { fronts = old.fronts; marks = old.marks; long = old.long; short = c.push-in-None.new.self } in
    put_short old now needles c.args.needle.now (below_three _ c.in-None.ensures) refl refl refl
    (c.in_ok-push-in-None.ensures.items ∙ ap (λ k. old.short.items ++ k ∷ []) (sym size)) are
