use Rattle.std.proofs.Common.{ℕ, Some, ap, slice_get, subst, sym, ◌∙◌, arith, Vec, Global}
use Rattle.std.specs.List.{IsAmong}
use Rattle.std.proofs.lemmas.Option.{slice_get-get_or}
use Rattle.ignore_set.proofs.IndexLemmas.{some_same}
use Rattle.ignore_set.proofs.buckets.Buckets.end_of_bucket.Goals as goal

pub returns-clause-past : goal.returns-clause-past
returns-clause-past c = λ j n got big is f.
    let p = c.requires.buckets.long j n got big in
    let long = c.args.self.now.long.items in
    let items = c.index.result.now in
    let got_items = slice_get-get_or long c.args.bucket items
    (omega (arith, c.requires.bucket, c.requires.buckets.count)) ∙ ap Some (sym c.index.ensures) in
    let same = some_same items p.0 (sym got_items ∙ (ap (λ k. slice_get long k) (sym is) ∙ p.1)) in
    c.end_of_front.ensures.past j n
    (subst (λ l. IsAmong l j) (sym (c.as_slice.ensures.value ∙ ap (λ (v : Vec ℕ Global). v.items) same)) p.2) got f
