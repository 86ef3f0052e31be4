use Rattle.std.proofs.Common.{ap, sym, ◌∙◌, ◌%◌, arith, slice_get, Some, true}
use Rattle.std.proofs.lemmas.Option.{slice_get-get_or}
use Rattle.ignore_set.proofs.IndexLemmas.{some_same}
use Rattle.ignore_set.proofs.buckets.Buckets.end_of_marked.Goals as goal

pub returns-clause-past : goal.returns-clause-past
returns-clause-past c = λ j n got big is f. c.end_of_bucket.ensures.past j n got big (ap (λ k. k % 16384) is) f

pub returns-then-not-index-clause-past : goal.returns-then-not-index-clause-past
returns-then-not-index-clause-past c = λ j n got big is f.
    let marks = c.args.self.now.marks.items in
    let here = c.index.result.now in
    let noted = ap (λ k. slice_get marks k) (sym is) ∙ c.requires.buckets.marks j n got big in
    let found = slice_get-get_or marks c.args.mark here (omega (arith, c.requires.mark, c.requires.buckets.marked))
    ∙ ap Some (sym c.index.ensures) in
    let yes = some_same here true (sym found ∙ noted) in
    absurd (cc (yes, c.if-not-index.true))
