use Rattle.std.proofs.Common.{inl, inr, ap, sym, ◌∙◌, drop, arith, slice_get, Some, true}
use Rattle.std.proofs.lemmas.Option.{slice_get-get_or}
use Rattle.ignore_set.specs.Others.{eight_at, five_at, three_of, twelve_at}
use Rattle.ignore_set.proofs.BucketLemmas.{front_mark, front_same}
use Rattle.ignore_set.proofs.IndexLemmas.{some_same}
use Rattle.ignore_set.proofs.buckets.Buckets.end_of_buckets.Goals as goal

pub returns-clause-past : goal.returns-clause-past
returns-clause-past c = λ j n got big f.
    let bytes = c.args.bytes.now in
    let a = c.three_from-first in
    let b = c.three_from-second in
    let d = c.three_from-third in
    let e = c.three_from in
    let two = ap (λ x. five_at x b.result) a.ensures.value ∙ ap (λ x. five_at (three_of bytes) x) b.ensures.value in
    let three = ap (λ x. eight_at x b.result d.result) a.ensures.value
    ∙ (ap (λ x. eight_at (three_of bytes) x d.result) b.ensures.value
    ∙ ap (λ x. eight_at (three_of bytes) (three_of (drop 2 bytes)) x) d.ensures.value) in
    let four = ap (λ x. twelve_at x b.result d.result e.result) a.ensures.value
    ∙ (ap (λ x. twelve_at (three_of bytes) x d.result e.result) b.ensures.value
    ∙ (ap (λ x. twelve_at (three_of bytes) (three_of (drop 2 bytes)) x e.result) d.ensures.value
    ∙ ap (λ x. twelve_at (three_of bytes) (three_of (drop 2 bytes)) (three_of (drop 5 bytes)) x) e.ensures.value)) in
    elim (front_mark bytes n.text big f) [
      | inl of_three ↦ omega (
        arith,
        c.end_of_marked-three.ensures.past j n got big (of_three ∙ sym a.ensures.value) f,
        c.end_of_marked-five.ensures.least,
        c.end_of_marked-eight.ensures.least,
        c.end_of_marked.ensures.least,
      )
      | inr (inl of_five) ↦ omega (
        arith,
        c.end_of_marked-five.ensures.past j n got big (of_five ∙ sym (c.five_at.ensures.value ∙ two)) f,
        c.end_of_marked-eight.ensures.least,
        c.end_of_marked.ensures.least,
      )
      | inr (inr (inl of_eight)) ↦ omega (
        arith,
        c.end_of_marked-eight.ensures.past j n got big (of_eight ∙ sym (c.eight_at.ensures.value ∙ three)) f,
        c.end_of_marked.ensures.least,
      )
      | inr (inr (inr of_twelve)) ↦ c.end_of_marked.ensures.past j n got big (of_twelve ∙ sym (c.twelve_at-last.ensures.value ∙ four)) f
    ]

pub returns-then-not-index-clause-past : goal.returns-then-not-index-clause-past
returns-then-not-index-clause-past c = λ j n got big f.
    let fronts = c.args.self.now.fronts.items in
    let here = c.index.result.now in
    let noted = ap (λ k. slice_get fronts k) (c.front_of.ensures.value ∙ sym (front_same c.args.bytes.now n.text big f))
    ∙ c.requires.fronts j n got big in
    let found = slice_get-get_or fronts c.front_of.result here (omega (arith, c.front_of.ensures.within, c.requires.numbers))
    ∙ ap Some (sym c.index.ensures) in
    let yes = some_same here true (sym found ∙ noted) in
    absurd (cc (yes, c.if-not-index.true))
