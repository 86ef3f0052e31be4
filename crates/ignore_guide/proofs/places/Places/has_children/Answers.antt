use Rattle.std.proofs.Common.{◌≡◌, ℕ, nat_eq, Bool, true, false, not, ap, refl, sym, ◌∙◌, eqb-true, eq-eqb}
use Rattle.ignore_guide.proofs.PlaceLemmas.{no-child, some-child, some-is, spotted}
use Rattle.ignore_guide.proofs.places.Places.has_children.Goals as goal

pub returns-clause-some : goal.returns-clause-some
returns-clause-some c = λ yes there.
    let places = c.args.self.now in
    let d = some-is _ there in
    let s = spotted places c.args.place d.0 d.1 in
    some-child places places.counted c.args.place d.0 d.1 s.spot s.at
    (λ none. let e = eq-eqb c.children.result 0 (c.children.ensures s.spot s.at ∙ none) in cc (yes, ap not e))

pub returns-clause-none : goal.returns-clause-none
returns-clause-none c = λ no there.
    let places = c.args.self.now in
    let d = some-is _ there in
    let s = spotted places c.args.place d.0 d.1 in
    no-child places places.counted c.args.place d.0 d.1 s.spot s.at (sym (c.children.ensures s.spot s.at) ∙ zero c.children.result no)
  where
    is_true : (b : Bool) → not b ≡ false → b ≡ true
    is_true true e = refl
    is_true false e = absurd (cc (e))

    zero : (n : ℕ) → not (nat_eq n 0) ≡ false → n ≡ 0
    zero n e = eqb-true n 0 (is_true (nat_eq n 0) e)
