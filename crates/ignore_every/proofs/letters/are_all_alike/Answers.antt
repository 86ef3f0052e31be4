use Rattle.std.proofs.Common.{◌≡◌, ◌↔◌, ◌++◌, ◌∷◌, [], ℕ, ◌≤◌, Some, length, slice_get, arith, below_more, refl, subst}
use Rattle.std.proofs.lemmas.Option.{slice_get_read, slice_get_within}
use Rattle.ignore_glob.specs.PositionSets.{AreAlike, IsSetAfter}
use Rattle.ignore_glob.specs.Reading.{Reading}
use Rattle.ignore_every.proofs.letters.are_all_alike.Goals as goal

pub loop-automaton-preserved : goal.loop-automaton-preserved
loop-automaton-preserved c =
    let automata = c.args.automata.now in
    let i = c.loop-automaton.automaton-index in
    let item = c.automaton-item.result in
    let mark = c.args.mark in
    let here : (reading : Reading) → slice_get automata i ≡ Some reading → (d : ℕ) → c.args.first ≤ d → d ≤ c.args.last → AreAlike reading mark d =
    λ reading at d low high text flags.
    (let found = slice_get_read automata (length automata) i item refl c.loop-automaton-test.true c.automaton-item.is in
    let same : item ≡ reading = cc (at, found) in
    let one = c.are_alike.ensures c.if-not-are_alike.false text flags in
    let two = c.is_even.ensures c.if-not-is_even.false d low high text flags in
    let P : Reading → Type 0 = λ r. IsSetAfter r (text ++ mark ∷ []) flags ↔ IsSetAfter r (text ++ d ∷ []) flags in
    subst P same ((λ s. two.0 (one.0 s)), (λ s. one.1 (two.1 s)))) in
    below_more _ _ c.loop-automaton.invariant here

pub returns : goal.returns
returns c = λ t d low high i reading at.
    let within = slice_get_within c.args.automata.now i reading at in
    c.loop-automaton.invariant i (omega (arith, within, c.loop-automaton-test.false)) reading at d low high
