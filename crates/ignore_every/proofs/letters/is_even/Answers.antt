use Rattle.std.proofs.Common.{◌≡◌, [], ◌∷◌, ◌++◌, ◌↔◌, arith, subst}
use Rattle.ignore_glob.specs.PositionSets.{IsSetAfter}
use Rattle.ignore_every.proofs.letters.is_even.Goals as goal

pub returns-then-first-last : goal.returns-then-first-last
returns-then-first-last c = λ one d low high text flags.
    let first = c.args.first in
    let reading = c.args.automaton.now in
    let same : first ≡ d = omega (arith, low, high) in
    subst (λ x. IsSetAfter reading (text ++ first ∷ []) flags ↔ IsSetAfter reading (text ++ x ∷ []) flags) same (λ h. h, λ h. h)
