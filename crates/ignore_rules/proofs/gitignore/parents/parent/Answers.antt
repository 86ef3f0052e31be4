use Rattle.std.proofs.Common.{◌≡◌, ◌≢◌, ◌-◌, ◌∷◌, ℕ, List, length, take, get_or, subst, sym, ap, arith}
use Rattle.std.specs.Str.{chars}
use Rattle.ignore_rules.specs.Parents.{parents}
use Rattle.ignore_rules.proofs.ParentLemmas.{parents-bytes, parents-bare}
use Rattle.ignore_rules.proofs.gitignore.parents.parent.Goals as goal

pub returns-in-Some-clause-next : goal.returns-in-Some-clause-next
returns-in-Some-clause-next c =
    let found = c.in-Some.ensures in
    let path = c.as_bytes.result.now in
    let slash = c.in-Some.slash in
    let P : List ℕ → Type 0 = λ xs. get_or xs 0 0 ≢ 47 in
    let first = subst P (sym c.as_bytes.ensures.value) c.requires.first in
    let from_zero : slash - 0 ≡ slash = omega arith in
    let Q : ℕ → Type 0 = λ n. parents (chars path) ≡ chars (take n path) ∷ parents (chars (take n path)) in
    let next = subst Q (sym from_zero) (parents-bytes path slash c.as_bytes.ensures.utf8 found.0.high found.1 found.0.after first) in
    rw (c.range.ensures.value, ← c.as_bytes.ensures.value) next

pub returns-in-None-clause-next : goal.returns-in-None-clause-next
returns-in-None-clause-next c =
    let path = c.as_bytes.result.now in
    rw (← c.as_bytes.ensures.value)
    (parents-bare path c.as_bytes.ensures.utf8 (omega (arith, ap length c.as_bytes.ensures.value, c.requires.some))
    (λ k l e. c.in-None.ensures k (omega arith) l e))
