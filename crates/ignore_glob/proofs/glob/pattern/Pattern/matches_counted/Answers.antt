use Rattle.std.proofs.Common.{◌≡◌, ◌-◌, ◌^◌, ◌↔◌, ℕ, IsTrue, min, subst, arith}
use Rattle.std.specs.Str.{chars}
use Rattle.ignore_glob.specs.Positions.{CountsMarks}
use Rattle.ignore_glob.specs.Reading.{Reading, Matches}
use Rattle.ignore_glob.proofs.MarkBounds.{counts_some, counts_matched, counts_within}
use Rattle.ignore_glob.proofs.glob.pattern.Pattern.matches_counted.Goals as goal

pub returns-clause-value : goal.returns-clause-value
returns-clause-value c =
    let R : Reading → Type 0 = λ r. IsTrue c.in_ok-matches_counted.field-0.0 ↔ Matches r (chars c.args.text.now) in
    subst R c.self.view_is c.in_ok-matches_counted.ensures.value

pub returns-clause-counted : goal.returns-clause-counted
returns-clause-counted c =
    let R : Reading → Type 0 = λ r. (n : ℕ) × CountsMarks r.case_insensitive r.tokens (chars c.args.text.now) n
    × (c.in_ok-matches_counted.field-0.1 ≡ min n (2 ^ 64 - 1)) in
    subst R c.self.view_is c.in_ok-matches_counted.ensures.counted

pub returns-clause-least : goal.returns-clause-least
returns-clause-least c =
    let now = c.args.self.now in
    let found = returns-clause-counted c in
    let some = counts_some now.case_insensitive now.tokens (chars c.args.text.now) found.0 found.1 in
    omega (arith, some, found.2)

pub returns-clause-matched : goal.returns-clause-matched
returns-clause-matched c is =
    let now = c.args.self.now in
    let found = returns-clause-counted c in
    let each = counts_matched now.case_insensitive now.tokens (chars c.args.text.now) found.0 found.1 ((returns-clause-value c).0 is) in
    omega (arith, each, found.2)

pub returns-clause-most : goal.returns-clause-most
returns-clause-most c =
    let now = c.args.self.now in
    let found = returns-clause-counted c in
    let all = counts_within now.case_insensitive now.tokens (chars c.args.text.now) found.0 found.1 in
    omega (arith, all, found.2)
