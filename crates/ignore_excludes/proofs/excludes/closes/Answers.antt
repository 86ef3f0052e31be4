-- White space alone ends the line, or white space around one `"`.
use Rattle.std.proofs.Common.{◌≡◌, ◌∷◌, length, subst, ◌∙◌, ap, arith, inl, inr}
use Rattle.std.proofs.lemmas.Bool.{iff_false, eqb-true}
use Rattle.ignore_excludes.specs.Excludes.{trimmed_start, EndsLine}
use Rattle.ignore_excludes.proofs.ExcludesValues.{Closes-cases, Closes-quote}
use Rattle.ignore_excludes.proofs.excludes.closes.Goals as goal

pub returns-in-None : goal.returns-in-None
returns-in-None c =
    let text = c.args.text.now in
    let never = iff_false c.ends_line.ensures c.if-ends_line.false in (
      λ no. cc,
      λ h. elim (Closes-cases text h) [
        | inl k ↦ absurd (never k)
        | inr k ↦ absurd (let len = ap length (c.trim.ensures ∙ k.1) in let none = c.in-None.ensures.cases in omega arith)
      ],
    )

pub returns-then-quote-eq34 : goal.returns-then-quote-eq34
returns-then-quote-eq34 c =
    let text = c.args.text.now in
    let never = iff_false c.ends_line.ensures c.if-ends_line.false in
    let first : trimmed_start text ≡ 34 ∷ c.in-Some.rest.now = cc (c.trim.ensures, c.in-Some.ensures.cases.0, c.if-quote-eq34.true) in (
      λ yes. Closes-quote text c.in-Some.rest.now first (c.ends_line-then-quote-eq34.ensures.0 yes),
      λ h. elim (Closes-cases text h) [
        | inl k ↦ absurd (never k)
        | inr k ↦ c.ends_line-then-quote-eq34.ensures.1 (let same : k.0 ≡ c.in-Some.rest.now = (let d = k.1 in cc) in
            subst EndsLine same k.2)
      ],
    )

pub returns-else-quote-eq34 : goal.returns-else-quote-eq34
returns-else-quote-eq34 c =
    let text = c.args.text.now in
    let never = iff_false c.ends_line.ensures c.if-ends_line.false in
    let first : trimmed_start text ≡ c.in-Some.quote.now ∷ c.in-Some.rest.now = cc (c.trim.ensures, c.in-Some.ensures.cases.0) in (
      λ yes. absurd (c.if-quote-eq34.false (eqb-true c.in-Some.quote.now 34 yes)),
      λ h. elim (Closes-cases text h) [
        | inl k ↦ absurd (never k)
        | inr k ↦ absurd (c.if-quote-eq34.false (let d = k.1 in cc))
      ],
    )
