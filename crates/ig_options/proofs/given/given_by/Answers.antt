use Rattle.std.proofs.Common.{◌≡◌, ◌∙◌, Bool, true, false, List, ℕ, ap, inl, inr, refl, subst, sym}
use Rattle.ig_options.specs.Given.{Gives, is_opened}
use Rattle.ig_options.specs.Quotes.{IsQuoteOf}
use Rattle.ig_options.specs.declared.given.Given.TheVariants.{BadlyQuoted}
use Rattle.ig_options.proofs.given.given_by.Goals as goal

pub returns-then-not-is_opened : goal.returns-then-not-is_opened
returns-then-not-is_opened c =
    let items = c.args.text.items in
    let e : is_opened c.args.has_nul items ≡ false = ap (is_opened c.args.has_nul) (sym c.as_slice.ensures.value)
    ∙ (sym c.is_opened.ensures ∙ c.if-not-is_opened.true) in
    record { given = subst (λ (b : Bool). Gives b items c.args.number c.text_of.result) (sym e) c.text_of.ensures }

pub returns-in_default : goal.returns-in_default
returns-in_default c =
    let items = c.args.text.items in
    let e : is_opened c.args.has_nul items ≡ true = ap (is_opened c.args.has_nul) (sym c.as_slice.ensures.value)
    ∙ (sym c.is_opened.ensures ∙ c.if-not-is_opened.false) in
    let none = rw c.in_default.is at c.in_ok-found.ensures in
    let never = subst (λ (t : List ℕ). (bytes : List ℕ) → ¬ IsQuoteOf t bytes) c.as_slice-quoted.ensures.value none in
    record { given = subst (λ (b : Bool). Gives b items c.args.number (BadlyQuoted c.args.number)) (sym e) (inr (never, refl)) }

pub returns : goal.returns
returns c =
    let items = c.args.text.items in
    let e : is_opened c.args.has_nul items ≡ true = ap (is_opened c.args.has_nul) (sym c.as_slice.ensures.value)
    ∙ (sym c.is_opened.ensures ∙ c.if-not-is_opened.false) in
    let some = rw c.in-Some.is at c.in_ok-found.ensures in
    let quote = subst (λ (t : List ℕ). IsQuoteOf t c.in-Some.bytes.items) c.as_slice-quoted.ensures.value some in
    record {
      given = subst (λ (b : Bool). Gives b items c.args.number c.text_of-given.result) (sym e)
          (inl (c.in-Some.bytes.items, quote, c.text_of-given.ensures));
    }
