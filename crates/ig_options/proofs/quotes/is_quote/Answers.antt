use Rattle.std.proofs.Common.{◌≡◌, ◌∙◌, [], ap, arith, length, sym}
use Rattle.ig_options.proofs.QuoteLemmas.{parts, quote_or_not}
use Rattle.ig_options.proofs.quotes.is_quote.Goals as goal

pub returns-in_default : goal.returns-in_default
returns-in_default c = λ e. let l : length c.args.text.now ≡ 1 = ap length e in omega (arith, c.in_default.ensures.cases)

pub returns-then-byte-ne34 : goal.returns-then-byte-ne34
returns-then-byte-ne34 c = λ e.
    c.if-byte-ne34.true (parts c.in-Some.byte.now 34 c.in-Some.rest.now [] (sym c.in-Some.ensures.cases.0 ∙ e)).0

pub returns : goal.returns
returns c =
    quote_or_not c.args.text.now c.in-Some.byte.now c.in-Some.rest.now c.is_empty.result c.in-Some.ensures.cases.0 c.if-byte-ne34.false
    c.is_empty.ensures
