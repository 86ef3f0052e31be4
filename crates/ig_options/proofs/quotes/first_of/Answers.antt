use Rattle.std.proofs.lemmas.List.{nil_from_length}
use Rattle.ig_options.proofs.QuoteLemmas.{first_or_none, first_plain, none_at_end, none_at_quote}
use Rattle.ig_options.proofs.quotes.first_of.Goals as goal

pub returns-in_err-byte : goal.returns-in_err-byte
returns-in_err-byte c =
    rw c.from_residual.ensures (none_at_end c.args.text.now (nil_from_length c.args.text.now c.in_err-byte.ensures.cases))

pub returns-then-byte-eq34 : goal.returns-then-byte-eq34
returns-then-byte-eq34 c =
    none_at_quote c.args.text.now c.in_ok-byte.byte.now c.in_ok-byte.rest.now c.in_ok-byte.ensures.cases.0 c.if-byte-eq34.true

pub returns-then-byte-eq92 : goal.returns-then-byte-eq92
returns-then-byte-eq92 c =
    first_or_none (λ r. r.now) c.args.text.now c.in_ok-byte.byte.now c.in_ok-byte.rest.now c.escaped_of.result
    c.in_ok-byte.ensures.cases.0 c.if-byte-eq92.true c.escaped_of.ensures

pub returns : goal.returns
returns c =
    first_plain c.args.text.now c.in_ok-byte.byte.now c.in_ok-byte.rest.now c.in_ok-byte.ensures.cases.0
    c.if-byte-eq34.false c.if-byte-eq92.false
