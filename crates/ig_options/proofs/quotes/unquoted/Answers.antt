use Rattle.std.proofs.lemmas.List.{nil_from_length}
use Rattle.std.proofs.lemmas.Result.{IfOk-weaker}
use Rattle.ig_options.proofs.QuoteLemmas.{no_quotes_of_none, no_quotes_of_other, quotes_by}
use Rattle.ig_options.proofs.quotes.unquoted.Goals as goal

pub returns-in_default : goal.returns-in_default
returns-in_default c = no_quotes_of_none c.args.text.now (nil_from_length c.args.text.now c.in_default.ensures.cases)

pub returns-then-first-ne34 : goal.returns-then-first-ne34
returns-then-first-ne34 c =
    no_quotes_of_other c.args.text.now c.in-Some.first.now c.in-Some.rest.now c.in-Some.ensures.cases.0 c.if-first-ne34.true

pub returns : goal.returns
returns c = IfOk-weaker c.closed.result _ _ (λ r h. quotes_by c.args.text.now c.in-Some.first.now c.in-Some.rest.now (λ v. v.items) r
    c.in-Some.ensures.cases.0 c.if-first-ne34.false h) c.closed.ensures
