use Rattle.std.proofs.Common.{inl, inr, ap}
use Rattle.ignore_glob.specs.Lexing.{char, escaped}
use Rattle.ignore_glob.specs.Row.{character, escape}
use Rattle.ignore_glob.specs.LexemeViews.{row_view}
use Rattle.ignore_glob.proofs.glob.meaning.at_character.Goals as goal

pub returns-then-c-eq47-clause-plain : goal.returns-then-c-eq47-clause-plain
returns-then-c-eq47-clause-plain c p = c.after_slash.ensures p (char c.args.c) (inl (ap (λ x. char x) c.if-c-eq47.true))

pub returns-then-c-eq47-clause-escaped : goal.returns-then-c-eq47-clause-escaped
returns-then-c-eq47-clause-escaped c p = c.after_slash.ensures p (escaped c.args.c) (inr (ap (λ x. escaped x) c.if-c-eq47.true))

pub returns-else-c-eq47-clause-plain : goal.returns-else-c-eq47-clause-plain
returns-else-c-eq47-clause-plain c p = character p c.args.c (row_view c.args.rest.now) c.if-c-eq47.false

pub returns-else-c-eq47-clause-escaped : goal.returns-else-c-eq47-clause-escaped
returns-else-c-eq47-clause-escaped c p = escape p c.args.c (row_view c.args.rest.now) c.if-c-eq47.false
