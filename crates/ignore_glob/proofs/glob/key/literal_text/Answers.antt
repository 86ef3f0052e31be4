use Rattle.std.proofs.Common.{sym, ◌∙◌}
use Rattle.ignore_glob.proofs.KeyLemmas.{one_literal, no_literal, all_literals}
use Rattle.ignore_glob.proofs.glob.key.literal_text.Goals as goal

pub returns-in-None : goal.returns-in-None
returns-in-None c =
    no_literal c.args.tokens.now c.loop-token.token-index c.token-item.result _ c.loop-token-test.true c.token-item.is
    (sym c.in-None.is ∙ c.literal_of.ensures) c.loop-token.invariant

pub loop-token-preserved : goal.loop-token-preserved
loop-token-preserved c =
    one_literal c.args.tokens.now c.loop-token.token-index c.token-item.result c.in-Some.c _ _ c.loop-token-test.true c.token-item.is
    (sym c.in-Some.is ∙ c.literal_of.ensures) c.in_ok-push-in-Some.ensures.bytes c.loop-token.invariant

pub returns : goal.returns
returns c = all_literals c.args.tokens.now c.loop-token.token-index _ c.loop-token-test.false c.loop-token.invariant
