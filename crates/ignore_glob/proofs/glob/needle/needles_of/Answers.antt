use Rattle.std.proofs.Common.{map, string_bytes}
use Rattle.std.proofs.lemmas.Result.{IfOk-weaker}
use Rattle.ignore_glob.proofs.NeedleLemmas.{leaves_more, leaves_all}
use Rattle.ignore_glob.proofs.glob.needle.needles_of.Goals as goal

pub loop-token-preserved : goal.loop-token-preserved
loop-token-preserved c =
    let old = c.loop-token.known in
    let new = c.in_ok-known-2.known in
    leaves_more c.args.tokens.now c.loop-token.token-index c.token-item.result (string_bytes old.run) (string_bytes new.run)
    (map string_bytes old.needles.items) (map string_bytes new.needles.items)
    c.loop-token-test.true c.token-item.is c.in_ok-known-2.ensures c.loop-token.invariant

pub returns : goal.returns
returns c =
    let known = c.loop-token.known in
    IfOk-weaker c.needles.result _ _ (λ needles choice. leaves_all c.args.tokens.now c.loop-token.token-index
    (string_bytes known.run) (map string_bytes known.needles.items)
    (map string_bytes needles.items) c.loop-token-test.false choice c.loop-token.invariant) c.needles.ensures
