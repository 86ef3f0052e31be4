use Rattle.std.proofs.Common.{drop, map, string_bytes}
use Rattle.ignore_glob.specs.View.{tokens_view}
use Rattle.ignore_glob.proofs.NeedleLemmas.{Leaves}
use Rattle.ignore_glob.proofs.glob.needle.needles_of.Given as goal

abbrev pub invariant-loop-token : goal.invariant-loop-token
invariant-loop-token l = Leaves (tokens_view l.tokens) (tokens_view (drop l.token-index l.tokens))
    (string_bytes l.known.run) (map string_bytes l.known.needles.items)
