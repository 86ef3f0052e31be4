use Rattle.std.proofs.Common.{drop, string_bytes}
use Rattle.ignore_glob.specs.View.{tokens_view}
use Rattle.ignore_glob.proofs.NeedleLemmas.{Begins}
use Rattle.ignore_glob.proofs.glob.needle.spelled.Given as goal

abbrev pub invariant-loop-token : goal.invariant-loop-token
invariant-loop-token l = Begins (tokens_view l.tokens) (tokens_view (drop l.token-index l.tokens)) l.run (string_bytes l.text)
