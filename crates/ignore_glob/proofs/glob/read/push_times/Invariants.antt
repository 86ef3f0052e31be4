use Rattle.std.proofs.Common.{◌≡◌}
use Rattle.ignore_glob.specs.Glob.{Tokens}
use Rattle.ignore_glob.specs.Row.{times}
use Rattle.ignore_glob.specs.LexemeViews.{simple_token_view}
use Rattle.ignore_glob.specs.ParserSteps.{put_tokens}
use Rattle.ignore_glob.proofs.glob.read.push_times.Given as goal

abbrev pub invariant-loop-i : goal.invariant-loop-i
invariant-loop-i l =
    (ts : Tokens) → put_tokens l.tokens.items ts ≡ put_tokens l.initial.tokens.items (times l._i (simple_token_view l.given) ts)
