use Rattle.std.proofs.Common.{arith, ap}
use Rattle.std.specs.Str.{chars}
use Rattle.ignore_glob.specs.Positions.{positions}
use Rattle.ignore_glob.specs.Reading.{Reading}
use Rattle.ignore_glob.specs.View.{tokens_view}
use Rattle.ignore_glob.proofs.GlobWidth.{reads_bound}
use Rattle.ignore_glob.proofs.glob.pattern.Pattern.parse.Goals as goal

pub returns-clause-bounded : goal.returns-clause-bounded
returns-clause-bounded c =
    let bound = reads_bound c.args.options (chars c.args.glob.now) (tokens_view c.in_ok-tokens.tokens.items) c.in_ok-tokens.ensures.value in
    let same = ap (λ (r : Reading). positions r.tokens) c.in_ok-from_tokens.ensures in
    omega (arith, bound, same)
