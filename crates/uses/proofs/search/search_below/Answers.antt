use Rattle.std.proofs.Common.{Some}
use Rattle.uses.proofs.search.search_below.Goals as goal

pub returns-clause-whole : goal.returns-clause-whole
returns-clause-whole g c =
    c.search.ensures.whole (record { builder = Some c.args.builder }) c.args.env.now c.args.builder.now.options _ c.in_ok-build.ensures.starts
    c.in_ok-build.ensures.limit
