use Rattle.std.proofs.Common.{Some}
use Rattle.ignore.proofs.HeadlineLemmas.{limited_by, on_each_ok}
use Rattle.ignore.proofs.collect.collect_walk.Goals as goal

pub returns-clause-only : goal.returns-clause-only
returns-clause-only g c =
    c.all_items.ensures.only c.args.files.now (record { builder = Some c.args.builder }) c.args.env.now c.args.builder.now.options _ c.in_ok-build.ensures.whole
    c.in_ok-build.ensures.limit

pub returns-clause-headline : goal.returns-clause-headline
returns-clause-headline g c =
    c.all_items.ensures.headline c.args.files.now (record { builder = Some c.args.builder }) c.args.env.now c.args.builder.now.options _ c.in_ok-build.ensures.starts
    c.in_ok-build.ensures.limit

pub returns-clause-outside : goal.returns-clause-outside
returns-clause-outside g c =
    on_each_ok c.all_items.result (λ tree honest. let o = c.in_ok-build.ensures.starts tree honest in (o.0, o.1))

pub returns-clause-ended : goal.returns-clause-ended
returns-clause-ended g c =
    c.all_items.ensures.ended c.args.files.now (record { builder = Some c.args.builder }) c.args.env.now c.args.builder.now.options _ c.in_ok-build.ensures.whole
    c.in_ok-build.ensures.limit c.in_ok-build.ensures.goes_on

pub returns-clause-no_end : goal.returns-clause-no_end
returns-clause-no_end g c = c.all_items.ensures.no_end c.in_ok-build.ensures.no_end

pub returns-clause-below : goal.returns-clause-below
returns-clause-below g c = c.all_items.ensures.below c.args.builder.now.options.roots c.in_ok-build.ensures.goes_by.below

pub returns-clause-limited : goal.returns-clause-limited
returns-clause-limited g c =
    limited_by g.F.Files c.args.files.now _ _ _ _ _ c.all_items.result c.in_ok-build.ensures.files c.in_ok-build.ensures.limit
    c.in_ok-build.ensures.begins (c.all_items.ensures.limited c.in_ok-build.ensures.goes_on)
