use Rattle.std.proofs.Common.{◌∙◌, rules, tests}
use Rattle.std.proofs.lemmas.Iterator.{YieldsList-from_slice}
use Rattle.std.proofs.lemmas.Iterator.Consumers.{count_from_yields_List, YieldsList-from_filter, YieldsList-at}
use Rattle.std.proofs.lemmas.List.Sums.{length-filter}
use Rattle.ignore_rules.specs.Rules.{Rule}
use Rattle.ignore_rules.proofs.gitignore.kept.whitelist_count.Goals as goal

pub returns : goal.returns
returns c =
    let globs = c.args.globs.now in
    count_from_yields_List c.filter.result c.count.result c.count.ensures.ran
    (YieldsList-from_filter _ (λ (rule : Rule). rule.is_whitelist)
    (YieldsList-at c.filter.ensures.source (YieldsList-from_slice globs c.iter.ensures.rest)) c.filter.ensures.closure
    (λ x r q k. search (rules, tests)))
    ∙ length-filter (λ (rule : Rule). rule.is_whitelist) globs
