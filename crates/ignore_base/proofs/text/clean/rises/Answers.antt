use Rattle.std.proofs.Common.{◌∙◌, rules, tests, lit<}
use Rattle.std.proofs.lemmas.Iterator.Consumers.{YieldsList-at}
use Rattle.std.proofs.lemmas.Iterator.Adapters.{YieldsList-from_skip_while}
use Rattle.std.proofs.lemmas.Iterator.Search.{all_from_yields_List}
use Rattle.std.proofs.lemmas.Iterator.Splits.{YieldsList-from_str_split}
use Rattle.ignore_base.specs.Paths.{is_proper, components}
use Rattle.ignore_base.specs.RootSteps.{is_up}
use Rattle.ignore_base.proofs.CleanRootLemmas.{rises-skips}
use Rattle.ignore_base.proofs.text.clean.rises.Goals as goal

pub returns : goal.returns
returns c =
    let text = c.args.text.now in
    let cut = YieldsList-from_str_split 47 text (lit< tt) c.split.ensures.text c.split.ensures.has_more c.split.ensures.pattern in
    all_from_yields_List is_proper _ _ c.all.result c.all.ensures.ran
    (YieldsList-from_skip_while _ _ _ is_up _ (λ x b q k. search (rules, tests))
    (YieldsList-at c.skip_while.ensures.source cut) c.skip_while.ensures.closure c.skip_while.ensures.done_skipping) (λ x b q k. search
    (rules, tests))
    ∙ rises-skips (components text)
