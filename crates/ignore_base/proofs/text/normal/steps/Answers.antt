use Rattle.std.proofs.Common.{◌∙◌, ap, map, lit<}
use Rattle.std.proofs.lemmas.Iterator.Consumers.{YieldsList-at, YieldsList-end}
use Rattle.std.proofs.lemmas.Iterator.Splits.{YieldsList-from_str_split}
use Rattle.ignore_base.specs.Normalize.{steps}
use Rattle.ignore_base.proofs.NormalLemmas.{steps-last}
use Rattle.ignore_base.proofs.text.normal.steps.Goals as goal

pub loop-component-preserved : goal.loop-component-preserved
loop-component-preserved c =
    let more = steps-last (map (λ n. n.now) c.args.names.now.items) c.loop-component.yielded c.in-Some.component in
    cc (more, c.in_ok-step.ensures, c.loop-component.invariant)

pub returns : goal.returns
returns c =
    let cut = YieldsList-from_str_split 47 c.args.path.now (lit< tt) c.split-component-items.ensures.text
    c.split-component-items.ensures.has_more c.split-component-items.ensures.pattern in
    let all = YieldsList-end (YieldsList-at c.into_iter-component-iterator.ensures.into_iter_gives cut) c.loop-component.yielded _
    c.loop-component.yielded_by _ _ c.in-None.is c.next.ensures.steps in
    c.loop-component.invariant ∙ ap (steps (map (λ n. n.now) c.args.names.now.items)) all.0
