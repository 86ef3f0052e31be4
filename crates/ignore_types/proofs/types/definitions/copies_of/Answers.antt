-- One more copy.
use Rattle.std.proofs.Common.{sym, subst, take, ◌+◌}
use Rattle.std.specs.List.{AllZip}
use Rattle.std.proofs.lemmas.List.Elements.{all_zip_more}
use Rattle.ignore_types.specs.Types.{IsSortedCopy}
use Rattle.ignore_types.proofs.types.definitions.copies_of.Goals as goal

pub loop-definition-preserved : goal.loop-definition-preserved
loop-definition-preserved c =
    let copied : IsSortedCopy c.definition-item.result c.sort_globs.new.self = subst
    (λ d. IsSortedCopy d c.sort_globs.new.self) c.in_ok-copy.ensures.cases c.sort_globs.ensures in
    subst (λ l. AllZip IsSortedCopy (take (c.loop-definition.definition-index + 1) c.args.types.now) l) (sym c.in_ok-push.ensures.items)
    (all_zip_more IsSortedCopy c.args.types.now c.loop-definition.copies.items c.loop-definition.definition-index c.definition-item.result
    c.sort_globs.new.self c.loop-definition-test.true c.definition-item.is c.loop-definition.invariant copied)
