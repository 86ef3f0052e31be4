use Rattle.std.proofs.Common.{All, arith, subst, sym}
use Rattle.std.proofs.lemmas.Grind.{common_steps}
use Rattle.std.proofs.lemmas.List.Elements.{All-push}
use Rattle.ignore_query.specs.Fresh.{KeepsNothing}
use Rattle.ignore_query.specs.declared.incremental.IncrementalIgnore.{IncrementalIgnore}
use Rattle.ignore.proofs.options.WalkOptions.matchers_by.Goals as goal

pub loop-root-preserved : goal.loop-root-preserved
loop-root-preserved c =
    record {
      value = grind (arith, common_steps, c.loop-root.invariant.value);
      empty = let P = λ (m : IncrementalIgnore). KeepsNothing m.cache in
          subst (All P) (sym c.in_ok-push.ensures.items)
          (All-push P c.loop-root.matchers.items c.in_ok-matcher.field-0 c.loop-root.invariant.empty c.in_ok-matcher.ensures.empty);
    }
