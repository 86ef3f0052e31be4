use Rattle.std.proofs.Common.{◌≡◌, true, ap, sym, subst, ◌∙◌}
use Rattle.std.specs.Arc.{arc_slice_items}
use Rattle.ignore_glob.specs.NodeLists.{node_view}
use Rattle.ignore_glob.specs.PositionSets.{StepAlike, are_even}
use Rattle.ignore_glob.specs.declared.glob.node.Node.{Node as CodeNode}
use Rattle.ignore_glob.proofs.SetSteps.{even_class}
use Rattle.ignore_glob.proofs.glob.sets.node_steps_evenly.Goals as goal

pub returns-in-Class : goal.returns-in-Class
returns-in-Class c = λ t d low high.
    let class' = c.in-Class.class in
    let from = c.args.from in
    let P : CodeNode → Type 0 = λ node. StepAlike c.args.fold (node_view node) from d in
    let even : are_even from c.args.to (arc_slice_items class'.ranges) ≡ true =
    ap (λ rs. are_even from c.args.to rs) (sym c.deref.ensures.value) ∙ (sym c.are_even.ensures ∙ t) in
    subst P (sym c.in-Class.is)
    (even_class c.args.fold class'.negated from c.args.to d c.in-Class.field-1 (arc_slice_items class'.ranges) c.requires even low high)
