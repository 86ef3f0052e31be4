use Rattle.std.proofs.Common.{sym, ap, subst, ◌∙◌}
use Rattle.ignore_every.specs.Machines.{IsRightTable}
use Rattle.ignore_every.specs.Rows.{table_of}
use Rattle.ignore_every.specs.Trees.{made_rows}
use Rattle.ignore_every.proofs.nodes.is_node_right.Goals as goal

pub returns-in-OfNone : goal.returns-in-OfNone
returns-in-OfNone c = λ yes below.
    let rules = c.args.rules.now in
    let letters = c.args.letters.now in
    let node = c.args.node.now in
    subst (λ rows. IsRightTable rules letters node.low node.high (table_of rows)) (c.deref.ensures.value ∙ sym (ap made_rows c.in-OfNone.is))
    (c.is_none_right.ensures yes rules letters)
