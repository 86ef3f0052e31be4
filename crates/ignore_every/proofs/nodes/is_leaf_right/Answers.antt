use Rattle.std.proofs.Common.{◌≡◌, ◌+◌, arith, subst, IfSome}
use Rattle.ignore_every.specs.Rows.{table_of}
use Rattle.ignore_every.specs.Sets.{set_of}
use Rattle.ignore_every.specs.Trees.{IsRuleAt}
use Rattle.ignore_every.specs.declared.leaf.LeafRule.{LeafRule}
use Rattle.ignore_every.proofs.Pairs.{rule_right}
use Rattle.ignore_every.proofs.nodes.is_leaf_right.Goals as goal

pub returns : goal.returns
returns c = λ right.
    let rules = c.args.rules.now in
    let leaf = c.args.leaf.now in
    let rule = c.in-Some.rule in
    let at : IsRuleAt rules c.args.low rule = subst (λ o. IfSome o (λ (r : LeafRule). IsRuleAt rules c.args.low r)) c.in-Some.is c.in_ok-found.ensures in
    let ends : c.args.high ≡ c.args.low + 1 = omega arith in
    rule_right rules c.args.letters.now c.args.low c.args.high at.0 at.1 ends rule.index rule.is_only_dir rule.automaton at.2 at.3 at.4
    (set_of leaf.sets.items) (table_of leaf.rows.items) (c.in_ok-is_right.ensures right)
