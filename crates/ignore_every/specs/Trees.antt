-- Tables of more and more rules: one of each rule, and pairs of tables, up to one of all rules.
use Rattle.std.specs.Prelude.{◌≡◌, ◌<◌, ℕ, List, Some, slice_get}
use Rattle.ignore_rules.specs.Rules.{Rule}
use Rattle.ignore_every.specs.declared.row.Row.{Row}
use Rattle.ignore_every.specs.declared.leaf.LeafRule.{LeafRule}
use Rattle.ignore_every.specs.declared.node.Made.{Made}
use Rattle.ignore_every.specs.declared.node.Made.TheVariants.{OfNone, OfRule, OfTwo}
use Rattle.ignore_every.specs.declared.node.Node.{Node}
use Rattle.ignore_every.specs.Machines.{IsRightTable}
use Rattle.ignore_every.specs.Rows.{table_of}

-- the states of the table
abbrev pub made_rows : Made → List Row
made_rows (OfNone rows) = rows.items
made_rows (OfRule leaf) = leaf.rows.items
made_rows (OfTwo branch) = branch.pair.rows.items

-- this is the rule with this index, for its table
abbrev pub IsRuleAt : List Rule → ℕ → LeafRule → Type 0
IsRuleAt rules index leaf =
    (rule : Rule) × (slice_get rules index ≡ Some rule) × (leaf.index ≡ index) × (leaf.is_only_dir ≡ rule.is_only_dir)
    × (leaf.automaton ≡ rule.reading)

-- the table is right for its rules
abbrev pub IsRightNode : List Rule → List ℕ → Node → Type 0
IsRightNode rules letters node = IsRightTable rules letters node.low node.high (table_of (made_rows node.made))

-- the tables before this number are right
abbrev pub AreRightBelow : List Rule → List ℕ → List Node → ℕ → Type 0
AreRightBelow rules letters nodes n = (j : ℕ) (node : Node) → j < n → slice_get nodes j ≡ Some node → IsRightNode rules letters node
