-- The values are equal exactly where what is left of them is.
use Rattle.std.proofs.Common.{◌≡◌, ◌↔◌, drop}
use Rattle.std.specs.Slice.Iter.{iter_rest}
use Rattle.serde_json.specs.View.{items_view, members_view}
use Rattle.vectors.proofs.equal.+is_equal.Given as goal

abbrev pub invariant-has_equal_items-loop-item : goal.invariant-has_equal_items-loop-item
invariant-has_equal_items-loop-item l =
    (items_view l.one.items ≡ items_view l.other.items) ↔ (items_view (drop l.item-index l.item-items) ≡ items_view (iter_rest l.others))

abbrev pub invariant-has_equal_members-loop-name : goal.invariant-has_equal_members-loop-name
invariant-has_equal_members-loop-name l =
    (members_view l.one.entries ≡ members_view l.other.entries) ↔ (members_view l.name-iterator ≡ members_view l.others)
