-- All fields are wanted exactly where those that are left are.
use Rattle.std.proofs.Common.{◌↔◌, IsSome}
use Rattle.serde_json.specs.Find.{get_member}
use Rattle.serde_json.specs.View.{members_view}
use Rattle.vectors.specs.Agrees.{EachMember}
use Rattle.vectors.proofs.agree.has_no_other.Given as goal

abbrev pub invariant-loop-name : goal.invariant-loop-name
invariant-loop-name l =
    EachMember (λ name _. IsSome (get_member name (members_view l.wanted.entries))) (members_view l.fields.entries)
    ↔ EachMember (λ name _. IsSome (get_member name (members_view l.wanted.entries))) (members_view l.name-iterator)
