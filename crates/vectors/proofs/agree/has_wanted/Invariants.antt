-- All wanted fields stand in the answer exactly where those that are left do.
use Rattle.std.proofs.Common.{◌↔◌, map}
use Rattle.serde_json.specs.View.{members_view}
use Rattle.vectors.specs.Agrees.{EachMember, Stands}
use Rattle.vectors.proofs.agree.has_wanted.Given as goal

abbrev pub invariant-loop-name : goal.invariant-loop-name
invariant-loop-name l =
    EachMember (Stands (members_view l.fields.entries) (map (λ w. w.now) l.waiting)) (members_view l.wanted.entries)
    ↔ EachMember (Stands (members_view l.fields.entries) (map (λ w. w.now) l.waiting)) (members_view l.name-iterator)
