use Rattle.std.proofs.Common.{◌≡◌, ◌+◌, length, arith, inl, inr}
use Rattle.std.proofs.lemmas.List.{length-map}
use Rattle.ignore_glob.specs.Flags.{IsFlagged}
use Rattle.ignore_glob.specs.NodeLists.{node_view, nodes_view}
use Rattle.ignore_glob.proofs.MarkSteps.{flags_of}
use Rattle.ignore_glob.proofs.glob.marks.first_marks.Goals as goal

pub returns : goal.returns
returns c =
    let long = length-map c.args.nodes.now node_view in
    let len : length c.close.new.flags.all.items ≡ length (nodes_view c.args.nodes.now) + 1 = omega
    (arith, long, c.close.ensures.len, c.set.ensures.len, c.in_ok-flags.ensures.len) in
    flags_of (nodes_view c.args.nodes.now) (IsFlagged c.set.new.self.all.items) (λ q. q ≡ 0) c.close.new.flags.all.items len
    (λ q. (
      λ f. elim ((c.set.ensures.flagged q).0 f) [ inl g ↦ absurd (c.in_ok-flags.ensures.clear q g) | inr e ↦ e ],
      λ e. (c.set.ensures.flagged q).1 (inr e),
    ))
    c.close.ensures.flagged
