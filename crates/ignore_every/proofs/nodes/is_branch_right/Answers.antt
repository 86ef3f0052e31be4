use Rattle.std.proofs.Common.{◌≡◌, ◌<◌, arith, subst, IfSome, Some, slice_get}
use Rattle.ignore_every.proofs.nodes.is_branch_right.Goals as goal

pub returns : goal.returns
returns c = λ yes rules letters below.
    let nodes = c.args.nodes.now in
    let branch = c.args.branch.now in
    let left = c.in-Some.left.now in
    let right = c.in-Some-node_at.right.now in
    let at_left : slice_get nodes branch.left ≡ Some left = subst (λ o. IfSome o (λ n. slice_get nodes branch.left ≡ Some n.now)) c.in-Some.is c.node_at.ensures in
    let at_right : slice_get nodes branch.right ≡ Some right = subst (λ o. IfSome o (λ n. slice_get nodes branch.right ≡ Some n.now)) c.in-Some-node_at.is c.node_at-2.ensures in
    let before_left : branch.left < c.args.number = omega arith in
    let before_right : branch.right < c.args.number = omega arith in
    c.is_pair_right.ensures yes rules letters (below branch.left left before_left at_left) (below branch.right right before_right at_right)
