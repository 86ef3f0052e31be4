use Rattle.std.proofs.Common.{◌≡◌, ◌∙◌, Bool, false, List, [], Result, Ok, subst, sym, if◌then◌else◌}
use Rattle.ignore_base.specs.declared.fault.Fault.{Fault}
use Rattle.ignore_files.specs.Tree.{Answers}
use Rattle.ignore_files.specs.declared.types.Listed.{Listed}
use Rattle.ig_commands.specs.Worktree.{is_closed, met_of}
use Rattle.ig_commands.proofs.worktree.WorktreeFiles.list.Goals as goal

-- at a path that isn't closed
pub returns : goal.returns
returns g c = λ tree honest.
    let path = c.args.path.now in
    let open_there : is_closed c.args.self.now.roots.items tree path ≡ false =
    sym (c.in_ok-is_closed.ensures.closed tree honest) ∙ c.if-branch.false in
    subst (λ (b : Bool). let listed : Result (List Listed) Fault = if b then Ok [] else met_of (tree.list path) in Answers listed c.met_in.result)
    (sym open_there) (c.met_in.ensures (tree.list path) (honest.list path c.list.result c.list.ensures))
