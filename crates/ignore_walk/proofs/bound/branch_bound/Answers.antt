use Rattle.std.proofs.Common.{[], sym, subst}
use Rattle.ignore_files.specs.Answers.{tree_of}
use Rattle.ignore_files.specs.Dirs.{IsNumbered}
use Rattle.ignore_walk.proofs.SomeList.{at_most, some_roots}
use Rattle.ignore_walk.proofs.bound.branch_bound.Goals as goal

pub returns-clause-most : goal.returns-clause-most
returns-clause-most c g root b e is reaches leads =
    let dirs = subst (IsNumbered (tree_of c.args.tree.now)) (sym c.dir_count-n.ensures) c.is_numbered.ensures in
    at_most g c.dir_count-n.result (subst (λ tree. IsNumbered tree c.dir_count-n.result) (sym is) dirs) root b e reaches leads

pub returns-clause-whole : goal.returns-clause-whole
returns-clause-whole c g roots is o =
    let dirs = subst (IsNumbered (tree_of c.args.tree.now)) (sym c.dir_count-n.ensures) c.is_numbered.ensures in
    some_roots g c.dir_count-n.result (subst (λ tree. IsNumbered tree c.dir_count-n.result) (sym is) dirs) o [] roots
