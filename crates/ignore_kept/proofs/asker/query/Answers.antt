-- A tree in memory is one of the trees that the answer holds in.
use Rattle.ignore_files.specs.Answers.{tree_of}
use Rattle.ignore_kept.proofs.Asking.{right}
use Rattle.ignore_kept.proofs.asker.query.Goals as goal

pub returns-clause-value : goal.returns-clause-value
returns-clause-value c =
    λ loads are agree. c.in_ok-found.ensures.value (tree_of c.args.tree.now) loads c.is_honest.ensures are (right c.what_is_kept_stays_right.ensures c.args.matcher.now c.args.tree.now loads agree)

pub returns-clause-agrees : goal.returns-clause-agrees
returns-clause-agrees c =
    λ loads are agree. c.in_ok-found.ensures.leaves.agrees (tree_of c.args.tree.now) loads c.is_honest.ensures are (right c.what_is_kept_stays_right.ensures c.args.matcher.now c.args.tree.now loads agree)

pub returns-in_err-found-clause-agrees : goal.returns-in_err-found-clause-agrees
returns-in_err-found-clause-agrees c =
    λ loads are agree. c.in_err-found.ensures.leaves.agrees (tree_of c.args.tree.now) loads c.is_honest.ensures are (right c.what_is_kept_stays_right.ensures c.args.matcher.now c.args.tree.now loads agree)
