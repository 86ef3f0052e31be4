-- A tree in memory is one of the trees that the matchers are made in.
use Rattle.ignore_files.specs.Answers.{tree_of}
use Rattle.ignore_kept.proofs.asker.matchers_of.Goals as goal

pub returns-clause-made : goal.returns-clause-made
returns-clause-made g c = c.build_matchers.ensures.read (tree_of c.args.tree.now) c.is_honest.ensures
