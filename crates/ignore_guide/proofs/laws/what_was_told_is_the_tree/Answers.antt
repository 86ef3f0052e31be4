use Rattle.std.proofs.Common.{refl}
use Rattle.ignore_guide.proofs.ToldLemmas.{answers-from, loads-are, nothing-told, stat-told}
use Rattle.ignore_guide.specs.Answers.{answer_at}
use Rattle.ignore_guide.proofs.laws.what_was_told_is_the_tree.Goals as goal

pub returns-clause-honest : goal.returns-clause-honest
returns-clause-honest c = λ tree are.
    let told = c.args.told.now in
    record {
      stat = λ path follow r h. stat-told tree told are path follow r h;
      list = λ path r h. nothing-told _ r h;
      contents = λ path r h. answers-from (answer_at told.reads.list.items path) (tree.contents path) r (are.reads path) h;
      canonical = λ path r h. answers-from (answer_at told.paths.list.items path) (tree.canonical path) r (are.paths path) h;
      identity = λ path follow r h. nothing-told _ r h;
    }

pub returns-clause-loads : goal.returns-clause-loads
returns-clause-loads c = λ tree s loads are. loads-are tree s loads are

pub returns-clause-way : goal.returns-clause-way
returns-clause-way c = λ tree loads s o root front. refl
