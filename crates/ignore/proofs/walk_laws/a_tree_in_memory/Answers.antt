use Rattle.std.proofs.Common.{Some}
use Rattle.ignore_files.specs.Answers.{tree_of}
use Rattle.ignore.proofs.walk_laws.a_tree_in_memory.Goals as goal

pub returns-clause-plain : goal.returns-clause-plain
returns-clause-plain g c = λ o all outside plain none headline.
    let t = tree_of c.args.tree.now in
    let s = c.a_scene_without_closures.ensures t o plain none in
    c.the_one_list.ensures c.args.tree.now (record { builder = Some c.args.builder }) c.args.env.now c.args.builder.now.options _ t o s.0 all
    c.is_honest.ensures outside s.1 headline

pub returns-clause-closures : goal.returns-clause-closures
returns-clause-closures g c = λ o s all outside scene headline.
    c.the_one_list.ensures c.args.tree.now (record { builder = Some c.args.builder }) c.args.env.now c.args.builder.now.options _
    (tree_of c.args.tree.now) o s all c.is_honest.ensures outside scene headline
