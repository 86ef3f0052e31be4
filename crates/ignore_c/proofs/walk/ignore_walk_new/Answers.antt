-- The list is made of what the two handles keep, which were lent and given back.
use Rattle.std.proofs.Common.{◌≡◌, arith, rules}
use Rattle.std.proofs.lemmas.Grind.{common_steps}
use Rattle.ignore_c.proofs.Making.{walk_made, walk_unmade}
use Rattle.ignore_c.proofs.walk.ignore_walk_new.Goals as goal

pub returns-in-Ok-clause-built : goal.returns-in-Ok-clause-built
returns-in-Ok-clause-built c =
    let s : c.replace_with-setup.result ≡ c.args.builder.now.value = first_of (search rules, grind (arith, common_steps)) in
    let t : c.replace_with-files.result ≡ c.args.tree.now.value = first_of (search rules, grind (arith, common_steps)) in
    walk_made c.args.builder.now.value c.args.tree.now.value c.replace_with-setup.result c.replace_with-files.result c.in-Ok.kept.value s t
    c.in-Ok.ensures.built

pub returns-in-Err-clause-built : goal.returns-in-Err-clause-built
returns-in-Err-clause-built c =
    let s : c.replace_with-setup.result ≡ c.args.builder.now.value = first_of (search rules, grind (arith, common_steps)) in
    let t : c.replace_with-files.result ≡ c.args.tree.now.value = first_of (search rules, grind (arith, common_steps)) in
    walk_unmade c.args.builder.now.value c.args.tree.now.value c.replace_with-setup.result c.replace_with-files.result c.in-Err.stopped
    c.code.result s t c.in-Err.ensures.refused c.code.ensures
