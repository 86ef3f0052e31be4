-- The guide is made of what the builder's handle keeps, which was lent and given back.
use Rattle.std.proofs.Common.{◌≡◌, arith, rules}
use Rattle.std.proofs.lemmas.Grind.{common_steps}
use Rattle.ignore_c.proofs.Making.{guide_made, guide_unmade}
use Rattle.ignore_c.proofs.guide.ignore_guide_new.Goals as goal

pub returns-in-Ok-clause-started : goal.returns-in-Ok-clause-started
returns-in-Ok-clause-started c =
    let s : c.replace_with-setup.result ≡ c.args.builder.now.value = first_of (search rules, grind (arith, common_steps)) in
    guide_made c.args.builder.now.value c.replace_with-setup.result c.in-Ok.kept.value s c.in-Ok.ensures.started

pub returns-in-Err-clause-started : goal.returns-in-Err-clause-started
returns-in-Err-clause-started c =
    let s : c.replace_with-setup.result ≡ c.args.builder.now.value = first_of (search rules, grind (arith, common_steps)) in
    guide_unmade c.args.builder.now.value c.replace_with-setup.result c.in-Err.stopped c.code.result s c.in-Err.ensures.refused c.code.ensures
