use Rattle.std.proofs.Common.{refl, sym, ap, ◌∙◌}
use Rattle.ignore_rules.specs.Rules.{Building}
use Rattle.ignore_rules.specs.RuleFile.{with_rules}
use Rattle.ignore_rules.proofs.FileResult.{one_result}
use Rattle.ignore_rules.proofs.gitignore.laws.a_file_adds_one_thing.Goals as goal

pub returns-clause-some : goal.returns-clause-some
returns-clause-some c path read old =
    let given = one_result path read old.options in
    let new = with_rules old given.0 in
    (new, given.1, (given.2 old new given.1 refl).1 (refl, refl))

pub returns-clause-one : goal.returns-clause-one
returns-clause-one c path read old new other problem reported h k =
    let given = one_result path read old.options in
    let one = (given.2 old new problem refl).0 h in
    let two = (given.2 old other reported refl).0 k in
    (one.0 ∙ sym two.0, one.1 ∙ sym two.1)

pub returns-clause-kept : goal.returns-clause-kept
returns-clause-kept c path read old new problem h =
    let given = one_result path read old.options in
    let same = (given.2 old new problem refl).0 h in
    (ap (λ (b : Building). b.root) same.0, ap (λ (b : Building). b.options) same.0)
