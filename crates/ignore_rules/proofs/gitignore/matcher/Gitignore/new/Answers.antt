use Rattle.std.proofs.Common.{option_map, ap, subst, ◌∙◌}
use Rattle.ignore_base.specs.Problem.{problem_of}
use Rattle.ignore_rules.specs.Matchers.{BuildsFile}
use Rattle.ignore_rules.specs.Rules.{Building, begun}
use Rattle.ignore_rules.proofs.gitignore.matcher.Gitignore.new.Goals as goal

pub returns-clause-read : goal.returns-clause-read
returns-clause-read g c = λ tree honest.
    let r = c.in_ok-build_file.field-0 in
    subst (λ (b : Building). BuildsFile tree c.args.path.now b r.0 (option_map problem_of r.1))
    (c.in_ok-builder.ensures.value ∙ ap begun c.folder_of.ensures) (c.in_ok-build_file.ensures.read tree honest)
