use Rattle.std.proofs.Common.{◌≡◌, Option, Some, option_map, string_bytes, sym, ap, subst, ◌∙◌}
use Rattle.ignore_base.specs.Problem.{problem_of}
use Rattle.ignore_base.specs.Text.{Path}
use Rattle.ignore_rules.specs.Matchers.{BuildsFile, BuildsWith, global_file}
use Rattle.ignore_rules.proofs.gitignore.builder.GitignoreBuilder.build_global.Goals as goal

pub returns-in_ok-build_file-in-Some-clause-read : goal.returns-in_ok-build_file-in-Some-clause-read
returns-in_ok-build_file-in-Some-clause-read g c = λ tree honest.
    let found = c.in_ok-global_file.ensures.found tree honest in
    let r = c.in_ok-build_file-in-Some.field-0 in
    let there : Some (string_bytes c.in-Some.path)
    ≡ global_file tree found.0 = sym (ap (option_map string_bytes) c.in-Some.is) ∙ found.2 in
    let built = subst (λ (p : Path). BuildsFile tree p c.args.self r.0 (option_map problem_of r.1)) c.as_str.ensures.value
    (c.in_ok-build_file-in-Some.ensures.read tree honest) in
    (found.0, found.1, subst (λ (o : Option Path). BuildsWith tree o c.args.self r.0 (option_map problem_of r.1)) there built)
