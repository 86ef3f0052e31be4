use Rattle.ig_commands.proofs.lint.lint_contents.Goals as goal

pub returns-clause-lints : goal.returns-clause-lints
returns-clause-lints g c =
    let l = c.in_ok-linted.ensures.linted in
    let found = c.in_ok-found.ensures.writes in
    let reported = c.in_ok-reported.ensures.reports in
    (c.in_ok-linted.linted, found.0, l.0, l.1, l.2, found.1, c.has_rules.ensures, reported.0, found.2, found.3, reported.1)
