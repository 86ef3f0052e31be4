use Rattle.std.proofs.Common.{refl, ap, ◌∙◌}
use Rattle.ignore_rules.proofs.TextLemmas.{strip_end}
use Rattle.ignore_rules.proofs.gitignore.line.without_suffix.Goals as goal

pub returns : goal.returns
returns c =
    ap (λ r. r.now) c.unwrap_or.ensures ∙ strip_end _ _ c.strip_suffix.result c.args.text refl c.strip_suffix.ensures.cases
