use Rattle.std.proofs.Common.{refl, ap, ◌∙◌}
use Rattle.ignore_rules.proofs.TextLemmas.{strip_start}
use Rattle.ignore_rules.proofs.gitignore.line.without_prefix.Goals as goal

pub returns : goal.returns
returns c =
    ap (λ r. r.now) c.unwrap_or.ensures ∙ strip_start _ _ c.strip_prefix.result c.args.text refl c.strip_prefix.ensures.cases
