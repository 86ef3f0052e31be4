use Rattle.std.proofs.Common.{refl, ap, ◌∙◌}
use Rattle.ignore_rules.proofs.TextLemmas.{strip_start}
use Rattle.ignore_rules.specs.RuleFile.{mark}
use Rattle.ig_every.proofs.lines.without_mark.Goals as goal

pub returns : goal.returns
returns c =
    ap (λ r. r.now) c.unwrap_or.ensures ∙ strip_start mark c.args.text.now c.strip_prefix.result c.args.text refl c.strip_prefix.ensures.cases
