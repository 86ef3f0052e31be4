use Rattle.std.proofs.lemmas.Str.Pattern.{starts_text}
use Rattle.ignore_rules.proofs.gitignore.line.has_prefix.Goals as goal

pub returns : goal.returns
returns c = starts_text _ _ _ c.starts_with.ensures.cases
