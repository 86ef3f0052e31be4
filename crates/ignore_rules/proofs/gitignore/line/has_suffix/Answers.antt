use Rattle.std.proofs.lemmas.Str.Pattern.{ends_text}
use Rattle.ignore_rules.proofs.gitignore.line.has_suffix.Goals as goal

pub returns : goal.returns
returns c = ends_text _ _ _ c.ends_with.ensures.cases
