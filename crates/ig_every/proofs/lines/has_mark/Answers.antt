use Rattle.std.proofs.lemmas.Str.Pattern.{contains_text}
use Rattle.ignore_rules.specs.RuleFile.{mark}
use Rattle.ig_every.proofs.LineLemmas.{has_mark_is}
use Rattle.ig_every.proofs.lines.has_mark.Goals as goal

pub returns : goal.returns
returns c = has_mark_is c.contains.result c.args.text.now (contains_text c.contains.result mark c.args.text.now c.contains.ensures.cases)
