use Rattle.ignore_rules.proofs.MarkLemmas.{trimmed_marks}
use Rattle.ig_every.proofs.lines.unmarked.Goals as goal

pub returns : goal.returns
returns c = trimmed_marks c.args.text.now c.trim_start_matches.result.now c.trim_start_matches.ensures.matches
