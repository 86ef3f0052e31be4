use Rattle.ignore_glob.proofs.EndLemmas.{found_end}
use Rattle.ignore_glob.proofs.glob.ending.has_end.Goals as goal

pub returns-clause-yes : goal.returns-clause-yes
returns-clause-yes c = found_end c.ends_with.result c.args.end.now c.args.text.now c.ends_with.ensures.cases c.utf8.text
