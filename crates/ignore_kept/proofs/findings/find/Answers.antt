-- What is found is of the rules that a handle keeps.
use Rattle.ignore_kept.proofs.Judged.{finds}
use Rattle.ignore_kept.proofs.findings.find.Goals as goal

pub returns : goal.returns
returns c = finds c.args.kept.now c.in-Rules.rules c.in_ok-found.found c.in-Rules.is c.in_ok-found.ensures.found
