use Rattle.std.proofs.Common.{refl}
use Rattle.ignore_rules.proofs.CutLemmas.{read_text, read_other}
use Rattle.ignore_rules.proofs.gitignore.file.line_of.Goals as goal

pub returns-in-Ok : goal.returns-in-Ok
returns-in-Ok c = (read_text c.args.line.now c.in-Ok.text.now c.in-Ok.ensures.cases.0 c.in-Ok.ensures.cases.1, refl)

pub returns-in-Err : goal.returns-in-Err
returns-in-Err c = read_other c.args.line.now c.in-Err.ensures.cases.0
