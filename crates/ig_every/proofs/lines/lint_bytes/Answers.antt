use Rattle.ignore_base.specs.declared.fault.Fault.TheVariants.{InvalidData}
use Rattle.ignore_rules.proofs.CutLemmas.{read_other, read_text}
use Rattle.ig_every.proofs.lines.lint_bytes.Goals as goal

pub returns-in_ok-lint_text-in-Ok : goal.returns-in_ok-lint_text-in-Ok
returns-in_ok-lint_text-in-Ok c =
    (c.in-Ok.text.now, read_text c.args.line.now c.in-Ok.text.now c.in-Ok.ensures.cases.0 c.in-Ok.ensures.cases.1, c.in_ok-lint_text-in-Ok.ensures)

pub returns-in_ok-add-in-Err : goal.returns-in_ok-add-in-Err
returns-in_ok-add-in-Err c = (InvalidData, read_other c.args.line.now c.in-Err.ensures.cases.0, c.in_ok-add-in-Err.ensures)
