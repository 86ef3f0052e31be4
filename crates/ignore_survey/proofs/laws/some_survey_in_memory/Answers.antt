use Rattle.std.proofs.Common.{sym, subst}
use Rattle.ignore_files.specs.Dirs.{IsNumbered}
use Rattle.ignore_files.specs.Memory.{dir_count}
use Rattle.ignore_survey.proofs.laws.some_survey_in_memory.Goals as goal

pub returns : goal.returns
returns c = λ g is.
    c.some_survey.ensures g (dir_count c.args.tree.now)
    (subst (λ tree. IsNumbered tree (dir_count c.args.tree.now)) (sym is) c.is_numbered.ensures)
