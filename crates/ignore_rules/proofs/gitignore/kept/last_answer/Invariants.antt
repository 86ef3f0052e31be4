use Rattle.std.proofs.Common.{◌≡◌, drop}
use Rattle.std.specs.Str.{chars}
use Rattle.ignore_base.specs.declared.match_result.Match.TheVariants.{None}
use Rattle.ignore_rules.specs.Answer.{list_answer}
use Rattle.ignore_rules.proofs.gitignore.kept.last_answer.Given as goal

abbrev pub invariant-loop-i : goal.invariant-loop-i
invariant-loop-i l = list_answer (drop l.i l.globs) (chars l.text) l.is_dir ≡ None
