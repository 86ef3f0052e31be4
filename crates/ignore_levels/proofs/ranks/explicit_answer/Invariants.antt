use Rattle.std.proofs.Common.{◌≡◌, drop}
use Rattle.ignore_base.specs.declared.match_result.Match.TheVariants.{None}
use Rattle.ignore_dir.specs.Ranks.{explicit_answer}
use Rattle.ignore_levels.proofs.ranks.explicit_answer.Given as goal

abbrev pub invariant-loop-i : goal.invariant-loop-i
invariant-loop-i l = explicit_answer (drop l.i l.explicit) l.path l.is_dir ≡ None
