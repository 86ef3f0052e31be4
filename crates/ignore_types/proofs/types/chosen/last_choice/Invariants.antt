-- No choice from the index on matches the name.
use Rattle.std.proofs.Common.{◌≡◌, drop}
use Rattle.std.specs.Str.{chars}
use Rattle.ignore_base.specs.declared.match_result.Match.TheVariants.{None}
use Rattle.ignore_types.specs.TypeMatch.{choices_answer}
use Rattle.ignore_types.proofs.types.chosen.last_choice.Given as goal

abbrev pub invariant-loop-i : goal.invariant-loop-i
invariant-loop-i l = choices_answer (drop l.i l.choices) (chars l.name) ≡ None
