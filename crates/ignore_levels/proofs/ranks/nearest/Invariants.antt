use Rattle.std.proofs.Common.{◌≡◌}
use Rattle.std.specs.Str.{IsUtf8}
use Rattle.ignore_levels.specs.Reasons.{OverChain}
use Rattle.ignore_levels.proofs.RestLemmas.{Rest}
use Rattle.ignore_levels.proofs.ranks.nearest.Given as goal

abbrev pub invariant-loop-at : goal.invariant-loop-at
invariant-loop-at l = record {
  same : l.sought ≡ l.initial.sought;
  utf8 : IsUtf8 l.initial.sought.text;
  rest : OverChain l.levels.slots.items l.fn.place l.initial.sought.text
      (λ chain. Rest l.levels.slots.items l.rank l.initial.sought.text l.initial.sought.is_dir l.floor l.ceiling l.at chain);
}

abbrev pub decreases-loop-at : goal.decreases-loop-at
decreases-loop-at l = l.ceiling
