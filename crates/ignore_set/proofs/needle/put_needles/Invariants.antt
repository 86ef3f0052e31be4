use Rattle.std.proofs.Common.{◌≡◌, ◌++◌, map, string_bytes}
use Rattle.ignore_set.proofs.needle.put_needles.Given as goal

abbrev pub invariant-loop-text : goal.invariant-loop-text
invariant-loop-text l = l.needles.items ≡ l.initial.needles.items ++ map (λ t. record { index = l.index; text = string_bytes t }) l.yielded
