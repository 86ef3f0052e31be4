use Rattle.std.proofs.Common.{◌≡◌, ◌+◌, ◌-◌, ◌^◌, ◌<◌, length, min}
use denote.Shadow.{shadow}
use denote.Text.{Utf8}
use Rattle.std.specs.Str.{chars}
use Rattle.ignore_glob.specs.Exact.{common}
use Rattle.ignore_glob.proofs.glob.exact_marks.run.Given as goal

abbrev pub invariant-loop-literals : goal.invariant-loop-literals
invariant-loop-literals l = record {
  left : shadow (Utf8 l.left);
  rest : shadow (Utf8 l.rest);
  within : l.count < 2 ^ 64;
  sum : min (l.count + common (chars l.left) (chars l.rest)) (2 ^ 64 - 1)
      ≡ min (1 + common (chars l.fn.literals) (chars l.fn.text)) (2 ^ 64 - 1);
}

abbrev pub decreases-loop-literals : goal.decreases-loop-literals
decreases-loop-literals l = length l.rest
