use Rattle.std.proofs.Common.{◌≡◌, ◌+◌, ◌-◌, ◌^◌, ◌<◌, length, min}
use denote.Shadow.{shadow}
use denote.Text.{Utf8}
use Rattle.std.specs.Str.{chars}
use Rattle.ignore_glob.specs.Exact.{later_marks}
use Rattle.ignore_glob.proofs.glob.exact_marks.later_marks.Given as goal

abbrev pub invariant-loop-d : goal.invariant-loop-d
invariant-loop-d l = record {
  rest : shadow (Utf8 l.rest);
  within : l.count < 2 ^ 64;
  sum : min (l.count + later_marks l.kind (chars l.literals) (chars l.rest)) (2 ^ 64 - 1)
      ≡ min (later_marks l.kind (chars l.literals) (chars l.fn.text)) (2 ^ 64 - 1);
}

abbrev pub decreases-loop-d : goal.decreases-loop-d
decreases-loop-d l = length l.rest
