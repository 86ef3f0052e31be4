use Rattle.std.proofs.Common.{◌≡◌, ◌≢◌, length, get_or}
use Rattle.std.specs.Str.{chars, IsUtf8}
use Rattle.ignore_rules.specs.Parents.{directories_answer, parents}
use Rattle.ignore_rules.proofs.gitignore.parents.nearest_parent_answer.Given as goal

-- what is left to be asked
abbrev pub invariant-loop-rest : goal.invariant-loop-rest
invariant-loop-rest l = record {
  utf8 : IsUtf8 l.rest;
  first : get_or l.rest 0 0 ≢ 47;
  left : directories_answer l.matcher.rules (parents (chars l.text)) ≡ directories_answer l.matcher.rules (parents (chars l.rest));
}

abbrev pub decreases-loop-rest : goal.decreases-loop-rest
decreases-loop-rest l = length l.rest
