use Rattle.std.proofs.Common.{◌≡◌, ℕ, ◌<◌, false, Some, slice_get}
use Rattle.std.specs.Str.{chars}
use Rattle.ignore_rules.specs.Answer.{does_apply}
use Rattle.ignore_rules.specs.Rules.{Rule}
use Rattle.ignore_every.proofs.decided.decides.Given as goal

-- no later rule before this one applies
abbrev pub invariant-loop-later : goal.invariant-loop-later
invariant-loop-later l =
    (i : ℕ) → i < l.later → (rule : Rule) → l.index < i → slice_get l.rules i ≡ Some rule → does_apply (chars l.path) l.is_dir rule ≡ false
