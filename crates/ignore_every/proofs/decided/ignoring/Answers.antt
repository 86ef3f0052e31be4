use Rattle.std.proofs.Common.{true, sym, ◌∙◌}
use Rattle.std.specs.Str.{chars}
use Rattle.ignore_every.proofs.Deciders.{free_then}
use Rattle.ignore_every.proofs.decided.ignoring.Goals as goal

-- the rule that decides doesn't ignore, or none decides
pub returns-else-ignores-clause-none : goal.returns-else-ignores-clause-none
returns-else-ignores-clause-none c = λ none ignored.
    free_then c.args.rules.now (chars c.args.folder.now) true c.in_ok-last.last c.in_ok-last.ensures (sym c.ignores.ensures ∙ c.if-ignores.false) ignored
