use Rattle.std.proofs.Common.{◌+◌, drop, map}
use Rattle.ig_every.specs.Lines.{texts_in}
use Rattle.ig_every.proofs.LineLemmas.{LeadsTo}
use Rattle.ig_every.proofs.lines.lint_each.Given as goal

-- what is wrong with the lines so far was found
abbrev pub invariant-loop-index : goal.invariant-loop-index
invariant-loop-index l =
    LeadsTo l.how (texts_in (map (λ line. line.now) l.lines)) (l.index + 1) (texts_in (drop l.index (map (λ line. line.now) l.lines))) l.found.items
