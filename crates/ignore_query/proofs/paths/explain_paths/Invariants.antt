use Rattle.std.proofs.Common.{◌≡◌, take}
use Rattle.ignore_query.proofs.TurnLemmas.{Turns, explained, explained_to}
use Rattle.ignore_query.proofs.paths.explain_paths.Given as goal

-- the explanations so far are those to the paths before this one, in turn
abbrev pub invariant-loop-question : goal.invariant-loop-question
invariant-loop-question g l = record {
  same : l.matcher.asked ≡ l.fn.matcher.asked;
  turns : Turns explained explained_to g.F.Files l.files l.fn.matcher.asked l.paths (take l.question-index l.paths) l.fn.matcher.cache l.matcher.cache
      l.found.items;
}
