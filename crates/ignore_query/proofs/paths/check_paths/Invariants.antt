use Rattle.std.proofs.Common.{◌≡◌, take}
use Rattle.ignore_query.proofs.TurnLemmas.{Turns, itself, match_to}
use Rattle.ignore_query.proofs.paths.check_paths.Given as goal

-- the answers so far are those to the paths before this one, in turn
abbrev pub invariant-loop-path : goal.invariant-loop-path
invariant-loop-path g l = record {
  same : l.matcher.asked ≡ l.fn.matcher.asked;
  turns : Turns itself match_to g.F.Files l.files l.fn.matcher.asked l.paths (take l.path-index l.paths) l.fn.matcher.cache l.matcher.cache
      l.answers.items;
}
