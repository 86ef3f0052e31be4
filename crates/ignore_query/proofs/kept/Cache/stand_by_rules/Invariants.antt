use Rattle.std.proofs.Common.{◌-◌, map, length}
use denote.Text.{Utf8}
use denote.Shadow.{shadow}
use Rattle.ignore_base.specs.Problem.{problem_of}
use Rattle.ignore_query.proofs.StandLemmas.{OnWay}
use Rattle.ignore_query.proofs.kept.Cache.stand_by_rules.Given as goal

-- the directories before the one with this key are looked up or kept
abbrev pub invariant-way : goal.invariant-way
invariant-way g l = record {
  text : shadow (Utf8 l.key);
  on : OnWay g.F.Files l.call l.fn.self l.self (map problem_of l.fn.errors.items) (map problem_of l.errors.items) l.place l.key;
}

abbrev pub decreases-way : goal.decreases-way
decreases-way g l = length l.call.path.now - length l.key
