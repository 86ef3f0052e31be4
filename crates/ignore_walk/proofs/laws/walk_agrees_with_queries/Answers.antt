use Rattle.ignore_walk.proofs.YieldLemmas.{agrees, whole_yields, yielded_reachable}
use Rattle.ignore_walk.proofs.laws.walk_agrees_with_queries.Goals as goal

pub returns-clause-entry : goal.returns-clause-entry
returns-clause-entry c = agrees c.join_law.ensures.name c.offset_law.ensures.left

pub returns-clause-reachable : goal.returns-clause-reachable
returns-clause-reachable c = yielded_reachable

pub returns-clause-whole : goal.returns-clause-whole
returns-clause-whole c = whole_yields c.join_law.ensures.name
