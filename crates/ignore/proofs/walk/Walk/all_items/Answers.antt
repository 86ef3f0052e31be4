use Rattle.std.proofs.Common.{map}
use Rattle.ignore_base.specs.Problem.{problem_of}
use Rattle.ignore_walk.specs.Entry.{item_of}
use Rattle.ignore.proofs.HeadlineLemmas.{ended_of, headline_of, only_of}
use Rattle.ignore.proofs.walk.Walk.all_items.Goals as goal

pub returns-clause-only : goal.returns-clause-only
returns-clause-only g c = λ f owner env b order by limit.
    only_of g.F.Files g.S.Callbacks f owner env b order c.args.self.inner (λ all. map item_of all.items) c.all_items.result by limit
    c.all_items.ensures.complete c.all_items.ensures.within

pub returns-clause-headline : goal.returns-clause-headline
returns-clause-headline g c = λ f owner env b order by limit.
    headline_of g.F.Files g.S.Callbacks f owner env b order c.args.self.inner (λ all. map item_of all.items) c.all_items.result by limit
    c.all_items.ensures.exists

pub returns-clause-ended : goal.returns-clause-ended
returns-clause-ended g c = λ f owner env b order by limit on.
    ended_of g.F.Files g.S.Callbacks f owner env b order c.args.self.inner problem_of c.all_items.result by limit
    c.all_items.ensures.ended (c.all_items.ensures.errors on)
