use Rattle.std.proofs.Common.{◌∙◌, sym}
use Rattle.ignore_walk.specs.Visits.{IsYielded}
use Rattle.ignore.specs.Agreement.{matcher_root}
use Rattle.ignore.proofs.AgreeLemmas.{answer_kept, are_in, by_matchers}
use Rattle.ignore.proofs.walk_laws.walk_agrees_with_matchers.Goals as goal

pub returns-clause-matchers : goal.returns-clause-matchers
returns-clause-matchers g c = λ owner env b order tree o s ms m outside scene asked has.
    are_in g.S.Callbacks owner env b order tree o asked.0 s ms m scene (c.one_outside.ensures tree env b asked.0 o asked.1 outside) asked.2 has

pub returns-clause-entry : goal.returns-clause-entry
returns-clause-entry g c = λ s m place e items n open_ in_ reached w.
    let t = c.walk_agrees_with_queries.ensures.entry s (matcher_root m) place e items n open_ reached.no_stdin reached.reachable
    reached.within w in
    let same = answer_kept s m place e in_ in
    (λ y. same ∙ t.0 y, λ k. t.1 (sym same ∙ k))

pub returns-clause-whole : goal.returns-clause-whole
returns-clause-whole g c = λ owner env b order tree o s ms e items n outside scene open_ asked w.
    by_matchers g.S.Callbacks owner env b order tree o asked.0 s ms e (IsYielded items e) scene
    (c.one_outside.ensures tree env b asked.0 o asked.1 outside) asked.2 (c.walk_agrees_with_queries.ensures.whole s b.roots e items n open_ w)
