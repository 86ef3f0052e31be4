use Rattle.std.proofs.Common.{map, sym, ap, subst, ◌∙◌}
use Rattle.std.proofs.lemmas.Bool.{false≢true}
use Rattle.std.proofs.lemmas.List.{map-id}
use Rattle.ignore_set.specs.Sets.{Member, AreShort}
use Rattle.ignore_set.proofs.set.PatternSet.last_match.Goals as goal

pub returns-in_err-last_match-clause-succeeds : goal.returns-in_err-last_match-clause-succeeds
returns-in_err-last_match-clause-succeeds c short =
    absurd (false≢true (c.in_err-last_match.ensures.succeeds
    (subst AreShort (sym (ap (map (λ (m : Member). m)) c.deref.ensures.value ∙ (map-id c.self.inside.entries.items ∙ c.self.view_is))) short)))
