use Rattle.std.proofs.Common.{◌≡◌, ◌∷◌, [], Some, slice_get, refl, arith, subst, sym}
use Rattle.std.proofs.lemmas.Slice.{pushed}
use Rattle.ignore_every.specs.Differences.{IsApart}
use Rattle.ignore_every.proofs.Differing.{one_more}
use Rattle.ignore_every.proofs.Pushes.{slice_get_front}
use Rattle.ignore_every.proofs.lists.Lists.push_at.Goals as goal

pub returns-clause-kept : goal.returns-clause-kept
returns-clause-kept c = λ before.
    let lists = c.args.self.now in
    let old = c.args.found.now.items in
    let difference = c.in_ok-difference.difference in
    let grown = pushed (difference ∷ []) refl c.in_ok-push.was c.push.ensures.items in
    one_more lists.counted lists.old.now.rules lists.new.now.rules c.args.most old c.push.new.self.items difference grown before
    c.in_ok-difference.ensures.is
    (subst (λ ds. IsApart ds difference) c.deref-2.ensures.value (c.is_apart.ensures c.if-not-is_apart.false)) (omega arith)

pub returns-clause-first : goal.returns-clause-first
returns-clause-first c = λ d at.
    let old = c.args.found.now.items in
    let difference = c.in_ok-difference.difference in
    let grown = pushed (difference ∷ []) refl c.in_ok-push.was c.push.ensures.items in
    subst (λ ds. slice_get ds 0 ≡ Some d) (sym grown) (slice_get_front old (difference ∷ []) 0 d at)
