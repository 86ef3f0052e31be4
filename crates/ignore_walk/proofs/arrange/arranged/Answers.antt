use Rattle.std.proofs.Common.{Bool, List, Option, ℕ, sym, ap, subst, ◌∙◌}
use Rattle.std.proofs.lemmas.List.Sorted.{IsPermutation-refl}
use Rattle.ignore_walk.specs.Suits.{order_by}
use Rattle.ignore_walk.specs.Walked.{IsArranged}
use Rattle.ignore_walk.specs.declared.callbacks.Order.{Order}
use Rattle.ignore_walk.proofs.arrange.arranged.Goals as goal

pub returns-in_ok-sort_by_name-in-ByName-clause-arranged : goal.returns-in_ok-sort_by_name-in-ByName-clause-arranged
returns-in_ok-sort_by_name-in-ByName-clause-arranged g c = λ chosen h.
    let dir = c.args.dir.now in
    let by = c.in_ok-sort_by_name-in-ByName.ensures.arranged h.0 dir h.1 h.2 in
    subst (λ (o : Option (List ℕ → List ℕ → List ℕ → Bool)). IsArranged o dir c.args.listing.items c.sort_by_name.new.listing.items)
    (sym (h.3 ∙ ap (λ (o : Order). order_by o h.0) c.in-ByName.is)) by

pub returns-in_ok-sort_by_name-in-ByName-clause-permuted : goal.returns-in_ok-sort_by_name-in-ByName-clause-permuted
returns-in_ok-sort_by_name-in-ByName-clause-permuted g c = c.in_ok-sort_by_name-in-ByName.ensures.permuted

pub returns-in-Listed-clause-permuted : goal.returns-in-Listed-clause-permuted
returns-in-Listed-clause-permuted g c = IsPermutation-refl c.args.listing.items
