use Rattle.std.proofs.Common.{ℕ, List, [], length, refl, sym, ◌∙◌, ap, subst}
use Rattle.ignore_walk.specs.Whole.{WalkedRoots}
use Rattle.ignore_walk.proofs.StandLemmas.{stand_first, stand_whole}
use Rattle.ignore_walk.proofs.NoEndLemmas.{none_go_on}
use Rattle.ignore_walk.proofs.PaceLemmas.{work_first}
use Rattle.ignore_walk.proofs.BelowLemmas.{first_works, none_below}
use Rattle.ignore_walk.specs.Below.{WorksBelow}
use Rattle.ignore_walk.proofs.walk.Walk.new.Goals as goal

pub returns-clause-whole : goal.returns-clause-whole
returns-clause-whole g c = λ s items n suits whole. record {
  suits = suits;
  goes_on = refl;
  stands = stand_whole s _ items n (c.from_vec-2.ensures.items ∙ c.new-4.ensures.items) c.new-3.ensures.items c.new.ensures.items
      (subst (λ (roots : List (List ℕ)). WalkedRoots s [] roots items n) (sym c.from_vec.ensures.items) whole);
}

pub returns-clause-starts : goal.returns-clause-starts
returns-clause-starts g c = λ s suits. record {
  suits = suits;
  goes_on = refl;
  whole = stand_first s _ _ (c.from_vec-2.ensures.items ∙ c.new-4.ensures.items) c.new-3.ensures.items c.new.ensures.items c.from_vec.ensures.items;
}

pub returns-clause-begins : goal.returns-clause-begins
returns-clause-begins g c = work_first _ _ _ c.from_vec.ensures.items c.new-3.ensures.items

pub returns-clause-no_end : goal.returns-clause-no_end
returns-clause-no_end g c = none_go_on _ (ap length (c.from_vec-2.ensures.items ∙ c.new-4.ensures.items))

pub returns-clause-below : goal.returns-clause-below
returns-clause-below g c = record {
  work = subst (WorksBelow c.args.roots.items) (sym (work_first _ _ _ c.from_vec.ensures.items c.new-3.ensures.items)) (first_works c.args.roots.items);
  made = none_below c.args.roots.items c.from_vec-2.result.items (c.from_vec-2.ensures.items ∙ c.new-4.ensures.items);
}
