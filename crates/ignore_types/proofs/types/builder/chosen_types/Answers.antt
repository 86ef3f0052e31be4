-- Each choice is built in its turn, up to the first that is rejected.
use Rattle.std.proofs.Common.{◌≡◌, ◌+◌, ◌++◌, ◌∷◌, [], suc, take, drop, sym, subst, inl, inr}
use Rattle.std.specs.List.{AllZip}
use Rattle.std.proofs.lemmas.Result.{err_from_is_err_and}
use Rattle.ignore_types.specs.Building.{IsChosen}
use Rattle.ignore_types.proofs.ChoiceLemmas.{split-at, take-push, AllZip-push}
use Rattle.ignore_types.proofs.types.builder.chosen_types.Goals as goal

pub returns-in_err-choice-clause-refused : goal.returns-in_err-choice-clause-refused
returns-in_err-choice-clause-refused c =
    let p = err_from_is_err_and c.from_residual.result c.from_residual.ensures.1 in
    rw (p.1, p.2) (elim c.in_err-choice.ensures.refused [
      | inl memory ↦ inl memory
      | inr problem ↦ inr (record {
        before = take c.loop-selection.selection-index c.args.selections.now;
        goods = c.loop-selection.all.items;
        bad = c.selection-item.result;
        after = drop (suc c.loop-selection.selection-index) c.args.selections.now;
        split =
            split-at c.args.selections.now c.loop-selection.selection-index c.selection-item.result c.loop-selection-test.true
            c.selection-item.is;
        good = c.loop-selection.invariant;
        fails = problem;
      })
    ])

pub loop-selection-preserved : goal.loop-selection-preserved
loop-selection-preserved c =
    let i = c.loop-selection.selection-index in
    let item = c.selection-item.result in
    let more : take (i + 1) c.args.selections.now ≡ take i c.args.selections.now
    ++ item ∷ [] = take-push c.args.selections.now i item c.loop-selection-test.true c.selection-item.is in
    let items : c.push.new.self.items ≡ c.loop-selection.all.items ++ c.in_ok-choice.choice ∷ [] = c.in_ok-push.ensures.items in
    subst (λ l. AllZip (IsChosen c.args.types.now) l c.push.new.self.items) (sym more)
    (subst (λ l. AllZip (IsChosen c.args.types.now) (take i c.args.selections.now ++ item ∷ []) l) (sym items)
    (AllZip-push (IsChosen c.args.types.now)
    (take i c.args.selections.now) c.loop-selection.all.items item c.in_ok-choice.choice c.loop-selection.invariant
    c.in_ok-choice.ensures.built))
