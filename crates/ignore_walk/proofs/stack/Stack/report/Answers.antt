use Rattle.std.proofs.Common.{◌++◌, ◌∷◌, [], Option, Err, ap, map, option_map, option_to_list, sym, ◌∙◌}
use Rattle.ignore_base.specs.Problem.{Problem, problem_of}
use Rattle.ignore_base.specs.declared.error.Error.{Error}
use Rattle.ignore_walk.specs.Entry.{Item, item_of}
use Rattle.ignore_walk.proofs.NoEndLemmas.{made_go_on, some_no_limit_at, some_soft_at}
use Rattle.ignore_walk.proofs.VisitLemmas.{on_ok_map}
use Rattle.ignore_walk.proofs.BelowLemmas.{made_below, one_below}
use Rattle.ignore_walk.proofs.stack.Stack.report.Goals as goal

abbrev failed : Problem → Item
failed p = Err p

pub returns-in_ok-below_limit-in-Some-clause-value : goal.returns-in_ok-below_limit-in-Some-clause-value
returns-in_ok-below_limit-in-Some-clause-value c = λ within.
    let made = map item_of c.args.self.now.made.items in
    let same = c.in_ok-below_limit-in-Some.ensures.same (some_no_limit_at c.args.error c.in-Some.error c.in-Some.is within) in
    on_ok_map c.make_error.result
    (λ makes. makes ∙ (ap (λ (p : Problem). made ++ failed p ∷ []) same
    ∙ ap (λ (error : Option Error). made ++ map failed (option_to_list (option_map problem_of error))) (sym c.in-Some.is)))
    c.make_error.ensures.value

pub returns-in_ok-below_limit-in-Some-clause-no_end : goal.returns-in_ok-below_limit-in-Some-clause-no_end
returns-in_ok-below_limit-in-Some-clause-no_end c = λ soft h.
    let goes_on = c.in_ok-below_limit-in-Some.ensures.no_end (some_soft_at c.args.error c.in-Some.error c.in-Some.is soft) in
    on_ok_map c.make_error.result (λ makes. made_go_on _ _ _ makes h (goes_on, tt)) c.make_error.ensures.value

pub returns-in_ok-below_limit-in-Some-clause-below : goal.returns-in_ok-below_limit-in-Some-clause-below
returns-in_ok-below_limit-in-Some-clause-below c = λ roots h.
    on_ok_map c.make_error.result (λ makes. made_below roots _ _ _ makes h (one_below roots _ tt)) c.make_error.ensures.value
