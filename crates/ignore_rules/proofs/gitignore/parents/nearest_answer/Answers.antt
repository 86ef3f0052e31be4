use Rattle.std.proofs.Common.{◌≡◌, false, true, sym, refl, ◌∙◌, rules}
use Rattle.ignore_base.specs.Match.{is_none}
use Rattle.ignore_rules.proofs.ParentLemmas.{decides, passes_on, on_ok}
use Rattle.ignore_rules.proofs.gitignore.parents.nearest_answer.Goals as goal

pub returns-then-is_none-clause-answered : goal.returns-then-is_none-clause-answered
returns-then-is_none-clause-answered c =
    let none : is_none c.in_ok-answer.answer ≡ true = search rules in
    let left = sym (passes_on (λ g. g.now) c.in_ok-answer.answer _ _ _ c.in_ok-answer.ensures.answered none refl) in
    on_ok _ _ c.nearest_parent_answer.result (λ m h. h ∙ left) c.nearest_parent_answer.ensures.answered

pub returns-else-is_none : goal.returns-else-is_none
returns-else-is_none c =
    let found : is_none c.in_ok-answer.answer ≡ false = search rules in
    record { answered = decides (λ g. g.now) c.in_ok-answer.answer _ _ _ c.in_ok-answer.ensures.answered found refl; succeeds = λ _. refl }
