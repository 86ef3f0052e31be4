use Rattle.std.proofs.Common.{◌≡◌, ◌≢◌, [], true, sym, ◌∙◌, ap}
use Rattle.ignore_dir.specs.Query.{query}
use Rattle.ignore_dir.specs.Scene.{QueryScene}
use Rattle.ignore_query.specs.Agrees.{Agrees}
use Rattle.ignore_query.specs.Needs.{is_decided}
use Rattle.ignore_survey.proofs.SuitLemmas.{grows_asked, opens_as, root_undecided, stdin_is_shut, suits_still, where_suits}
use Rattle.ignore_survey.proofs.survey.is_open.Goals as goal

pub returns-in_err-answer-clause-suits : goal.returns-in_err-answer-clause-suits
returns-in_err-answer-clause-suits g c = λ s suits.
    let m = c.args.matcher.now in
    suits_still g.F.Files c.args.files.now m s c.matched.new.self suits c.matched.ensures.leaves.same
    (where_suits g.F.Files c.args.files.now m s (λ x. Agrees x c.matched.new.self.cache) suits c.matched.ensures.leaves.agrees)

pub returns-clause-suits : goal.returns-clause-suits
returns-clause-suits g c = λ s suits.
    let m = c.args.matcher.now in
    suits_still g.F.Files c.args.files.now m s c.matched.new.self suits c.matched.ensures.leaves.same
    (where_suits g.F.Files c.args.files.now m s (λ x. Agrees x c.matched.new.self.cache) suits c.matched.ensures.leaves.agrees)

-- the query for the root reads nothing
pub returns-in_err-answer-clause-kept : goal.returns-in_err-answer-clause-kept
returns-in_err-answer-clause-kept g c = λ s suits.
    let m = c.args.matcher.now in
    where_suits g.F.Files c.args.files.now m s (λ x. is_decided x [] true ≢ true → c.matched.new.self.cache ≡ m.cache) suits
    c.matched.ensures.leaves.unchanged (root_undecided s)

pub returns-clause-kept : goal.returns-clause-kept
returns-clause-kept g c = λ s suits.
    let m = c.args.matcher.now in
    where_suits g.F.Files c.args.files.now m s (λ x. is_decided x [] true ≢ true → c.matched.new.self.cache ≡ m.cache) suits
    c.matched.ensures.leaves.unchanged (root_undecided s)

pub returns-in_err-answer-clause-grows : goal.returns-in_err-answer-clause-grows
returns-in_err-answer-clause-grows g c =
    grows_asked g.F.Files c.args.files.now c.args.matcher.now c.matched.new.self ([], true) c.matched.ensures.leaves

pub returns-clause-grows : goal.returns-clause-grows
returns-clause-grows g c =
    grows_asked g.F.Files c.args.files.now c.args.matcher.now c.matched.new.self ([], true) c.matched.ensures.leaves

pub returns-then-eq-clause-value : goal.returns-then-eq-clause-value
returns-then-eq-clause-value g c = λ s suits.
    stdin_is_shut s c.root.result.now c.eq.result (ap (λ (x : QueryScene). x.root) suits.scene ∙ sym c.root.ensures) c.eq.ensures c.if-eq.true

pub returns-clause-value : goal.returns-clause-value
returns-clause-value g c = λ s suits.
    let a = c.in_ok-answer.answer in
    opens_as s c.root.result.now c.eq.result c.should_descend.result a (ap (λ (x : QueryScene). x.root) suits.scene ∙ sym c.root.ensures)
    c.eq.ensures c.if-eq.false c.should_descend.ensures
    (where_suits g.F.Files c.args.files.now c.args.matcher.now s (λ x. a ≡ (query x [] true).0) suits c.in_ok-answer.ensures.value)
