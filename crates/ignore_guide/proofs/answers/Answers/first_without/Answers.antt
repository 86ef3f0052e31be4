use Rattle.std.proofs.Common.{add-one, ap, drop, is_some, not, refl, sym, ◌∙◌}
use Rattle.std.specs.List.{find}
use Rattle.ignore_base.specs.Text.{Path}
use Rattle.ignore_guide.specs.Answers.{answer_at}
use Rattle.ignore_guide.proofs.AnswerLemmas.{find_next, find_past, find_this}
use Rattle.ignore_guide.proofs.answers.Answers.first_without.Goals as goal

pub loop-at-init : goal.loop-at-init
loop-at-init g c = refl

pub returns-then-not-has : goal.returns-then-not-has
returns-then-not-has g c =
    let lacks = λ (path : Path). not (is_some (answer_at c.args.self.now.list.items path)) in
    sym (c.loop-at.invariant
    ∙ find_this lacks c.args.paths.now c.loop-at.at c.index-paths-at.result c.loop-at-test.true c.index-paths-at.is
    (ap not (ap (λ p. is_some (answer_at c.args.self.now.list.items p)) (sym c.as_str.ensures) ∙ (sym c.has.ensures ∙ c.if-not-has.true))))

pub loop-at-preserved : goal.loop-at-preserved
loop-at-preserved g c =
    let lacks = λ (path : Path). not (is_some (answer_at c.args.self.now.list.items path)) in
    c.loop-at.invariant
    ∙ (find_next lacks c.args.paths.now c.loop-at.at c.index-paths-at.result c.loop-at-test.true c.index-paths-at.is
    (ap not (ap (λ p. is_some (answer_at c.args.self.now.list.items p)) (sym c.as_str.ensures) ∙ (sym c.has.ensures ∙ c.if-not-has.false)))
    ∙ ap (λ n. find lacks (drop n c.args.paths.now)) (sym (add-one c.loop-at.at)))

pub returns : goal.returns
returns g c =
    sym (c.loop-at.invariant
    ∙ find_past (λ (path : Path). not (is_some (answer_at c.args.self.now.list.items path))) c.args.paths.now c.loop-at.at c.loop-at-test.false)
