use Rattle.std.proofs.Common.{◌≡◌, false, true, length, ap, sym, ◌∙◌, rules}
use Rattle.ignore_base.specs.Match.{is_none}
use Rattle.ignore_rules.specs.Parents.{directories_answer}
use Rattle.ignore_rules.proofs.ParentLemmas.{decides, passes_on, parents-over}
use Rattle.ignore_rules.proofs.gitignore.parents.nearest_parent_answer.Goals as goal

pub returns-then-not-is_none-clause-answered : goal.returns-then-not-is_none-clause-answered
returns-then-not-is_none-clause-answered c =
    let found : is_none c.in_ok-answer.answer ≡ false = search rules in
    decides (λ g. g.now) c.in_ok-answer.answer _ _ _ c.in_ok-answer.ensures.answered found
    (c.loop-rest.invariant.left ∙ ap (directories_answer c.args.matcher.now.rules) c.parent-rest.ensures.next)

pub loop-rest-preserved : goal.loop-rest-preserved
loop-rest-preserved c =
    let none : is_none c.in_ok-answer.answer ≡ true = search rules in
    record {
      utf8 = search rules;
      first = c.parent-rest.ensures.first;
      left = passes_on (λ g. g.now) c.in_ok-answer.answer _ _ _ c.in_ok-answer.ensures.answered none
          (c.loop-rest.invariant.left ∙ ap (directories_answer c.args.matcher.now.rules) c.parent-rest.ensures.next);
    }

pub returns-clause-answered : goal.returns-clause-answered
returns-clause-answered c =
    let over : length c.loop-rest.rest.now ≡ 0 = search rules in
    sym (c.loop-rest.invariant.left ∙ parents-over c.args.matcher.now.rules c.loop-rest.rest.now over)
