use Rattle.std.proofs.Common.{◌≡◌, sym, ap, ◌∙◌, subst, true, false, rules}
use Rattle.ignore_base.specs.Match.{is_none, match_map}
use Rattle.ignore_base.specs.Paths.{trim_of}
use Rattle.ignore_rules.specs.Answer.{answer}
use Rattle.ignore_dir.specs.declared.dir.Rank.TheVariants.{Exclude}
use Rattle.ignore_dir.specs.Lists.{asked_in}
use Rattle.ignore_levels.specs.declared.ranks.Sought.{Sought}
use Rattle.ignore_levels.specs.Reasons.{IsRulingInside, OverChain, down_to, sited_of}
use Rattle.ignore_levels.specs.Sites.{in_global, nearest_sited}
use Rattle.ignore_levels.proofs.RankLemmas.{at_site, decides, passes}
use Rattle.ignore_levels.proofs.ranks.git_answer.Goals as goal

pub returns-then-not-is_none-clause-answered : goal.returns-then-not-is_none-clause-answered
returns-then-not-is_none-clause-answered c = λ chain is after.
    let one = c.in_ok-answer.answer in
    let some : is_none one ≡ false = search rules in
    decides (sited_of c.args.sought.now.text) one _ _ (c.in_ok-answer.ensures.answered chain is after) some

pub returns-then-not-is_none-2-clause-answered : goal.returns-then-not-is_none-2-clause-answered
returns-then-not-is_none-2-clause-answered c = λ chain is after.
    let slots = c.args.levels.now.slots.items in
    let one = c.in_ok-answer.answer in
    let two = c.in_ok-answer-2.answer in
    let none : is_none one ≡ true = search rules in
    let some : is_none two ≡ false = search rules in
    let exclude = subst (λ (s : Sought). OverChain slots c.args.place s.text (λ chain. match_map (sited_of s.text) two
    ≡ nearest_sited Exclude (asked_in s.text (down_to c.args.floor chain)) s.is_dir)) c.in_ok-answer.ensures.same c.in_ok-answer-2.ensures.answered in
    let said = sited_of c.args.sought.now.text in
    decides said two _ _ (exclude chain is after) some
    ∙ sym (passes said one _ _ (c.in_ok-answer.ensures.answered chain is after) none)

pub returns-clause-answered : goal.returns-clause-answered
returns-clause-answered c = λ chain is after.
    let slots = c.args.levels.now.slots.items in
    let one = c.in_ok-answer.answer in
    let two = c.in_ok-answer-2.answer in
    let three = c.in_ok-answer-3.answer in
    let none : is_none one ≡ true = search rules in
    let none' : is_none two ≡ true = search rules in
    let global = c.args.global.now in
    let exclude = subst (λ (s : Sought). OverChain slots c.args.place s.text (λ chain. match_map (sited_of s.text) two
    ≡ nearest_sited Exclude (asked_in s.text (down_to c.args.floor chain)) s.is_dir)) c.in_ok-answer.ensures.same c.in_ok-answer-2.ensures.answered in
    let same = c.in_ok-answer-2.ensures.same ∙ c.in_ok-answer.ensures.same in
    let said = sited_of c.args.sought.now.text in
    let third = c.in_ok-answer-3.ensures.answered
    ∙ (ap (λ p. answer global.root global.rules p c.nearest-2.new.sought.is_dir) c.trim_root.ensures
    ∙ ap (λ (s : Sought). answer global.root global.rules (trim_of s.path.now) s.is_dir) same) in
    c.ruled_by.ensures.ruled c.args.sought.now.text
    ∙ (at_site in_global three _ third
    ∙ (sym (passes said two _ _ (exclude chain is after) none')
    ∙ sym (passes said one _ _ (c.in_ok-answer.ensures.answered chain is after) none)))

pub returns-then-not-is_none-2-clause-inside : goal.returns-then-not-is_none-2-clause-inside
returns-then-not-is_none-2-clause-inside c =
    subst (λ (s : Sought). IsRulingInside s.text c.in_ok-answer-2.answer) c.in_ok-answer.ensures.same c.in_ok-answer-2.ensures.inside

pub returns-clause-inside : goal.returns-clause-inside
returns-clause-inside c = c.ruled_by.ensures.inside c.args.sought.now.text tt
