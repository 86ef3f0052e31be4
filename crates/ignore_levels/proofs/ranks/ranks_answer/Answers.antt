use Rattle.std.proofs.Common.{◌≡◌, List, sym, ap, ◌∙◌, subst, true, false, rules}
use Rattle.ignore_base.specs.Match.{is_none, match_map}
use Rattle.ignore_base.specs.Paths.{trim_of}
use Rattle.ignore_rules.specs.Rules.{Ruleset}
use Rattle.ignore_dir.specs.declared.dir.Rank.TheVariants.{Custom, Ignore}
use Rattle.ignore_dir.specs.Lists.{Placed, asked_in}
use Rattle.ignore_dir.specs.Ranks.{explicit_answer}
use Rattle.ignore_levels.specs.declared.ranks.Sought.{Sought}
use Rattle.ignore_levels.specs.Reasons.{IsRulingInside, OverChain, down_to, sited_of}
use Rattle.ignore_levels.specs.Sites.{git_ranks_sited, in_explicit, nearest_sited}
use Rattle.ignore_levels.proofs.FloorLemmas.{down_to-all}
use Rattle.ignore_levels.proofs.RankLemmas.{at_site, decides, passes}
use Rattle.ignore_levels.proofs.ranks.ranks_answer.Goals as goal

pub returns-then-not-is_none-clause-answered : goal.returns-then-not-is_none-clause-answered
returns-then-not-is_none-clause-answered c = λ chain is after.
    let asked = c.args.asked.now in
    let one = c.in_ok-answer.answer in
    let some : is_none one ≡ false = search rules in
    let slots = c.args.levels.now.slots.items in
    let is0 = c.of-sought.ensures in
    let custom = subst (λ (s : Sought). OverChain slots c.args.place s.text (λ chain. match_map (sited_of s.text) one
    ≡ nearest_sited Custom (asked_in s.text (down_to 0 chain)) s.is_dir)) is0 c.in_ok-answer.ensures.answered chain is after
    ∙ ap (λ (l : List Placed). nearest_sited Custom (asked_in asked.text.now l) asked.is_dir) (down_to-all chain) in
    decides (sited_of asked.text.now) one _ _ custom some

pub returns-then-not-is_none-2-clause-answered : goal.returns-then-not-is_none-2-clause-answered
returns-then-not-is_none-2-clause-answered c = λ chain is after.
    let asked = c.args.asked.now in
    let one = c.in_ok-answer.answer in
    let two = c.in_ok-answer-2.answer in
    let none : is_none one ≡ true = search rules in
    let some : is_none two ≡ false = search rules in
    let slots = c.args.levels.now.slots.items in
    let is0 = c.of-sought.ensures in
    let custom = subst (λ (s : Sought). OverChain slots c.args.place s.text (λ chain. match_map (sited_of s.text) one
    ≡ nearest_sited Custom (asked_in s.text (down_to 0 chain)) s.is_dir)) is0 c.in_ok-answer.ensures.answered chain is after
    ∙ ap (λ (l : List Placed). nearest_sited Custom (asked_in asked.text.now l) asked.is_dir) (down_to-all chain) in
    let is1 = c.in_ok-answer.ensures.same ∙ is0 in
    let ignore = subst (λ (s : Sought). OverChain slots c.args.place s.text (λ chain. match_map (sited_of s.text) two
    ≡ nearest_sited Ignore (asked_in s.text (down_to 0 chain)) s.is_dir)) is1 c.in_ok-answer-2.ensures.answered chain is after
    ∙ ap (λ (l : List Placed). nearest_sited Ignore (asked_in asked.text.now l) asked.is_dir) (down_to-all chain) in
    decides (sited_of asked.text.now) two _ _ ignore some ∙ sym (passes (sited_of asked.text.now) one _ _ custom none)

pub returns-then-not-is_none-3-clause-answered : goal.returns-then-not-is_none-3-clause-answered
returns-then-not-is_none-3-clause-answered c = λ chain is after.
    let asked = c.args.asked.now in
    let one = c.in_ok-answer.answer in
    let two = c.in_ok-answer-2.answer in
    let three = c.in_ok-answer-3.answer in
    let none : is_none one ≡ true = search rules in
    let none' : is_none two ≡ true = search rules in
    let some : is_none three ≡ false = search rules in
    let slots = c.args.levels.now.slots.items in
    let is0 = c.of-sought.ensures in
    let custom = subst (λ (s : Sought). OverChain slots c.args.place s.text (λ chain. match_map (sited_of s.text) one
    ≡ nearest_sited Custom (asked_in s.text (down_to 0 chain)) s.is_dir)) is0 c.in_ok-answer.ensures.answered chain is after
    ∙ ap (λ (l : List Placed). nearest_sited Custom (asked_in asked.text.now l) asked.is_dir) (down_to-all chain) in
    let is1 = c.in_ok-answer.ensures.same ∙ is0 in
    let ignore = subst (λ (s : Sought). OverChain slots c.args.place s.text (λ chain. match_map (sited_of s.text) two
    ≡ nearest_sited Ignore (asked_in s.text (down_to 0 chain)) s.is_dir)) is1 c.in_ok-answer-2.ensures.answered chain is after
    ∙ ap (λ (l : List Placed). nearest_sited Ignore (asked_in asked.text.now l) asked.is_dir) (down_to-all chain) in
    let is2 = c.in_ok-answer-2.ensures.same ∙ is1 in
    let git = subst (λ (s : Sought). OverChain slots c.args.place s.text (λ chain. match_map (sited_of s.text) three
    ≡ git_ranks_sited c.args.settings.now c.args.outside.now.global (asked_in s.text chain) (trim_of s.path.now) s.is_dir)) is2
    c.in_ok-answer-3.ensures.answered chain is after in
    decides (sited_of asked.text.now) three _ _ git some
    ∙ (sym (passes (sited_of asked.text.now) two _ _ ignore none') ∙ sym (passes (sited_of asked.text.now) one _ _ custom none))

pub returns-clause-answered : goal.returns-clause-answered
returns-clause-answered c = λ chain is after.
    let asked = c.args.asked.now in
    let one = c.in_ok-answer.answer in
    let two = c.in_ok-answer-2.answer in
    let three = c.in_ok-answer-3.answer in
    let none : is_none one ≡ true = search rules in
    let none' : is_none two ≡ true = search rules in
    let none'' : is_none three ≡ true = search rules in
    let slots = c.args.levels.now.slots.items in
    let is0 = c.of-sought.ensures in
    let custom = subst (λ (s : Sought). OverChain slots c.args.place s.text (λ chain. match_map (sited_of s.text) one
    ≡ nearest_sited Custom (asked_in s.text (down_to 0 chain)) s.is_dir)) is0 c.in_ok-answer.ensures.answered chain is after
    ∙ ap (λ (l : List Placed). nearest_sited Custom (asked_in asked.text.now l) asked.is_dir) (down_to-all chain) in
    let is1 = c.in_ok-answer.ensures.same ∙ is0 in
    let ignore = subst (λ (s : Sought). OverChain slots c.args.place s.text (λ chain. match_map (sited_of s.text) two
    ≡ nearest_sited Ignore (asked_in s.text (down_to 0 chain)) s.is_dir)) is1 c.in_ok-answer-2.ensures.answered chain is after
    ∙ ap (λ (l : List Placed). nearest_sited Ignore (asked_in asked.text.now l) asked.is_dir) (down_to-all chain) in
    let is2 = c.in_ok-answer-2.ensures.same ∙ is1 in
    let git = subst (λ (s : Sought). OverChain slots c.args.place s.text (λ chain. match_map (sited_of s.text) three
    ≡ git_ranks_sited c.args.settings.now c.args.outside.now.global (asked_in s.text chain) (trim_of s.path.now) s.is_dir)) is2
    c.in_ok-answer-3.ensures.answered chain is after in
    c.ruled_by.ensures.ruled asked.text.now
    ∙ (at_site in_explicit c.in_ok-answer-4.answer _ (c.in_ok-answer-4.ensures.answered
    ∙ (ap (λ p. explicit_answer c.as_slice-explicit.result.now p asked.is_dir) c.trim_root.ensures
    ∙ ap (λ (files : List Ruleset). explicit_answer files (trim_of asked.path.now) asked.is_dir) c.as_slice-explicit.ensures))
    ∙ (sym (passes (sited_of asked.text.now) three _ _ git none'')
    ∙ (sym (passes (sited_of asked.text.now) two _ _ ignore none') ∙ sym (passes (sited_of asked.text.now) one _ _ custom none))))

pub returns-then-not-is_none-clause-inside : goal.returns-then-not-is_none-clause-inside
returns-then-not-is_none-clause-inside c =
    subst (λ (s : Sought). IsRulingInside s.text c.in_ok-answer.answer) c.of-sought.ensures c.in_ok-answer.ensures.inside

pub returns-then-not-is_none-2-clause-inside : goal.returns-then-not-is_none-2-clause-inside
returns-then-not-is_none-2-clause-inside c =
    subst (λ (s : Sought). IsRulingInside s.text c.in_ok-answer-2.answer) (c.in_ok-answer.ensures.same ∙ c.of-sought.ensures)
    c.in_ok-answer-2.ensures.inside

pub returns-then-not-is_none-3-clause-inside : goal.returns-then-not-is_none-3-clause-inside
returns-then-not-is_none-3-clause-inside c =
    subst (λ (s : Sought). IsRulingInside s.text c.in_ok-answer-3.answer)
    (c.in_ok-answer-2.ensures.same ∙ (c.in_ok-answer.ensures.same ∙ c.of-sought.ensures)) c.in_ok-answer-3.ensures.inside

pub returns-clause-inside : goal.returns-clause-inside
returns-clause-inside c = c.ruled_by.ensures.inside c.args.asked.now.text.now tt
