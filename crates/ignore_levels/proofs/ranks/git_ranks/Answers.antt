use Rattle.std.proofs.Common.{◌≡◌, ◌||◌, not, is_some, cond, Bool, List, sym, ap, ◌∙◌, subst, IfOk}
use Rattle.ignore_base.specs.Match.{match_map}
use Rattle.ignore_base.specs.Paths.{trim_of}
use Rattle.ignore_base.specs.declared.match_result.Match.{Match}
use Rattle.ignore_base.specs.declared.match_result.Match.TheVariants.{None}
use Rattle.ignore_dir.specs.Lists.{Asked, asked_in}
use Rattle.ignore_dir.specs.Ranks.{cut}
use Rattle.ignore_levels.specs.Reasons.{down_to, sited_of}
use Rattle.ignore_levels.specs.Sites.{Sited, git_sited}
use Rattle.ignore_levels.specs.Levels.{floor_at}
use Rattle.ignore_levels.proofs.ChainLemmas.{chain-descends, chain-floor, chain-has_mark}
use Rattle.ignore_levels.proofs.FloorLemmas.{cut-is}
use Rattle.ignore_levels.proofs.ranks.git_ranks.Goals as goal

pub returns-then-not-has_git-clause-answered : goal.returns-then-not-has_git-clause-answered
returns-then-not-has_git-clause-answered c = λ chain is after.
    let require = c.args.settings.now.require_git in
    let slots = c.args.levels.now.slots.items in
    let text = c.args.sought.now.text in
    let has = c.has_git.ensures
    ∙ (ap (λ o. not require || is_some o) c.mark-mark.ensures ∙ ap (λ (b : Bool). not require || b) (chain-has_mark slots text is)) in
    let all = git_sited c.args.global.now (cut (asked_in text chain)) (trim_of c.args.sought.now.path.now) c.args.sought.now.is_dir in
    sym (ap (λ (b : Bool). cond b all None) (sym has ∙ c.if-not-has_git.true))

pub returns-clause-answered : goal.returns-clause-answered
returns-clause-answered c = λ chain is after.
    let require = c.args.settings.now.require_git in
    let global = c.args.global.now in
    let text = c.args.sought.now.text in
    let path = trim_of c.args.sought.now.path.now in
    let is_dir = c.args.sought.now.is_dir in
    let slots = c.args.levels.now.slots.items in
    let has = c.has_git.ensures
    ∙ (ap (λ o. not require || is_some o) c.mark-mark.ensures ∙ ap (λ (b : Bool). not require || b) (chain-has_mark slots text is)) in
    let floor = c.floor-floor.ensures ∙ (ap (λ p. floor_at slots p) c.mark-mark.ensures ∙ chain-floor slots is) in
    let reached = ap (λ n. asked_in text (down_to n chain)) floor ∙ sym (cut-is text chain (chain-descends is)) in
    let all = git_sited global (cut (asked_in text chain)) path is_dir in
    subst (λ (m : Match Sited). IfOk c.git_answer.result (λ r. match_map (sited_of text) r ≡ m))
    (ap (λ (asked : List Asked). git_sited global asked path is_dir) reached
    ∙ sym (ap (λ (b : Bool). cond b all None) (sym has ∙ c.if-not-has_git.false)))
    (c.git_answer.ensures.answered chain is after)
