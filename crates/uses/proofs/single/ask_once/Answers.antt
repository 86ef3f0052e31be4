use Rattle.std.proofs.Common.{◌∙◌}
use Rattle.std.proofs.lemmas.Result.{IfOk-weaker}
use Rattle.ignore.specs.WalkWords.{scene_of}
use Rattle.uses.proofs.QueryLemmas.{found}
use Rattle.uses.proofs.single.ask_once.Goals as goal

pub returns-clause-value : goal.returns-clause-value
returns-clause-value g c = λ tree honest.
    let m = c.in_ok-matcher.matcher in
    let path = c.args.path.now in
    let empty = c.in_ok-matcher.ensures.empty in
    let asked = c.matched_with_errors.ensures in
    found tree c.args.env.now c.args.root.now path c.args.is_dir m c.matched_with_errors.result
    (c.in_ok-matcher.ensures.asked tree honest)
    (λ loads are. asked.value tree loads honest are (c.nothing_kept.ensures.agrees (scene_of m.asked tree loads) m.cache empty))
    (λ loads are. let at = scene_of m.asked tree loads in
    IfOk-weaker c.matched_with_errors.result _ _ (λ x h. h ∙ c.nothing_kept.ensures.reports at m.cache path c.args.is_dir empty)
    (asked.reports tree loads honest are (c.nothing_kept.ensures.agrees at m.cache empty)))
