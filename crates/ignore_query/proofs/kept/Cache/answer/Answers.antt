use Rattle.std.proofs.Common.{◌≡◌, map, sym, ap, ◌∙◌, subst}
use Rattle.ignore_base.specs.Problem.{problem_of}
use Rattle.ignore_dir.specs.Limits.{is_below}
use Rattle.ignore_dir.specs.Query.{depth_of_path}
use Rattle.ignore_dir.specs.Scene.{path_verdict}
use Rattle.ignore_why.specs.QueryWhy.{answer_of}
use Rattle.ignore_why.proofs.QueryWhyLemmas.{answers-by_reason}
use Rattle.ignore_query.specs.declared.kept.Kept.TheVariants.{Ignored}
use Rattle.ignore_query.proofs.KnownLemmas.{open_verdict}
use Rattle.ignore_query.specs.Reached.{scene_of}
use Rattle.ignore_query.specs.Stands.{IsStand}
use Rattle.ignore_query.proofs.ReadLemmas.{at_ignored, at_kept, at_place, at_sizes, inside_answer, inside_sizes, ruled_by}
use Rattle.ignore_query.proofs.WhyLemmas.{far_beyond, why_far, why_unasked, why_unruled}
use Rattle.ignore_query.proofs.kept.Cache.answer.Goals as goal

pub returns-in-Unasked-clause-value : goal.returns-in-Unasked-clause-value
returns-in-Unasked-clause-value g c = λ tree loads w.
    let call = c.args.call.now in
    let a = call.asked.now in
    let path = call.path.now in
    let s = scene_of a tree loads in
    let h = subst (IsStand a c.args.self.now path call.is_dir) c.in-Unasked.is w.stands in
    c.no_match.ensures ∙ (ap (answer_of a.settings (depth_of_path path) call.is_dir) (why_unasked s path call.is_dir h) ∙ sym (answers-by_reason s path call.is_dir))

pub returns-in-Beyond-clause-value : goal.returns-in-Beyond-clause-value
returns-in-Beyond-clause-value g c = λ tree loads w.
    let call = c.args.call.now in
    let a = call.asked.now in
    let path = call.path.now in
    let s = scene_of a tree loads in
    let h = subst (IsStand a c.args.self.now path call.is_dir) c.in-Beyond.is w.stands in
    c.beyond.ensures
    ∙ (sym (far_beyond a.settings (depth_of_path path) call.is_dir (is_below a.settings.max_depth (depth_of_path path)))
    ∙ (ap (answer_of a.settings (depth_of_path path) call.is_dir) (why_far s path call.is_dir h.0 h.1) ∙ sym (answers-by_reason s path call.is_dir)))

pub returns-in-Unruled-clause-value : goal.returns-in-Unruled-clause-value
returns-in-Unruled-clause-value g c = λ tree loads w.
    let call = c.args.call.now in
    let a = call.asked.now in
    let path = call.path.now in
    let s = scene_of a tree loads in
    let h = subst (IsStand a c.args.self.now path call.is_dir) c.in-Unruled.is w.stands in
    c.limited.ensures ∙ (ap (answer_of a.settings (depth_of_path path) call.is_dir) (why_unruled s path call.is_dir h.asked h.within (w.unruled c.in-Unruled.is)) ∙ sym (answers-by_reason s path call.is_dir))

pub returns-in-Inside-clause-value : goal.returns-in-Inside-clause-value
returns-in-Inside-clause-value g c = λ tree loads w.
    let call = c.args.call.now in
    let a = call.asked.now in
    let path = call.path.now in
    let s = scene_of a tree loads in
    let h = subst (IsStand a c.args.self.now path call.is_dir) c.in-Inside.is w.stands in
    c.limited-in-Inside.ensures
    ∙ inside_answer a tree loads c.args.self.now path _ call.is_dir w.agrees h.0
    (ruled_by a tree loads c.args.self.now path h.1.1.front Ignored w.agrees h.1.0 h.1.1.kept) h.1.1

pub returns-in-Inside-clause-problems : goal.returns-in-Inside-clause-problems
returns-in-Inside-clause-problems g c = λ tree loads w.
    let call = c.args.call.now in
    let a = call.asked.now in
    let path = call.path.now in
    let h = subst (IsStand a c.args.self.now path call.is_dir) c.in-Inside.is w.stands in
    inside_sizes a tree loads c.args.self.now path _ call.is_dir (map problem_of c.args.errors.now.items) w.agrees
    (ruled_by a tree loads c.args.self.now path h.1.1.front Ignored w.agrees h.1.0 h.1.1.kept) h.1.1

pub returns-in-Some-clause-value : goal.returns-in-Some-clause-value
returns-in-Some-clause-value g c = λ tree loads w.
    let call = c.args.call.now in
    let a = call.asked.now in
    let path = call.path.now in
    let s = scene_of a tree loads in
    let at = (at_place g.F.Files call tree loads c.args.self.now _ c.in-At.place c.in_ok-verdict-in-At.verdict
    (λ l. c.in_ok-verdict-in-At.verdict ≡ path_verdict s l call.is_dir) w c.in-At.is (c.in_ok-verdict-in-At.ensures.value tree loads)
    (λ said opened. said ∙ open_verdict s _ call.is_dir opened)).0 in
    c.limited-in-Some.ensures
    ∙ at_ignored a tree loads path call.is_dir c.in_ok-verdict-in-At.verdict _ at.within at.ruled at.said
    (sym (c.in_ok-larger-in-At.ensures.value tree at.sized) ∙ c.in-Some.is)

pub returns-in-Some-clause-problems : goal.returns-in-Some-clause-problems
returns-in-Some-clause-problems g c = λ tree loads w.
    let call = c.args.call.now in
    let a = call.asked.now in
    let path = call.path.now in
    let s = scene_of a tree loads in
    let at = (at_place g.F.Files call tree loads c.args.self.now _ c.in-At.place c.in_ok-verdict-in-At.verdict
    (λ l. c.in_ok-verdict-in-At.verdict ≡ path_verdict s l call.is_dir) w c.in-At.is (c.in_ok-verdict-in-At.ensures.value tree loads)
    (λ said opened. said ∙ open_verdict s _ call.is_dir opened)).0 in
    c.in_ok-larger-in-At.ensures.problem tree at.sized
    ∙ at_sizes a tree loads path call.is_dir c.in_ok-verdict-in-At.verdict (map problem_of c.args.errors.now.items) at.within at.ruled at.said

pub returns-in-None-clause-value : goal.returns-in-None-clause-value
returns-in-None-clause-value g c = λ tree loads w.
    let call = c.args.call.now in
    let a = call.asked.now in
    let path = call.path.now in
    let s = scene_of a tree loads in
    let at = (at_place g.F.Files call tree loads c.args.self.now _ c.in-At.place c.in_ok-verdict-in-At.verdict
    (λ l. c.in_ok-verdict-in-At.verdict ≡ path_verdict s l call.is_dir) w c.in-At.is (c.in_ok-verdict-in-At.ensures.value tree loads)
    (λ said opened. said ∙ open_verdict s _ call.is_dir opened)).0 in
    c.limited-in-None.ensures
    ∙ at_kept a tree loads path call.is_dir c.in_ok-verdict-in-At.verdict at.within at.ruled at.said
    (sym (c.in_ok-larger-in-At.ensures.value tree at.sized) ∙ c.in-None.is)

pub returns-in-None-clause-problems : goal.returns-in-None-clause-problems
returns-in-None-clause-problems g c = λ tree loads w.
    let call = c.args.call.now in
    let a = call.asked.now in
    let path = call.path.now in
    let s = scene_of a tree loads in
    let at = (at_place g.F.Files call tree loads c.args.self.now _ c.in-At.place c.in_ok-verdict-in-At.verdict
    (λ l. c.in_ok-verdict-in-At.verdict ≡ path_verdict s l call.is_dir) w c.in-At.is (c.in_ok-verdict-in-At.ensures.value tree loads)
    (λ said opened. said ∙ open_verdict s _ call.is_dir opened)).0 in
    c.in_ok-larger-in-At.ensures.problem tree at.sized
    ∙ at_sizes a tree loads path call.is_dir c.in_ok-verdict-in-At.verdict (map problem_of c.args.errors.now.items) at.within at.ruled at.said
