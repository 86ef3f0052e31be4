use Rattle.std.proofs.Common.{◌≡◌, IfOk, cond, true, map, refl, sym, ap, ◌∙◌, subst}
use Rattle.ignore_base.specs.Problem.{problem_of}
use Rattle.ignore_base.specs.Match.{match_map}
use Rattle.ignore_dir.specs.Limits.{size_limit}
use Rattle.ignore_dir.specs.Query.{names_of, size_of}
use Rattle.ignore_dir.specs.Verdict.{verdict_of}
use Rattle.ignore_why.specs.Cited.{cited_of}
use Rattle.ignore_why.specs.QueryWhy.{QueryWhy, path_cited, query_why_of}
use Rattle.ignore_why.specs.QueryWhy.QueryWhy.{too_deep, too_shallow}
use Rattle.ignore_dir.specs.Chains.{slashed}
use Rattle.ignore_query.specs.declared.kept.Kept.TheVariants.{Ignored}
use Rattle.ignore_query.specs.Reached.{scene_of}
use Rattle.ignore_query.specs.Listed.{kept_at}
use Rattle.ignore_query.specs.Stands.{IsSized, IsStand, larger_by}
use Rattle.ignore_query.proofs.ReadLemmas.{always, at_place, at_sizes, inside_named, inside_sizes, inside_why, ruled_by, why_larger, why_not}
use Rattle.ignore_query.proofs.WhyLemmas.{said_rules, why_far, why_open, why_ruled, why_unasked, why_unruled}
use Rattle.ignore_query.proofs.kept.Cache.reason.Goals as goal

pub returns-in-Unasked-clause-why : goal.returns-in-Unasked-clause-why
returns-in-Unasked-clause-why g c = λ tree loads w.
    let call = c.args.call.now in
    let a = call.asked.now in
    let path = call.path.now in
    let s = scene_of a tree loads in
    let h = subst (IsStand a c.args.self.now path call.is_dir) c.in-Unasked.is w.stands in
    why_unasked s path call.is_dir h

pub returns-in-Beyond-clause-why : goal.returns-in-Beyond-clause-why
returns-in-Beyond-clause-why g c = λ tree loads w.
    let call = c.args.call.now in
    let a = call.asked.now in
    let path = call.path.now in
    let s = scene_of a tree loads in
    let h = subst (IsStand a c.args.self.now path call.is_dir) c.in-Beyond.is w.stands in
    c.beyond_by.ensures ∙ (ap (λ b. cond b too_deep too_shallow) (c.depth_for.ensures.beyond true) ∙ why_far s path call.is_dir h.0 h.1)

pub returns-in-Beyond-clause-beyond : goal.returns-in-Beyond-clause-beyond
returns-in-Beyond-clause-beyond g c = λ is. (refl, c.beyond_by.ensures ∙ ap (λ b. cond b too_deep too_shallow) (c.depth_for.ensures.beyond true))

pub returns-in-Unruled-clause-why : goal.returns-in-Unruled-clause-why
returns-in-Unruled-clause-why g c = λ tree loads w.
    let call = c.args.call.now in
    let a = call.asked.now in
    let path = call.path.now in
    let s = scene_of a tree loads in
    let h = subst (IsStand a c.args.self.now path call.is_dir) c.in-Unruled.is w.stands in
    why_unruled s path call.is_dir h.asked h.within (w.unruled c.in-Unruled.is)

pub returns-in-Inside-clause-why : goal.returns-in-Inside-clause-why
returns-in-Inside-clause-why g c = λ tree loads w.
    let call = c.args.call.now in
    let a = call.asked.now in
    let path = call.path.now in
    let s = scene_of a tree loads in
    let h = subst (IsStand a c.args.self.now path call.is_dir) c.in-Inside.is w.stands in
    let r = ruled_by a tree loads c.args.self.now path h.1.1.front Ignored w.agrees h.1.0 h.1.1.kept in
    let n = inside_named a tree loads c.args.self.now path _ w.agrees r h.1.1 in
    subst (λ (t : QueryWhy). IfOk c.inside.result (λ x. query_why_of x ≡ t))
    (inside_why a tree loads c.args.self.now path _ call.is_dir w.agrees r h.1.1 n ∙ why_ruled s path call.is_dir h.0.asked h.0.within r.ruled)
    (c.inside.ensures.value tree loads n.0 n.1 w.agrees n.3 (ap (kept_at c.args.self.now) (sym n.2) ∙ h.1.1.kept) (h.1.1.key ∙ ap slashed n.2))

pub returns-in-Inside-clause-problems : goal.returns-in-Inside-clause-problems
returns-in-Inside-clause-problems g c = λ tree loads w.
    let call = c.args.call.now in
    let a = call.asked.now in
    let path = call.path.now in
    let h = subst (IsStand a c.args.self.now path call.is_dir) c.in-Inside.is w.stands in
    always c.inside.result (inside_sizes a tree loads c.args.self.now path _ call.is_dir (map problem_of c.args.errors.now.items) w.agrees
    (ruled_by a tree loads c.args.self.now path h.1.1.front Ignored w.agrees h.1.0 h.1.1.kept) h.1.1)

pub returns-in-Some-clause-why : goal.returns-in-Some-clause-why
returns-in-Some-clause-why g c = λ tree loads w.
    let call = c.args.call.now in
    let a = call.asked.now in
    let path = call.path.now in
    let s = scene_of a tree loads in
    let said = c.in_ok-said-in-At.said in
    let both = at_place g.F.Files call tree loads c.args.self.now _ c.in-At.place (verdict_of said)
    (λ l. match_map cited_of said ≡ path_cited s l call.is_dir) w c.in-At.is (c.in_ok-said-in-At.ensures.value tree loads)
    (λ is opened. said_rules s (names_of path) call.is_dir cited_of said is opened) in
    let at = both.0 in
    let sized = subst (λ x. IsSized g.F.Files call.files.now tree (size_limit a.settings call.is_dir x)) (sym c.verdict_of.ensures.value) at.sized in
    let by = ap (λ x. larger_by (size_limit a.settings call.is_dir x) (size_of s path)) (sym c.verdict_of.ensures.value)
    ∙ (sym (c.in_ok-size-in-At.ensures.value tree sized) ∙ c.in-Some.is) in
    why_larger (size_limit a.settings call.is_dir (verdict_of said)) (size_of s path) (match_map cited_of said) c.in-Some.size c.in-Some.limit by
    ∙ (why_open s path (names_of path) call.is_dir cited_of said both.1 refl at.opened
    ∙ why_ruled s path call.is_dir at.within.asked at.within.within at.ruled.ruled)

pub returns-in-Some-clause-problems : goal.returns-in-Some-clause-problems
returns-in-Some-clause-problems g c = λ tree loads w.
    let call = c.args.call.now in
    let a = call.asked.now in
    let path = call.path.now in
    let s = scene_of a tree loads in
    let said = c.in_ok-said-in-At.said in
    let both = at_place g.F.Files call tree loads c.args.self.now _ c.in-At.place (verdict_of said)
    (λ l. match_map cited_of said ≡ path_cited s l call.is_dir) w c.in-At.is (c.in_ok-said-in-At.ensures.value tree loads)
    (λ is opened. said_rules s (names_of path) call.is_dir cited_of said is opened) in
    let at = both.0 in
    let sized = subst (λ x. IsSized g.F.Files call.files.now tree (size_limit a.settings call.is_dir x)) (sym c.verdict_of.ensures.value) at.sized in
    c.in_ok-size-in-At.ensures.problem tree sized
    ∙ at_sizes a tree loads path call.is_dir c.verdict_of.result (map problem_of c.args.errors.now.items) at.within at.ruled
    (c.verdict_of.ensures.value ∙ at.said)

pub returns-in-None-clause-why : goal.returns-in-None-clause-why
returns-in-None-clause-why g c = λ tree loads w.
    let call = c.args.call.now in
    let a = call.asked.now in
    let path = call.path.now in
    let s = scene_of a tree loads in
    let said = c.in_ok-said-in-At.said in
    let both = at_place g.F.Files call tree loads c.args.self.now _ c.in-At.place (verdict_of said)
    (λ l. match_map cited_of said ≡ path_cited s l call.is_dir) w c.in-At.is (c.in_ok-said-in-At.ensures.value tree loads)
    (λ is opened. said_rules s (names_of path) call.is_dir cited_of said is opened) in
    let at = both.0 in
    let sized = subst (λ x. IsSized g.F.Files call.files.now tree (size_limit a.settings call.is_dir x)) (sym c.verdict_of.ensures.value) at.sized in
    let by = ap (λ x. larger_by (size_limit a.settings call.is_dir x) (size_of s path)) (sym c.verdict_of.ensures.value)
    ∙ (sym (c.in_ok-size-in-At.ensures.value tree sized) ∙ c.in-None.is) in
    why_not (size_limit a.settings call.is_dir (verdict_of said)) (size_of s path) (match_map cited_of said) by
    ∙ (why_open s path (names_of path) call.is_dir cited_of said both.1 refl at.opened
    ∙ why_ruled s path call.is_dir at.within.asked at.within.within at.ruled.ruled)

pub returns-in-None-clause-problems : goal.returns-in-None-clause-problems
returns-in-None-clause-problems g c = λ tree loads w.
    let call = c.args.call.now in
    let a = call.asked.now in
    let path = call.path.now in
    let s = scene_of a tree loads in
    let said = c.in_ok-said-in-At.said in
    let both = at_place g.F.Files call tree loads c.args.self.now _ c.in-At.place (verdict_of said)
    (λ l. match_map cited_of said ≡ path_cited s l call.is_dir) w c.in-At.is (c.in_ok-said-in-At.ensures.value tree loads)
    (λ is opened. said_rules s (names_of path) call.is_dir cited_of said is opened) in
    let at = both.0 in
    let sized = subst (λ x. IsSized g.F.Files call.files.now tree (size_limit a.settings call.is_dir x)) (sym c.verdict_of.ensures.value) at.sized in
    c.in_ok-size-in-At.ensures.problem tree sized
    ∙ at_sizes a tree loads path call.is_dir c.verdict_of.result (map problem_of c.args.errors.now.items) at.within at.ruled
    (c.verdict_of.ensures.value ∙ at.said)
