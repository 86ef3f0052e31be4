use Rattle.std.proofs.Common.{◌+◌, ◌++◌, ◌∙◌, ℕ, List, false, length, map, string_bytes, drop, sym, subst}
use Rattle.std.proofs.lemmas.Bool.{eqb-false}
use Rattle.ignore_glob.specs.Matches.{tokens_match}
use Rattle.ignore_glob.specs.Needles.{utf8, BeginsWith}
use Rattle.ignore_glob.specs.View.{branches_view, tokens_view}
use Rattle.ignore_glob.proofs.NeedleLemmas.{Spelt, spelt_more, spelt_all, filled, branch_place, no_branches, pushed_text}
use Rattle.ignore_glob.proofs.glob.needle.by_branches.Goals as goal

pub loop-branch-preserved : goal.loop-branch-preserved
loop-branch-preserved c =
    let all = branches_view c.args.branches.now in
    let i = c.loop-branch.branch-index in
    let rest = branches_view (drop (i + 1) c.args.branches.now) in
    let b = c.branch-item.result in
    let text = string_bytes c.in_ok-spelled.field-0 in
    let texts = map string_bytes c.loop-branch.texts.items in
    let here = subst (λ bs. Spelt all bs c.args.run.now texts)
    (branch_place c.args.branches.now i b c.loop-branch-test.true c.branch-item.is) c.loop-branch.invariant in
    subst (λ l. Spelt all rest c.args.run.now l) (sym
    (pushed_text c.loop-branch.texts.items c.push.new.self.items c.in_ok-spelled.field-0 c.in_ok-push.ensures.items))
    (spelt_more all rest (tokens_view b.items) c.args.run.now text texts
    (subst (λ ts. (w : List ℕ) → tokens_match false (tokens_view ts) w
    → BeginsWith text (c.args.run.now ++ utf8 w)) c.deref.ensures.value c.in_ok-spelled.ensures) here)

pub returns : goal.returns
returns c =
    let all = branches_view c.args.branches.now in
    let texts = map string_bytes c.loop-branch.texts.items in
    spelt_all all c.args.run.now texts (filled c.args.branches.now
    (eqb-false (length c.args.branches.now) 0 (sym c.is_empty.ensures ∙ c.if-is_empty.false)))
    (subst (λ bs. Spelt all bs c.args.run.now texts)
    (no_branches c.args.branches.now c.loop-branch.branch-index c.loop-branch-test.false) c.loop-branch.invariant)
