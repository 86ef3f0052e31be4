use Rattle.std.proofs.Common.{◌∙◌, ap, subst}
use Rattle.std.proofs.lemmas.Result.{IfOk-weaker}
use Rattle.ignore_rules.specs.Rules.{Building, with_case_insensitive}
use Rattle.ig_options.specs.Globs.{AddsGlobs}
use Rattle.ig_options.proofs.globs.globs_of.Goals as goal

pub returns-clause-value : goal.returns-clause-value
returns-clause-value c =
    let o = c.args.options.now in
    let plain = c.push_globs.new.builder in
    let all = c.push_globs-2.new.builder in
    let first = subst (λ (b : Building). AddsGlobs o.globs b plain)
    (c.in_ok-plain.ensures.value ∙ ap (λ (b : Building). with_case_insensitive b o.glob_case_insensitive) c.in_ok-builder.ensures.value)
    c.in_ok-push_globs.ensures.added in
    let second = subst (λ (b : Building). AddsGlobs o.iglobs b all) c.in_ok-both.ensures.value
    c.in_ok-push_globs-2.ensures.added in
    IfOk-weaker c.build.result _ _ (λ rules made. (plain, all, first, second, made)) c.build.ensures.value
