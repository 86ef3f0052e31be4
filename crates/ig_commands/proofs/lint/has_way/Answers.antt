use Rattle.std.proofs.Common.{List, subst}
use Rattle.std.proofs.lemmas.Result.{IfOk-weaker}
use Rattle.ignore_base.specs.Text.{Path}
use Rattle.ig_commands.specs.Lint.{HasOther}
use Rattle.ig_commands.proofs.LintLemmas.{other_left, other_right}
use Rattle.ig_commands.proofs.lint.has_way.Goals as goal

-- one that lies elsewhere, or is given
pub returns-then-branch : goal.returns-then-branch
returns-then-branch g c = λ yes.
    let sources = c.args.all.now.sources.now in
    other_left sources.outside.items sources.below.items c.args.path.now
    (subst (λ (fs : List Path). HasOther fs c.args.path.now) c.deref.ensures.value (c.in_ok-is_reincluded.ensures c.if-branch.true))

-- one that was met
pub returns : goal.returns
returns g c =
    let sources = c.args.all.now.sources.now in
    IfOk-weaker c.is_reincluded-2.result _ _
    (λ found h yes. other_right sources.outside.items sources.below.items c.args.path.now
    (subst (λ (fs : List Path). HasOther fs c.args.path.now) c.deref-2.ensures.value (h yes))) c.is_reincluded-2.ensures
