use Rattle.std.proofs.Common.{ap, sym, ◌∙◌}
use Rattle.std.proofs.lemmas.Result.{IfOk-weaker}
use Rattle.ignore_base.specs.Problem.{problem_of}
use Rattle.ignore_walk.specs.GoesOn.{is_fatal}
use Rattle.ignore_walk.proofs.NoEndLemmas.{no_end_by}
use Rattle.ignore_walk.proofs.stack.below_limit.Goals as goal

pub returns-then-is_limit-clause-same : goal.returns-then-is_limit-clause-same
returns-then-is_limit-clause-same c = λ no. absurd (let e = sym no ∙ (sym c.is_limit.ensures ∙ c.if-is_limit.true) in cc (e))

pub returns-then-is_limit-clause-no_end : goal.returns-then-is_limit-clause-no_end
returns-then-is_limit-clause-no_end c = λ soft. IfOk-weaker c.fault_at.result _ _ (λ e is. ap is_fatal is) c.fault_at.ensures

pub returns-clause-no_end : goal.returns-clause-no_end
returns-clause-no_end c = λ soft. no_end_by (problem_of c.args.error) soft (sym c.is_limit.ensures ∙ c.if-is_limit.false)
