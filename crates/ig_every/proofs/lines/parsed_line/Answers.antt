use Rattle.std.proofs.Common.{ap, slice_get, subst, sym, ◌∙◌}
use Rattle.std.proofs.lemmas.Result.{IfOk-weaker}
use Rattle.ignore_base.specs.Problem.{problem_of}
use Rattle.ignore_rules.specs.Rules.{Ruleset}
use Rattle.ig_every.specs.Lines.{IsInvalid, original_in}
use Rattle.ig_every.proofs.LineLemmas.{first_is, refused_is}
use Rattle.ig_every.proofs.lines.parsed_line.Goals as goal

-- it adds its rule, or none
pub returns-in-Ok : goal.returns-in-Ok
returns-in-Ok c =
    let h = c.in-Ok.ensures.added in
    IfOk-weaker c.valid_line.result _ _
    (λ p q. (
      q.0 ∙ (ap (λ (g : Ruleset). original_in (slice_get g.rules 0)) h.2 ∙ first_is c.args.how c.args.content.now h.0 h.1),
      subst (IsInvalid c.args.how c.args.content.now) (sym q.1) (h.0, h.1),
    )) c.valid_line.ensures

-- its glob is invalid
pub returns-in-Err : goal.returns-in-Err
returns-in-Err c =
    IfOk-weaker c.invalid_line.result _ _
    (λ p q. refused_is c.args.how c.args.content.now (problem_of c.in-Err.error) p.rule q.0 p.why q.1 q.2 c.in-Err.ensures.refused) c.invalid_line.ensures
