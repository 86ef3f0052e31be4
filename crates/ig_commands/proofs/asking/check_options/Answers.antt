use Rattle.std.proofs.Common.{inl, inr}
use Rattle.std.proofs.lemmas.Result.{IfErr-weaker, err_from_is_err_and}
use Rattle.ig_commands.proofs.asking.check_options.Goals as goal

-- a glob is rejected
pub returns-in_err-check_globs : goal.returns-in_err-check_globs
returns-in_err-check_globs c =
    let p = err_from_is_err_and c.from_residual.result c.from_residual.ensures.1 in
    record { refused = rw (p.1, p.2) (elim c.in_err-check_globs.ensures.refused [ inl m ↦ inl m | inr r ↦ inr (inl r) ]) }

-- a type is
pub returns : goal.returns
returns c =
    record {
      refused = IfErr-weaker c.check_types.result _ _ (λ e h. elim h [ inl m ↦ inl m | inr r ↦ inr (inr r) ]) c.check_types.ensures.refused;
    }
