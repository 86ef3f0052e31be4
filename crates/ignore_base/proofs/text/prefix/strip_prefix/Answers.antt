use Rattle.std.proofs.Common.{◌++◌, Some, None, cond, sym, ap, ◌∙◌}
use Rattle.std.specs.Option.{option_copied}
use Rattle.ignore_base.proofs.PathLemmas.{strip_prefix_of-none, strip_prefix_of-at}
use Rattle.ignore_base.proofs.text.prefix.strip_prefix.Goals as goal

pub returns-in_err-rest : goal.returns-in_err-rest
returns-in_err-rest c =
    ap option_copied c.from_residual.ensures ∙ sym (strip_prefix_of-none c.args.prefix.now c.args.path.now c.in_err-rest.ensures.cases)

pub returns-then-at_bound : goal.returns-then-at_bound
returns-then-at_bound c =
    let prefix = c.args.prefix.now in
    let found = c.in_ok-rest.ensures.cases in
    let at = found.1.1 ∙ ap (λ r. prefix ++ r) (sym found.2) in
    sym (strip_prefix_of-at prefix c.args.path.now c.in_ok-rest.rest.now at
    ∙ ap (λ b. cond b (Some c.in_ok-rest.rest.now) None) (sym c.at_bound.ensures ∙ c.if-at_bound.true))

pub returns-else-at_bound : goal.returns-else-at_bound
returns-else-at_bound c =
    let prefix = c.args.prefix.now in
    let found = c.in_ok-rest.ensures.cases in
    let at = found.1.1 ∙ ap (λ r. prefix ++ r) (sym found.2) in
    sym (strip_prefix_of-at prefix c.args.path.now c.in_ok-rest.rest.now at
    ∙ ap (λ b. cond b (Some c.in_ok-rest.rest.now) None) (sym c.at_bound.ensures ∙ c.if-at_bound.false))
