use Rattle.std.proofs.Common.{[], ◌∷◌, map, Some, sym, ap, ◌∙◌, subst}
use Rattle.std.proofs.lemmas.List.{map-append}
use Rattle.ignore_base.specs.Problem.{problem_of}
use Rattle.ignore_dir.specs.Soft.{AllSoft, holds_memory}
use Rattle.ignore_dir.proofs.SoftLemmas.{more_soft}
use Rattle.ignore_query.proofs.size.larger.Goals as goal

pub returns-clause-soft : goal.returns-clause-soft
returns-clause-soft g c = λ soft.
    let old = c.args.errors.now.items in
    let error = c.in_ok-fault_at-in-Err.field-0 in
    subst AllSoft (sym (ap (map problem_of) c.in_ok-push-in-Err.ensures.items ∙ map-append problem_of old (error ∷ [])))
    (more_soft (map problem_of old) (Some (problem_of error)) soft (ap holds_memory c.in_ok-fault_at-in-Err.ensures))
