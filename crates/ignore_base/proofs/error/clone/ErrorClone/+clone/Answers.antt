use Rattle.std.proofs.Common.{map, ap, sym, ◌∙◌}
use Rattle.std.proofs.lemmas.List.{take_all}
use Rattle.ignore_base.specs.Problem.{problem_of, several, problems_of}
use Rattle.ignore_base.proofs.Texts.{problem_of-Partial}
use Rattle.ignore_base.proofs.error.clone.ErrorClone.+clone.Goals as goal

pub returns-after-loop-err : goal.returns-after-loop-err
returns-after-loop-err t c =
    record {
      cases = rw c.in-Partial.is (
          problem_of-Partial c.loop-err.copies
          ∙ ap (λ l. several (problems_of l)) (c.loop-err.invariant
          ∙ ap (map problem_of) (take_all _ _ c.loop-err-test.false ∙ c.deref-err-items.ensures.value))
          ∙ sym (problem_of-Partial c.in-Partial.errors)
          );
    }
