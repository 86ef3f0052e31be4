use Rattle.std.proofs.Common.{List, ℕ, inl, inr, subst}
use Rattle.std.proofs.lemmas.Result.{err_from_is_err_and}
use Rattle.ignore_base.specs.Problem.{problem_of}
use Rattle.ig_options.specs.Choices.{AddsTypes, RefusesDefinitions}
use Rattle.ig_options.proofs.LoopLemmas.{here, types_more, types_done, definitions_here, definitions_later}
use Rattle.ig_options.proofs.choices.push_definitions.Goals as goal

pub loop-definition-init : goal.loop-definition-init
loop-definition-init c = record {
  adds = λ new h. subst (λ (ts : List (List ℕ)). AddsTypes ts c.args.builder.now new) c.as_slice-definition-items.ensures h;
  refuses = λ problem h. subst (λ (ts : List (List ℕ)). RefusesDefinitions ts c.args.builder.now problem) c.as_slice-definition-items.ensures h;
}

pub loop-definition-preserved : goal.loop-definition-preserved
loop-definition-preserved c =
    let l = c.loop-definition in
    let items = c.as_slice-definition-items.result.now in
    let text = c.as_str.result.now in
    let next = c.add_def.new.self in
    let at = here items l.definition-index c.definition-item.result text c.loop-definition-test.true c.definition-item.is c.as_str.ensures in
    let becomes = c.in_ok-add_def.ensures.added in
    record {
      adds = λ new h. l.invariant.adds new (types_more items l.definition-index text l.builder next new at becomes h);
      refuses = λ problem h. l.invariant.refuses problem
          (definitions_later items l.definition-index text l.builder next problem at becomes h);
    }

pub returns-clause-added : goal.returns-clause-added
returns-clause-added c =
    let l = c.loop-definition in
    l.invariant.adds l.builder (types_done c.as_slice-definition-items.result.now l.definition-index l.builder c.loop-definition-test.false)

pub returns-in_err-add_def-clause-refused : goal.returns-in_err-add_def-clause-refused
returns-in_err-add_def-clause-refused c =
    let l = c.loop-definition in
    let items = c.as_slice-definition-items.result.now in
    let text = c.as_str.result.now in
    let at = here items l.definition-index c.definition-item.result text c.loop-definition-test.true c.definition-item.is c.as_str.ensures in
    let p = err_from_is_err_and c.from_residual.result c.from_residual.ensures.1 in
    rw (p.1, p.2) (elim c.in_err-add_def.ensures.refused [
      | inl memory ↦ inl memory
      | inr refusal ↦ inr (l.invariant.refuses (problem_of c.in_err-add_def.field-0.0)
          (definitions_here items l.definition-index text l.builder (problem_of c.in_err-add_def.field-0.0) at (refusal.1, refusal.0)))
    ])
