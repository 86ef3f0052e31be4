use Rattle.std.proofs.Common.{List, ℕ, inl, inr, subst}
use Rattle.std.proofs.lemmas.Result.{err_from_is_err_and}
use Rattle.ignore_base.specs.Problem.{problem_of}
use Rattle.ig_options.specs.Globs.{AddsGlobs, RefusesGlobs}
use Rattle.ig_options.proofs.LoopLemmas.{here, globs_more, globs_done, globs_here, globs_later}
use Rattle.ig_options.proofs.globs.push_globs.Goals as goal

pub loop-glob-init : goal.loop-glob-init
loop-glob-init c = record {
  adds = λ new h. subst (λ (ts : List (List ℕ)). AddsGlobs ts c.args.builder.now new) c.as_slice-glob-items.ensures h;
  refuses = λ problem h. subst (λ (ts : List (List ℕ)). RefusesGlobs ts c.args.builder.now problem) c.as_slice-glob-items.ensures h;
}

pub loop-glob-preserved : goal.loop-glob-preserved
loop-glob-preserved c =
    let l = c.loop-glob in
    let items = c.as_slice-glob-items.result.now in
    let text = c.as_str.result.now in
    let next = c.push.new.self in
    let at = here items l.glob-index c.glob-item.result text c.loop-glob-test.true c.glob-item.is c.as_str.ensures in
    let added = c.in_ok-push.ensures.added in
    record {
      adds = λ new h. l.invariant.adds new (globs_more items l.glob-index text l.builder next new at added h);
      refuses = λ problem h. l.invariant.refuses problem (globs_later items l.glob-index text l.builder next problem at added h);
    }

pub returns-clause-added : goal.returns-clause-added
returns-clause-added c =
    let l = c.loop-glob in
    l.invariant.adds l.builder (globs_done c.as_slice-glob-items.result.now l.glob-index l.builder c.loop-glob-test.false)

pub returns-in_err-push-clause-refused : goal.returns-in_err-push-clause-refused
returns-in_err-push-clause-refused c =
    let l = c.loop-glob in
    let items = c.as_slice-glob-items.result.now in
    let text = c.as_str.result.now in
    let at = here items l.glob-index c.glob-item.result text c.loop-glob-test.true c.glob-item.is c.as_str.ensures in
    let p = err_from_is_err_and c.from_residual.result c.from_residual.ensures.1 in
    rw (p.1, p.2) (elim c.in_err-push.ensures.refused [
      | inl memory ↦ inl memory
      | inr refused ↦ inr (l.invariant.refuses (problem_of c.in_err-push.field-0.0)
          (globs_here items l.glob-index text l.builder (problem_of c.in_err-push.field-0.0) at refused))
    ])
