use Rattle.std.proofs.Common.{sym, ap, ◌∙◌, arith, rules}
use Rattle.std.proofs.lemmas.Result.{err_from_is_err_and}
use Rattle.ignore_base.specs.Paths.{components}
use Rattle.ignore_files.specs.Resolve.{walk}
use Rattle.ignore_files.proofs.Components.{components_split, components_whole}
use Rattle.ignore_files.proofs.Walks.{turn_fault, turn_in, turn_out}
use Rattle.ignore_files.proofs.memory.resolve.+resolve.Goals as goal

pub walk-returns-in_err-reached-clause-value : goal.walk-returns-in_err-reached-clause-value
walk-returns-in_err-reached-clause-value t c =
    let l = c.loop-component in
    let cut = components_split l.rest.now (c.in-Some.component, c.in-Some.after) c.in-Some.ensures.cases in
    let reported = turn_fault c.args.nodes.now c.args.follow l.reached.links l.reached.node l.rest.now
    c.in-Some.component.now c.in-Some.after.now
    (walk c.args.nodes.now c.args.follow c.args.links (components c.args.text.now) c.args.start) l.invariant.same
    cut.0 c.in_err-reached.field-0.0 c.in_err-reached.ensures.value in
    let p = err_from_is_err_and c.from_residual.result c.from_residual.ensures.1 in
    rw (p.1, p.2) reported

pub walk-returns-then-not-is_dir-clause-value : goal.walk-returns-then-not-is_dir-clause-value
walk-returns-then-not-is_dir-clause-value t c =
    let l = c.loop-component in
    let cut = components_split l.rest.now (c.in-Some.component, c.in-Some.after) c.in-Some.ensures.cases in
    turn_out c.args.nodes.now c.args.follow l.reached.links l.reached.node l.rest.now c.in-Some.component.now
    c.in-Some.after.now _ l.invariant.same cut.0 c.in_ok-reached.reached c.in_ok-reached.ensures.value cc

pub walk-loop-component-preserved : goal.walk-loop-component-preserved
walk-loop-component-preserved t c =
    let l = c.loop-component in
    let cut = components_split l.rest.now (c.in-Some.component, c.in-Some.after) c.in-Some.ensures.cases in
    record {
      text = search rules;
      same =
          turn_in c.args.nodes.now c.args.follow l.reached.links l.reached.node l.rest.now c.in-Some.component.now
          c.in-Some.after.now _ l.invariant.same cut.0 c.in_ok-reached.reached c.in_ok-reached.ensures.value cc;
      fewer = omega (arith, c.in_ok-reached.ensures.fewer, l.invariant.fewer);
    }

pub walk-returns-clause-value : goal.walk-returns-clause-value
walk-returns-clause-value t c =
    let l = c.loop-component in
    c.step-2.ensures.value ∙ ap (λ ps. walk c.args.nodes.now c.args.follow l.reached.links ps l.reached.node)
    (sym (components_whole l.rest.now c.in_default.ensures.cases)) ∙ l.invariant.same
