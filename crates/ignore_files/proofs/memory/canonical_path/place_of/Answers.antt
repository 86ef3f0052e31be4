use Rattle.std.proofs.Common.{sym, ap, ◌∙◌, rules}
use Rattle.ignore_files.specs.Memory.{node_below}
use Rattle.ignore_files.proofs.Components.{components_split, components_whole}
use Rattle.ignore_files.proofs.Places.{below_some, below_none}
use Rattle.ignore_files.proofs.memory.canonical_path.place_of.Goals as goal

pub returns-in_err-here : goal.returns-in_err-here
returns-in_err-here c =
    let l = c.loop-component in
    let cut = components_split l.rest.now (c.in-Some.component, c.in-Some.after) c.in-Some.ensures.cases in
    c.from_residual.ensures
    ∙ below_none c.args.nodes.now l.here l.rest.now c.in-Some.component.now c.in-Some.after.now cut.0 c.in_err-here.ensures
    ∙ l.invariant.same

pub loop-component-preserved : goal.loop-component-preserved
loop-component-preserved c =
    let l = c.loop-component in
    let cut = components_split l.rest.now (c.in-Some.component, c.in-Some.after) c.in-Some.ensures.cases in
    record {
      text = search rules;
      same =
          below_some c.args.nodes.now l.here l.rest.now c.in-Some.component.now c.in-Some.after.now cut.0
          c.in_ok-here.here c.in_ok-here.ensures ∙ l.invariant.same;
    }

pub returns : goal.returns
returns c =
    let l = c.loop-component in
    c.component_below-2.ensures ∙ ap (node_below c.args.nodes.now l.here) (sym (components_whole l.rest.now c.in_default.ensures.cases))
    ∙ l.invariant.same
