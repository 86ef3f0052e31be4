use Rattle.std.proofs.Common.{◌≡◌, ap, ◌∙◌}
use Rattle.ignore_glob.specs.NodeLists.{nodes_view, glob_nodes}
use Rattle.ignore_glob.specs.PositionSets.{nodes_ranges, tested_ranges}
use Rattle.ignore_glob.specs.View.{tokens_view}
use Rattle.ignore_glob.proofs.SetSteps.{ok_then}
use Rattle.ignore_glob.proofs.glob.automaton.Automaton.tested_ranges.Goals as goal

pub returns : goal.returns
returns c =
    let ts = tokens_view c.self.inside.tokens.items in
    let compiled : nodes_view c.deref.result.now ≡ glob_nodes ts = ap (λ ns. nodes_view ns) c.deref.ensures.value ∙ c.self.inside.compiled in
    let all : nodes_ranges (nodes_view c.deref.result.now) ≡ tested_ranges c.args.self.now =
    ap nodes_ranges compiled ∙ ap tested_ranges c.self.view_is in
    ok_then c.ranges_of.result _ _ (λ ranges is. is ∙ all) c.ranges_of.ensures
