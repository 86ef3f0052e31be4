use Rattle.std.proofs.Common.{◌≡◌, ◌++◌, ◌∷◌, [], ap, ◌∙◌}
use Rattle.ignore_glob.specs.NodeLists.{nodes_view, glob_nodes}
use Rattle.ignore_glob.specs.View.{tokens_view}
use Rattle.ignore_glob.proofs.SetSteps.{set_after, alike_marks}
use Rattle.ignore_glob.proofs.glob.automaton.Automaton.are_alike.Goals as goal

pub returns : goal.returns
returns c = λ t text flags.
    let ts = tokens_view c.self.inside.tokens.items in
    let nodes = nodes_view c.deref.result.now in
    let compiled : nodes ≡ glob_nodes ts = ap (λ ns. nodes_view ns) c.deref.ensures.value ∙ c.self.inside.compiled in
    let both = set_after c.args.self.now ts c.self.inside.case_insensitive nodes compiled c.self.view_is in
    let same = alike_marks c.self.inside.case_insensitive nodes c.args.c c.args.d (c.step_alike.ensures t) text flags in
    let one = both (text ++ c.args.c ∷ []) flags in
    let two = both (text ++ c.args.d ∷ []) flags in
    ((λ s. two.0 (same.0 (one.1 s))), (λ s. one.0 (same.1 (two.1 s))))
