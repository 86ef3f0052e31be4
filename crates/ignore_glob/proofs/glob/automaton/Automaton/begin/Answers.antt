use Rattle.std.proofs.Common.{◌≡◌, [], List, subst, sym, ap, ◌∙◌}
use Rattle.ignore_glob.specs.Flags.{AllLeadOn}
use Rattle.ignore_glob.specs.Nodes.{Node, AreGlobNodes}
use Rattle.ignore_glob.specs.NodeLists.{nodes_view, glob_nodes}
use Rattle.ignore_glob.specs.View.{tokens_view}
use Rattle.ignore_glob.specs.declared.glob.node.Node.{Node as CodeNode}
use Rattle.ignore_glob.proofs.NodeLemmas.{lead_on}
use Rattle.ignore_glob.proofs.SetSteps.{ok_then, set_after}
use Rattle.ignore_glob.proofs.NodeListLemmas.{glob_nodes-are}
use Rattle.ignore_glob.proofs.glob.automaton.Automaton.begin.Goals as goal

pub first_marks-requires : goal.first_marks-requires
first_marks-requires c =
    let ts = tokens_view c.self.inside.tokens.items in
    let P : List Node → Type 0 = λ nodes. AreGlobNodes nodes ts in
    let are = subst P (sym c.self.inside.compiled) (glob_nodes-are ts) in
    let Q : List CodeNode → Type 0 = λ nodes. AllLeadOn (nodes_view nodes) in
    subst Q (sym c.deref.ensures.value) (lead_on (nodes_view c.self.inside.nodes.items) ts are)

pub returns : goal.returns
returns c =
    let ts = tokens_view c.self.inside.tokens.items in
    let nodes = nodes_view c.deref.result.now in
    let compiled : nodes ≡ glob_nodes ts = ap (λ ns. nodes_view ns) c.deref.ensures.value ∙ c.self.inside.compiled in
    let both = set_after c.args.self.now ts c.self.inside.case_insensitive nodes compiled c.self.view_is in
    ok_then c.first_marks.result _ _ (λ set marks. (both [] set.all.items).0 marks) c.first_marks.ensures
