use Rattle.std.proofs.Common.{◌≡◌, ◌≤◌, ℕ, false, List, length, subst, sym}
use Rattle.std.proofs.lemmas.List.{length-map}
use Rattle.std.specs.Str.{chars}
use Rattle.ignore_glob.specs.Flags.{AllLeadOn}
use Rattle.ignore_glob.specs.Nodes.{Node, AreGlobNodes, Marked}
use Rattle.ignore_glob.specs.NodeLists.{node_view, nodes_view}
use Rattle.ignore_glob.specs.Positions.{positions}
use Rattle.ignore_glob.specs.Reading.{Reading, Matches}
use Rattle.ignore_glob.specs.View.{tokens_view}
use Rattle.ignore_glob.specs.Words.{has_braces}
use Rattle.ignore_glob.specs.declared.glob.node.Node.{Node as CodeNode}
use Rattle.ignore_glob.proofs.NodeLemmas.{lead_on}
use Rattle.ignore_glob.proofs.NodeListLemmas.{glob_nodes-are}
use Rattle.ignore_glob.proofs.MatchingMarks.{matching_mark}
use Rattle.ignore_glob.proofs.WordFits.{some_masks}
use Rattle.ignore_glob.proofs.glob.automaton.Automaton.matches.Goals as goal

pub matches-requires-clause-on : goal.matches-requires-clause-on
matches-requires-clause-on c =
    let ts = tokens_view c.self.inside.tokens.items in
    let P : List Node → Type 0 = λ nodes. AreGlobNodes nodes ts in
    let are = subst P (sym c.self.inside.compiled) (glob_nodes-are ts) in
    let Q : List CodeNode → Type 0 = λ nodes. AllLeadOn (nodes_view nodes) in
    subst Q (sym c.deref.ensures.value) (lead_on (nodes_view c.self.inside.nodes.items) ts are)

pub returns-in_err-matches-clause-succeeds : goal.returns-in_err-matches-clause-succeeds
returns-in_err-matches-clause-succeeds c plain short =
    let inside = c.self.inside in
    let ts = tokens_view inside.tokens.items in
    let P : Reading → Type 0 = λ r. has_braces r.tokens ≡ false in
    let Q : Reading → Type 0 = λ r. positions r.tokens ≤ 62 in
    let some = some_masks (nodes_view inside.nodes.items) ts inside.masks inside.compiled inside.masked (subst P (sym c.self.view_is) plain)
    (subst Q (sym c.self.view_is) short) in
    absurd (cc (c.in_err-matches.ensures.succeeds some))

pub returns-clause-value : goal.returns-clause-value
returns-clause-value c =
    let ts = tokens_view c.self.inside.tokens.items in
    let fold = c.self.inside.case_insensitive in
    let text = chars c.args.text.now in
    let all = c.deref.result.now in
    let P : List Node → Type 0 = λ nodes. AreGlobNodes nodes ts in
    let Q : List CodeNode → Type 0 = λ nodes. AreGlobNodes (nodes_view nodes) ts in
    let are = subst Q (sym c.deref.ensures.value) (subst P (sym c.self.inside.compiled) (glob_nodes-are ts)) in
    let mark = matching_mark fold (nodes_view all) text ts are in
    let last = length-map all node_view in
    let M : ℕ → Type 0 = λ p. Marked fold (nodes_view all) text (length text) p in
    let R : Reading → Type 0 = λ r. Matches r text in
    let found = c.in_ok-matches.ensures.matched in (
      λ t. subst R c.self.view_is (mark.1 (subst M (sym last) (found.0 t))),
      λ m. found.1 (subst M last (mark.0 (subst R (sym c.self.view_is) m))),
    )
