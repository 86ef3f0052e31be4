use Rattle.std.proofs.Common.{rules, ◌≡◌, ◌+◌, ◌++◌, length, ℕ, List, arith, ap, ◌∙◌, length-append}
use Rattle.std.proofs.lemmas.List.{length-map}
use Rattle.ignore_glob.specs.Nodes.{Node, token_width, width, entry}
use Rattle.ignore_glob.specs.NodeLists.{token_nodes, tokens_nodes, node_view, nodes_view}
use Rattle.ignore_glob.specs.View.{view, tokens_view, branches_view}
use Rattle.ignore_glob.proofs.NodeListLemmas.{token_put, branch_put, token_nodes-length, tokens_nodes-length}
use Rattle.ignore_glob.specs.declared.glob.node.Node.{Node as CodeNode}
use Rattle.ignore_glob.proofs.glob.nodes.+compile.Goals as goal

-- how many nodes stand after more of them
longer : (old new : List CodeNode) (more : List Node) (w : ℕ) → nodes_view new ≡ nodes_view old ++ more → length more ≡ w
    → length new ≡ length old + w
longer old new more w e h =
    omega (arith, ap length e, h, length-append (nodes_view old) more, length-map old node_view, length-map new node_view)

pub push_tokens-loop-first-preserved : goal.push_tokens-loop-first-preserved
push_tokens-loop-first-preserved t c =
    let old = c.loop-first.nodes.items in
    let new = c.push_token.new.nodes.items in
    let n = length old in
    let first = view c.in-Some.first.now in
    let ts = tokens_view c.in-Some.more.now in
    let next = entry ts (n + token_width first) c.args.end in
    let pushed : nodes_view new ≡ nodes_view old ++ token_nodes first n next = search rules in
    let long : length new ≡ n + token_width first = longer old new (token_nodes first n next) (token_width first) pushed
    (token_nodes-length first n next) in
    record {
      all = token_put (nodes_view old) (nodes_view new) first ts (length new) n c.args.end pushed long ∙ search rules;
      smaller = search rules;
    }

pub push_braces-loop-branch-preserved : goal.push_braces-loop-branch-preserved
push_braces-loop-branch-preserved t c =
    let old = c.loop-branch.nodes.items in
    let new = c.push_tokens.new.nodes.items in
    let n = length old in
    let ts = tokens_view c.in-Some.branch.now.items in
    let bs = branches_view c.in-Some.more.now in
    let pushed : nodes_view new ≡ nodes_view old ++ tokens_nodes ts n c.args.next = search rules in
    let long : length new ≡ n + width ts = longer old new (tokens_nodes ts n c.args.next) (width ts) pushed
    (tokens_nodes-length ts n c.args.next) in
    record {
      all = branch_put (nodes_view old) (nodes_view new) ts bs (length new) n c.args.next pushed long ∙ search rules;
      smaller = search rules;
    }
