use Rattle.std.proofs.Common.{◌≡◌, ◌≤◌, ◌+◌, ◌*◌, ◌++◌, ◌∷◌, length}
use Rattle.ignore_glob.proofs.Sizes.{token_size, size, branches_size}
use Rattle.ignore_glob.specs.Nodes.{fork_at, fork}
use Rattle.ignore_glob.specs.NodeLists.{tokens_nodes, branches_nodes, nodes_view}
use Rattle.ignore_glob.specs.View.{view, tokens_view, branches_view}
use Rattle.ignore_glob.proofs.glob.nodes.+compile.Given as goal

abbrev pub decreases-push_token : goal.decreases-push_token
decreases-push_token l = 2 * token_size (view l.token.now)

abbrev pub decreases-push_tokens : goal.decreases-push_tokens
decreases-push_tokens l = 2 * size (tokens_view l.tokens.now)

abbrev pub decreases-push_braces : goal.decreases-push_braces
decreases-push_braces l = 2 * branches_size (branches_view l.branches.now) + 1

-- what stands, and what is still to be put
abbrev pub invariant-push_braces-loop-branch : goal.invariant-push_braces-loop-branch
invariant-push_braces-loop-branch l = record {
  all : nodes_view l.nodes.items ++ branches_nodes (branches_view l.rest) (length l.nodes.items) l.next
      ≡ nodes_view l.fn.nodes.items ++ fork_at (fork (branches_view l.branches) (length l.fn.nodes.items + 1) l.next)
      ∷ branches_nodes (branches_view l.branches) (length l.fn.nodes.items + 1) l.next;
  smaller : branches_size (branches_view l.rest) ≤ branches_size (branches_view l.branches);
}

abbrev pub decreases-push_braces-loop-branch : goal.decreases-push_braces-loop-branch
decreases-push_braces-loop-branch l = branches_size (branches_view l.rest)

abbrev pub invariant-push_tokens-loop-first : goal.invariant-push_tokens-loop-first
invariant-push_tokens-loop-first l = record {
  all : nodes_view l.nodes.items ++ tokens_nodes (tokens_view l.rest) (length l.nodes.items) l.end
      ≡ nodes_view l.initial.nodes.items ++ tokens_nodes (tokens_view l.tokens) (length l.initial.nodes.items) l.end;
  smaller : size (tokens_view l.rest) ≤ size (tokens_view l.tokens);
}

abbrev pub decreases-push_tokens-loop-first : goal.decreases-push_tokens-loop-first
decreases-push_tokens-loop-first l = size (tokens_view l.rest)
