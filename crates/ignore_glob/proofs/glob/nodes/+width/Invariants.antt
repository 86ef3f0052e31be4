use Rattle.std.proofs.Common.{◌≡◌, ◌≤◌, ◌+◌}
use Rattle.ignore_glob.proofs.Sizes.{token_size, size, branches_size}
use Rattle.ignore_glob.specs.Nodes.{width, branches_width}
use Rattle.ignore_glob.specs.View.{view, tokens_view, branches_view}
use Rattle.ignore_glob.proofs.glob.nodes.+width.Given as goal

abbrev pub decreases-token_width : goal.decreases-token_width
decreases-token_width l = token_size (view l.token.now)

abbrev pub decreases-width : goal.decreases-width
decreases-width l = size (tokens_view l.tokens.now)

abbrev pub decreases-branches_width : goal.decreases-branches_width
decreases-branches_width l = branches_size (branches_view l.branches.now)

-- what was counted, and what is left
abbrev pub invariant-branches_width-loop-first : goal.invariant-branches_width-loop-first
invariant-branches_width-loop-first l = record {
  sum : l.total + branches_width (branches_view l.rest) ≡ branches_width (branches_view l.branches);
  smaller : branches_size (branches_view l.rest) ≤ branches_size (branches_view l.branches);
}

abbrev pub decreases-branches_width-loop-first : goal.decreases-branches_width-loop-first
decreases-branches_width-loop-first l = branches_size (branches_view l.rest)

abbrev pub invariant-width-loop-first : goal.invariant-width-loop-first
invariant-width-loop-first l = record {
  sum : l.total + width (tokens_view l.rest) ≡ width (tokens_view l.tokens);
  smaller : size (tokens_view l.rest) ≤ size (tokens_view l.tokens);
}

abbrev pub decreases-width-loop-first : goal.decreases-width-loop-first
decreases-width-loop-first l = size (tokens_view l.rest)
