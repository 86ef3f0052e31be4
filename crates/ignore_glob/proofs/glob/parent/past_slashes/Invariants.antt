use Rattle.std.proofs.Common.{◌≢◌, ℕ, false, List, All, drop}
use Rattle.ignore_glob.specs.Matches.{slash, tokens_match}
use Rattle.ignore_glob.specs.View.{tokens_view}
use Rattle.ignore_glob.proofs.glob.parent.past_slashes.Given as goal

abbrev pub invariant-loop-i : goal.invariant-loop-i
invariant-loop-i l = (w : List ℕ) → tokens_match false (tokens_view (drop l.i l.tokens)) w → All (λ d. d ≢ slash) w
