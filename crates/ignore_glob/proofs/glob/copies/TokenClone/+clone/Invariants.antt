use Rattle.std.proofs.Common.{◌≡◌, take, map}
use Rattle.ignore_glob.specs.View.{view, tokens_view}
use Rattle.ignore_glob.proofs.glob.copies.TokenClone.+clone.Given as goal

abbrev pub invariant-loop-branch : goal.invariant-loop-branch
invariant-loop-branch l =
    map (λ b. tokens_view b.items) l.copies.items ≡ map (λ b. tokens_view b.items) (take l.branch-index l.branch-items)

abbrev pub invariant-loop-token : goal.invariant-loop-token
invariant-loop-token l = map view l.copy.items ≡ map view (take l.token-index l.token-items)
