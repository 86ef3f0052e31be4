use Rattle.std.proofs.Common.{◌≡◌, ◌<◌, ◌≤◌, ℕ, List, ◌∷◌, ◌++◌, length}
use Rattle.ignore_glob.proofs.glob.class.after_last_closing.Given as goal

abbrev pub invariant-loop-i : goal.invariant-loop-i
invariant-loop-i l = (m r : List ℕ) → l.text ≡ m ++ 93 ∷ r → length m < l.i → l.after ≤ length r
