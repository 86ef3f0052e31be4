-- Sets of positions as flags, one for each node and one for the end, and how many flags are set.
use Rattle.std.specs.Prelude.{◌≡◌, ◌<◌, ◌≤◌, ◌+◌, ◌↔◌, ℕ, zero, suc, Bool, true, List, length, Some, slice_get, count_by, All}
use Rattle.ignore_base.specs.Text.{Chars}
use Rattle.ignore_glob.specs.Nodes.{Node, literal_at, any_at, star_at, start_at, middle_at, end_at, until_slash, until_end, class_at}
use Rattle.ignore_glob.specs.Nodes.{fork_at, StepsByNothing, StepsBy, Marked}

-- the flag of a position is set
abbrev pub IsFlagged : List Bool → ℕ → Type 0
IsFlagged flags p = slice_get flags p ≡ Some true

-- the flags of all positions, the end among them, are those of the set
pub record AreFlags (nodes : List Node) (set : ℕ → Type 0) (flags : List Bool) : Type 0 where
  pub len : length flags ≡ length nodes + 1
  pub flagged : (p : ℕ) → IsFlagged flags p ↔ set p

-- how many positions are marked at this offset
abbrev pub CountAt : Bool → List Node → Chars → ℕ → ℕ → Type 0
CountAt fold nodes text o n = (flags : List Bool) × AreFlags nodes (Marked fold nodes text o) flags × (n ≡ count_by (λ b. b) flags)

-- how many pairs of a position and an offset up to this one are marked
abbrev pub Count : Bool → List Node → Chars → ℕ → ℕ → Type 0
Count fold nodes text zero n = CountAt fold nodes text zero n
Count fold nodes text (suc o) n =
    (before here : ℕ) × Count fold nodes text o before × CountAt fold nodes text (suc o) here × (n ≡ before + here)

-- the node at p leads to positions up to the end, and by no character only to later ones
abbrev pub LeadsOn : Node → ℕ → ℕ → Type 0
LeadsOn (literal_at k next) p end = next ≤ end
LeadsOn (any_at next) p end = next ≤ end
LeadsOn (star_at next) p end = (p < next) × (next ≤ end)
LeadsOn (start_at next) p end = (p < next) × (p + 1 ≤ end) × (next ≤ end)
LeadsOn (middle_at next) p end = (p + 1 ≤ end) × (next ≤ end)
LeadsOn (end_at next) p end = (p + 1 ≤ end) × (next ≤ end)
LeadsOn (until_slash next) p end = next ≤ end
LeadsOn (until_end next) p end = (p < next) × (next ≤ end)
LeadsOn (class_at negated ranges next) p end = next ≤ end
LeadsOn (fork_at firsts) p end = All (λ q. (p < q) × (q ≤ end)) firsts

-- each node leads on: so one scan from the first to the last closes a set
abbrev pub AllLeadOn : List Node → Type 0
AllLeadOn nodes = (p : ℕ) (node : Node) → slice_get nodes p ≡ Some node → LeadsOn node p (length nodes)

-- the position p, one of these, steps to q by no character
abbrev pub StepsAt : List Node → (ℕ → Type 0) → ℕ → ℕ → Type 0
StepsAt nodes from p q = (node : Node) × from p × (slice_get nodes p ≡ Some node) × StepsByNothing node p q

-- the position p, one of these, steps to q by the character c
abbrev pub StepsAtBy : Bool → List Node → (ℕ → Type 0) → ℕ → ℕ → ℕ → Type 0
StepsAtBy fold nodes from c p q = (node : Node) × from p × (slice_get nodes p ≡ Some node) × StepsBy fold node c p q
