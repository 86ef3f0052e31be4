-- Sets of positions, a character at a time, as a search over all texts goes by them.
use Rattle.std.specs.Prelude.{ℕ, ◌↔◌, Bool, List, [], ◌∷◌, ◌++◌, length, ◌≡◌, Some, slice_get, nat_le, nat_lt, ◌&&◌, ◌||◌}
use Rattle.std.specs.List.{list_all}
use Rattle.ignore_base.specs.Text.{Chars}
use Rattle.ignore_glob.specs.Flags.{AreFlags}
use Rattle.ignore_glob.specs.NodeLists.{glob_nodes}
use Rattle.ignore_glob.specs.Nodes.{Node, literal_at, any_at, star_at, start_at, middle_at, end_at, until_slash, until_end, class_at}
use Rattle.ignore_glob.specs.Nodes.{fork_at, Marked, StepsBy}
use Rattle.ignore_glob.specs.Reading.{Reading}

-- the flags of the positions that are marked at the end of the text
abbrev pub AreLastMarks : Bool → List Node → Chars → List Bool → Type 0
AreLastMarks fold nodes text flags = AreFlags nodes (Marked fold nodes text (length text)) flags

-- the same for a pattern: the set of positions that the text leads to
unfoldable pub IsSetAfter : Reading → Chars → List Bool → Type 0
IsSetAfter r text flags = AreLastMarks r.case_insensitive (glob_nodes r.tokens) text flags

-- after each text both characters lead to the same set of positions
abbrev pub AreAlike : Reading → ℕ → ℕ → Type 0
AreAlike r c d = (text : Chars) (flags : List Bool) → IsSetAfter r (text ++ c ∷ []) flags ↔ IsSetAfter r (text ++ d ∷ []) flags

-- both characters lead from a node to the same positions
abbrev pub StepAlike : Bool → Node → ℕ → ℕ → Type 0
StepAlike fold node c d = (p q : ℕ) → StepsBy fold node c p q ↔ StepsBy fold node d p q

-- the same for all of these nodes
abbrev pub AllStepAlike : Bool → List Node → ℕ → ℕ → Type 0
AllStepAlike fold nodes c d = (p : ℕ) (node : Node) → slice_get nodes p ≡ Some node → StepAlike fold node c d

-- each range has all characters from one to another, or none of them
abbrev pub are_even : ℕ → ℕ → List (ℕ × ℕ) → Bool
are_even from to ranges =
    list_all (λ r. nat_lt r.1 from || nat_lt to r.0 || (nat_le r.0 from && nat_le to r.1)) ranges

-- the ranges of characters that a node tests for: of a literal its own character
abbrev pub node_ranges : Node → List (ℕ × ℕ)
node_ranges (literal_at k next) = (k, k) ∷ []
node_ranges (any_at next) = []
node_ranges (star_at next) = []
node_ranges (start_at next) = []
node_ranges (middle_at next) = []
node_ranges (end_at next) = []
node_ranges (until_slash next) = []
node_ranges (until_end next) = []
node_ranges (class_at negated ranges next) = ranges
node_ranges (fork_at firsts) = []

-- the ranges of characters that nodes test for, in the order of writing
abbrev pub nodes_ranges : List Node → List (ℕ × ℕ)
nodes_ranges [] = []
nodes_ranges (node ∷ nodes) = node_ranges node ++ nodes_ranges nodes

-- the ranges of characters that a pattern tests for: of [a-c]*x these are a to c, and x to x
abbrev pub tested_ranges : Reading → List (ℕ × ℕ)
tested_ranges r = nodes_ranges (glob_nodes r.tokens)
