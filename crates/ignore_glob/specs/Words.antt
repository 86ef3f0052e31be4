-- Sets of positions as machine words with a bit for each position, for short globs without braces:
-- each node of such a glob leads to the position after it, or after its inside.
use Rattle.std.specs.Prelude.{◌≡◌, ◌≢◌, ◌+◌, ℕ, suc, Bool, true, false, List, [], ◌∷◌, length, map, Option, None, Some, slice_get, cond}
use Rattle.std.specs.Prelude.{nat_le, nat_eq, ◌&&◌, refl}
use Rattle.std.specs.Coded.{Coded, code_by, coded×, coded_ℕ}
use Rattle.std.specs.Int.{bit_at}
use Rattle.std.specs.Simd.Lanes.{mask_l}
use Rattle.ignore_glob.specs.Glob.{Tokens, done, then, alternates}
use Rattle.ignore_glob.specs.Matches.{slash, IsCaseOf, IsMember}
use Rattle.ignore_glob.specs.Nodes.{Node, literal_at, any_at, star_at, start_at, middle_at, end_at, until_slash, until_end, class_at}
use Rattle.ignore_glob.specs.Nodes.{fork_at}
use Rattle.ignore_glob.specs.declared.glob.word.Masks.{Masks}

-- the position is in the set
abbrev pub Has : ℕ → ℕ → Type 0
Has word p = bit_at word p ≡ 1

-- the node leads on by one character that it matches
abbrev pub is_tested : Node → Bool
is_tested (literal_at k next) = true
is_tested (any_at next) = true
is_tested (class_at negated ranges next) = true
is_tested node = false

-- the node matches the character c
abbrev pub Tests : Bool → Node → ℕ → Type 0
Tests fold (literal_at k next) c = IsCaseOf fold k c
Tests fold (any_at next) c = c ≢ slash
Tests fold (class_at negated ranges next) c = IsMember fold negated ranges c
Tests fold node c = ⊥

-- each character but a slash leads from the node to itself
abbrev pub is_star : Node → Bool
is_star (star_at next) = true
is_star node = false

-- each character leads from the node to itself
abbrev pub is_inside : Node → Bool
is_inside (until_slash next) = true
is_inside (until_end next) = true
is_inside node = false

-- a slash leads to the position after
abbrev pub is_by_slash : Node → Bool
is_by_slash (middle_at next) = true
is_by_slash (end_at next) = true
is_by_slash (until_slash next) = true
is_by_slash node = false

-- a slash leads to the position after the inside
abbrev pub is_middle : Node → Bool
is_middle (middle_at next) = true
is_middle node = false

-- no character leads to the position after
abbrev pub is_free : Node → Bool
is_free (star_at next) = true
is_free (start_at next) = true
is_free (until_end next) = true
is_free node = false

-- no character leads to the position after the inside
abbrev pub is_start : Node → Bool
is_start (start_at next) = true
is_start node = false

-- the positions of each kind
abbrev pub masks : List Node → Masks
masks nodes = record {
  tested = mask_l (map is_tested nodes);
  stars = mask_l (map is_star nodes);
  insides = mask_l (map is_inside nodes);
  by_slash = mask_l (map is_by_slash nodes);
  middles = mask_l (map is_middle nodes);
  free = mask_l (map is_free nodes);
  starts = mask_l (map is_start nodes);
}

-- the node at p leads to the position after it, or after its inside
abbrev pub leads_next : Node → ℕ → Bool
leads_next (literal_at k next) p = nat_eq next (p + 1)
leads_next (any_at next) p = nat_eq next (p + 1)
leads_next (star_at next) p = nat_eq next (p + 1)
leads_next (start_at next) p = nat_eq next (p + 2)
leads_next (middle_at next) p = nat_eq next (p + 2)
leads_next (end_at next) p = nat_eq next (p + 2)
leads_next (until_slash next) p = nat_eq next (p + 1)
leads_next (until_end next) p = nat_eq next (p + 1)
leads_next (class_at negated ranges next) p = nat_eq next (p + 1)
leads_next (fork_at firsts) p = false

-- each node leads to the position after it, or after its inside; the first stands at p
abbrev pub is_line : List Node → ℕ → Bool
is_line [] p = true
is_line (node ∷ nodes) p = leads_next node p && is_line nodes (suc p)

-- a glob fits a word if each node leads so, and it has at most 62 positions
abbrev pub word_of : List Node → Option Masks
word_of nodes = cond (nat_le (length nodes) 62 && is_line nodes 0) (Some (masks nodes)) None

-- braces occur, at the outermost level
abbrev pub has_braces : Tokens → Bool
has_braces done = false
has_braces (then (alternates bs) ts) = true
has_braces (then t ts) = has_braces ts

-- The least set that has the word's positions, with a free one the next, and with a start the next
-- but one.
pub data Closed (m : Masks) (word : ℕ) : ℕ → Type 0 where
  known : (p : ℕ) → Has word p → Closed m word p
  to_next : (p : ℕ) → Closed m word p → Has m.free p → Closed m word (suc p)
  past_next : (p : ℕ) → Closed m word p → Has m.starts p → Closed m word (suc (suc p))

-- a position of the word whose node matches the character
abbrev pub TestsAt : Bool → List Node → ℕ → ℕ → ℕ → Type 0
TestsAt fold nodes word c p = (node : Node) × Has word p × (slice_get nodes p ≡ Some node) × Tests fold node c

-- code: proofs distinguish masks by their seven numbers
abbrev pub masks_code : Coded Masks
masks_code =
    code_by (ℕ × (ℕ × (ℕ × (ℕ × (ℕ × (ℕ × ℕ))))))
    (coded× coded_ℕ (coded× coded_ℕ (coded× coded_ℕ (coded× coded_ℕ (coded× coded_ℕ (coded× coded_ℕ coded_ℕ))))))
    (λ m. (m.tested, (m.stars, (m.insides, (m.by_slash, (m.middles, (m.free, m.starts)))))))
    (λ p. record {
      tested = p.0;
      stars = p.1.0;
      insides = p.1.1.0;
      by_slash = p.1.1.1.0;
      middles = p.1.1.1.1.0;
      free = p.1.1.1.1.1.0;
      starts = p.1.1.1.1.1.1;
    })
    (λ _. refl)
