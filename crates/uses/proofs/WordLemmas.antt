-- Where a line has a word.
use Rattle.std.proofs.Common.{◌≡◌, ◌↔◌, ℕ, Bool, true, false, ◌||◌, List, [], ◌∷◌, ◌++◌, nat_eq, drop, length, refl, sym, ap, ◌∙◌}
use Rattle.std.proofs.lemmas.Bool.Decides.{Decides-eqb}
use Rattle.std.proofs.lemmas.Slice.Eq.{starts_is}
use Rattle.std.specs.List.{starts_with}
use Rattle.std.specs.Str.Iter.{HasSubslice}
use Rattle.uses.specs.Searched.{has_word}

or-left : (a b : Bool) → a ≡ true → (a || b) ≡ true
or-left true b h = refl
or-left false b h = absurd (cc)

or-right : (a b : Bool) → b ≡ true → (a || b) ≡ true
or-right true b h = refl
or-right false b h = h

begins : (word line rest : List ℕ) → line ≡ word ++ rest → starts_with nat_eq line word ≡ true
begins word line rest h = (starts_is Decides-eqb line word _ refl).1 rest h

has_front : (word line rest : List ℕ) → line ≡ word ++ rest → has_word word line ≡ true
has_front word [] rest h = begins word [] rest h
has_front word (b ∷ line) rest h = or-left _ _ (begins word (b ∷ line) rest h)

has_inside : (word front rest : List ℕ) → has_word word (front ++ (word ++ rest)) ≡ true
has_inside word [] rest = has_front word (word ++ rest) rest refl
has_inside word (b ∷ front) rest = or-right _ _ (has_inside word front rest)

in_line : (word : List ℕ) (b : ℕ) (line : List ℕ) (starts : Bool) → starts_with nat_eq (b ∷ line) word ≡ starts
    → (has_word word line ≡ true → HasSubslice line word) → (starts || has_word word line) ≡ true → HasSubslice (b ∷ line) word
in_line word b line true is more h = ([], drop (length word) (b ∷ line), (starts_is Decides-eqb (b ∷ line) word _ refl).0 is)
in_line word b line false is more h = let s = more h in (b ∷ s.0, s.1, ap (λ l. b ∷ l) s.2)

pub stands : (word line : List ℕ) → has_word word line ≡ true → HasSubslice line word
stands word [] h = ([], drop (length word) [], (starts_is Decides-eqb [] word _ refl).0 h)
stands word (b ∷ line) h = in_line word b line _ refl (stands word line) h

pub has : (word line : List ℕ) → HasSubslice line word → has_word word line ≡ true
has word line s = ap (has_word word) s.2 ∙ has_inside word s.0 s.1

-- what says as much is the test
pub is_test : (r : Bool) (word line : List ℕ) → ((r ≡ true) ↔ HasSubslice line word) → r ≡ has_word word line
is_test true word line h = sym (has word line (h.0 refl))
is_test false word line h = no (has_word word line) refl
  where
    no : (b : Bool) → has_word word line ≡ b → false ≡ b
    no true e = h.1 (stands word line e)
    no false e = refl
