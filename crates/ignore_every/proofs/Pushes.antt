-- An element of a list that has one more, and of two lists, one after the other.
use Rattle.std.proofs.Common.{◌≡◌, ℕ, zero, suc, List, [], ◌∷◌, ◌++◌, Some, length, slice_get, refl, ap, ◌⊎◌, inl, inr}

pub slice_get_pushed : {X : Type 0} (xs : List X) (y z : X) (i : ℕ) → slice_get (xs ++ y ∷ []) i ≡ Some z
    → (slice_get xs i ≡ Some z) ⊎ ((i ≡ length xs) × (y ≡ z))
slice_get_pushed [] y z zero e = inr (refl, cc e)
slice_get_pushed [] y z (suc i) e = absurd (cc e)
slice_get_pushed (x ∷ xs) y z zero e = inl e
slice_get_pushed (x ∷ xs) y z (suc i) e = elim (slice_get_pushed xs y z i e) [ inl h ↦ inl h | inr h ↦ inr (ap suc h.0, h.1) ]

pub slice_get_front : {X : Type 0} (xs ys : List X) (j : ℕ) (z : X) → slice_get xs j ≡ Some z → slice_get (xs ++ ys) j ≡ Some z
slice_get_front [] ys j z e = absurd (cc e)
slice_get_front (x ∷ xs) ys zero z e = e
slice_get_front (x ∷ xs) ys (suc j) z e = slice_get_front xs ys j z e

pub slice_get_back : {X : Type 0} (xs ys : List X) (j : ℕ) (z : X) → slice_get ys j ≡ Some z → (k : ℕ) × (slice_get (xs ++ ys) k ≡ Some z)
slice_get_back [] ys j z e = (j, e)
slice_get_back (x ∷ xs) ys j z e = let later = slice_get_back xs ys j z e in (suc later.0, later.1)
