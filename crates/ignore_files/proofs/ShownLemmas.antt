-- Names that are ASCII, and names that are alike in lower case.
use Rattle.std.proofs.Common.{◌≡◌, ◌≤◌, ◌<◌, ◌↔◌, ℕ, suc, zero, Bool, true, false, ◌&&◌, List, [], ◌∷◌, refl, arith, bytes_eq, IsTrue}
use Rattle.std.proofs.lemmas.Bool.Decides.{nat_tests, same_from_decides}
use Rattle.std.proofs.lemmas.Slice.Eq.{bytes_eq-Decides}
use Rattle.std.specs.Prelude.{slice_index}
use Rattle.std.specs.Char.{is_ascii}
use Rattle.std.specs.List.{list_all}

one_ascii : (b : ℕ) → b < 128 → is_ascii b ≡ true
one_ascii b h = grind (arith, nat_tests)

not_ascii : (b : ℕ) → 128 ≤ b → is_ascii b ≡ false
not_ascii b h = grind (arith, nat_tests)

and_true : (a b : Bool) → a ≡ true → b ≡ true → a && b ≡ true
and_true true b e h = h
and_true false b e h = absurd (cc (e))

and_false : (a b : Bool) → b ≡ false → a && b ≡ false
and_false true b h = h
and_false false b h = refl

first_false : (a b : Bool) → a ≡ false → a && b ≡ false
first_false true b h = absurd (cc (h))
first_false false b h = refl

-- a text is ASCII where each of its bytes is
pub all_ascii : (bs : List ℕ) → ((i : ℕ) → slice_index bs i < 128) → list_all is_ascii bs ≡ true
all_ascii [] h = refl
all_ascii (b ∷ bs) h =
    let first : b < 128 = h zero in
    and_true (is_ascii b) (list_all is_ascii bs) (one_ascii b first) (all_ascii bs (λ i. h (suc i)))

pub some_not_ascii : (bs : List ℕ) (i : ℕ) → 128 ≤ slice_index bs i → list_all is_ascii bs ≡ false
some_not_ascii [] i h = let clash : ⊥ = omega (arith, h) in absurd clash
some_not_ascii (b ∷ bs) zero h = first_false (is_ascii b) (list_all is_ascii bs) (not_ascii b h)
some_not_ascii (b ∷ bs) (suc i) h = and_false (is_ascii b) (list_all is_ascii bs) (some_not_ascii bs i h)

-- a test of equality is that of bytes
pub tests_same : (r : Bool) (xs ys : List ℕ) → IsTrue r ↔ (xs ≡ ys) → r ≡ bytes_eq xs ys
tests_same r xs ys h = same_from_decides r (bytes_eq xs ys) h (bytes_eq-Decides xs ys)
