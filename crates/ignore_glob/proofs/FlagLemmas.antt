-- How many flags are set before a place.
use Rattle.std.proofs.Common.{◌≡◌, ◌<◌, ◌≤◌, ◌+◌, ℕ, zero, suc, Bool, true, false, List, [], ◌∷◌, take, arith, refl, ap, sym, ◌∙◌, count_by}
use Rattle.std.proofs.Common.{cond}
use Rattle.std.proofs.lemmas.List.Sums.{sum_by-cons}
use Rattle.ignore_glob.specs.Flags.{IsFlagged}

pub count_none : (xs : List Bool) → ((q : ℕ) → IsFlagged xs q → ⊥) → count_by (λ b. b) xs ≡ 0
count_none [] h = refl
count_none (true ∷ xs) h = absurd (h 0 refl)
count_none (false ∷ xs) h = count_none xs (λ q f. h (suc q) f)

-- what stands before all flags that are set, and before what is past them
pub count_after : (xs : List Bool) (k : ℕ) → ((q : ℕ) → IsFlagged xs q → k ≤ q) → count_by (λ b. b) (take k xs) ≡ 0
count_after [] zero h = refl
count_after [] (suc k) h = refl
count_after (x ∷ xs) zero h = refl
count_after (true ∷ xs) (suc k) h = absurd (let n = h 0 refl in omega (arith, n))
count_after (false ∷ xs) (suc k) h = count_after xs k (λ q f. let n = h (suc q) f in omega (arith, n))

pub count_before : (xs : List Bool) (k : ℕ) → ((q : ℕ) → IsFlagged xs q → q < k) → count_by (λ b. b) (take k xs) ≡ count_by (λ b. b) xs
count_before [] zero h = refl
count_before [] (suc k) h = refl
count_before (x ∷ xs) zero h = let none = count_none (x ∷ xs) (λ q f. let n = h q f in absurd (omega (arith, n))) in omega (arith, none)
count_before (x ∷ xs) (suc k) h =
    let one : Bool → ℕ = λ b. cond b 1 0 in
    sum_by-cons one x (take k xs) ∙ (ap (λ n. cond x 1 0 + n) (count_before xs k (λ q f. let n = h (suc q) f in omega (arith, n)))
    ∙ sym (sum_by-cons one x xs))
