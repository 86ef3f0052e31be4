-- How many numbers are left, of those below a bound.
use Rattle.std.proofs.Common.{◌≡◌, ℕ, zero, suc, ◌+◌, ◌-◌, ◌*◌, ◌<◌, ◌≤◌, Bool, true, false, ◌||◌, eqb, List, [], ◌∷◌, refl, sym, ap, subst, ◌∙◌, arith}
use Rattle.std.proofs.lemmas.Bool.{eqb-true, eqb-false}
use Rattle.std.proofs.Math.Nat.{mul-le-mul_right, suc-mul}

-- it is among them
abbrev pub among : ℕ → List ℕ → Bool
among i [] = false
among i (x ∷ xs) = eqb x i || among i xs

-- one number more, unless it is among the others
abbrev with_one : Bool → ℕ → ℕ
with_one true n = n
with_one false n = suc n

-- how many numbers below k are not among the others
abbrev pub free : ℕ → List ℕ → ℕ
free zero xs = 0
free (suc k) xs = with_one (among k xs) (free k xs)

with_one_most : (b : Bool) (n k : ℕ) → n ≤ k → with_one b n ≤ suc k
with_one_most true n k h = omega (arith, h)
with_one_most false n k h = omega (arith, h)

free_most : (k : ℕ) (xs : List ℕ) → free k xs ≤ k
free_most zero xs = omega arith
free_most (suc k) xs = with_one_most (among k xs) (free k xs) k (free_most k xs)

with_one_more : (a b : Bool) (m n : ℕ) → m ≤ n → with_one (a || b) m ≤ with_one b n
with_one_more true true m n h = h
with_one_more true false m n h = omega (arith, h)
with_one_more false true m n h = h
with_one_more false false m n h = omega (arith, h)

pub free_more : (k x : ℕ) (xs : List ℕ) → free k (x ∷ xs) ≤ free k xs
free_more zero x xs = omega arith
free_more (suc k) x xs = with_one_more (eqb x k) (among k xs) (free k (x ∷ xs)) (free k xs) (free_more k x xs)

with_one_less : (b : Bool) (m n : ℕ) → m < n → with_one b m < with_one b n
with_one_less true m n h = h
with_one_less false m n h = omega (arith, h)

below : (k x : ℕ) → eqb x k ≡ false → x < suc k → x < k
below k x e p = let apart = eqb-false x k e in omega (arith, p, apart)

-- the number is the last one, or less
last_or_less : (k x : ℕ) (xs : List ℕ) (b : Bool) → eqb x k ≡ b → x < suc k → among x xs ≡ false → (x < k → free k (x ∷ xs) < free k xs)
    → with_one (b || among k xs) (free k (x ∷ xs)) < with_one (among k xs) (free k xs)
last_or_less k x xs true e p h later =
    let same : x ≡ k = eqb-true x k e in
    let not_yet : among k xs ≡ false = ap (λ i. among i xs) (sym same) ∙ h in
    let more = free_more k x xs in
    subst (λ b. free k (x ∷ xs) < with_one b (free k xs)) (sym not_yet) (omega (arith, more))
last_or_less k x xs false e p h later =
    with_one_less (among k xs) (free k (x ∷ xs)) (free k xs) (later (below k x e p))

-- a number that is not among the others
pub free_less : (k x : ℕ) (xs : List ℕ) → x < k → among x xs ≡ false → free k (x ∷ xs) < free k xs
free_less zero x xs p h = absurd (omega (arith, p))
free_less (suc k) x xs p h = last_or_less k x xs (eqb x k) refl p h (λ q. free_less k x xs q h)

-- of the pairs of a number that is left and a number that is greater than x, how many are left
abbrev pub weight : ℕ → ℕ → List ℕ → ℕ
weight n x xs = free n xs * n + (n - x)

-- after a greater number fewer are left
pub weight_greater : (n x y : ℕ) (xs : List ℕ) → x < y → y < n → weight n y (y ∷ xs) < weight n x xs
weight_greater n x y xs p q =
    let less = mul-le-mul_right n (free_more n y xs) in
    omega (arith, p, q, less)

-- after one that is not among the others too
pub weight_new : (n x y : ℕ) (xs : List ℕ) → x < n → y < n → among y xs ≡ false → weight n y (y ∷ xs) < weight n x xs
weight_new n x y xs p q h =
    let less = free_less n y xs q h in
    let small : suc (free n (y ∷ xs)) ≤ free n xs = omega (arith, less) in
    let product = mul-le-mul_right n small in
    let one = suc-mul (free n (y ∷ xs)) n in
    omega (arith, p, q, product, one)

-- at first
pub weight_first : (n x : ℕ) → x < n → weight n x (x ∷ []) ≤ n * n
weight_first n x p =
    let less = free_less n x [] p refl in
    let most = free_most n [] in
    let small : suc (free n (x ∷ [])) ≤ n = omega (arith, less, most) in
    let product = mul-le-mul_right n small in
    let one = suc-mul (free n (x ∷ [])) n in
    omega (arith, p, product, one)
