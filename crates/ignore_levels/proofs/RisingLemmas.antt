-- Chains of rising offsets.
use Rattle.std.proofs.Common.{◌≡◌, ℕ, ◌<◌, Bool, true, false, cond, List, [], ◌∷◌, ◌++◌, reverse, sym, subst, arith}
use Rattle.std.proofs.lemmas.List.{reverse-append}
use Rattle.ignore_dir.specs.Lists.{Placed}
use Rattle.ignore_levels.specs.Levels.{IsBelow, IsRising, counting, counts}

-- each offset is less than this one
abbrev pub Under : ℕ → List Placed → Type 0
Under n [] = Unit {0}
Under n (p ∷ chain) = (p.1 < n) × Under n chain

-- all but the last rise, and the last is greater than each
pub rising-last : (floor : ℕ) (xs : List Placed) (p : Placed) → IsRising floor (xs ++ p ∷ [])
    → (floor < p.1) × (IsRising floor xs × Under p.1 xs)
rising-last floor [] p h = (h.0, (tt, tt))
rising-last floor (x ∷ xs) p h =
    let r = rising-last x.1 xs p h.1 in
    (omega (arith, h.0, r.0), ((h.0, r.1.0), (r.0, r.1.1)))

under-append : (n : ℕ) (xs ys : List Placed) → Under n xs → Under n ys → Under n (xs ++ ys)
under-append n [] ys h k = k
under-append n (x ∷ xs) ys h k = (h.0, under-append n xs ys h.1 k)

pub turned : (xs : List Placed) (x : Placed) → reverse (xs ++ x ∷ []) ≡ x ∷ reverse xs
turned xs x = reverse-append xs (x ∷ [])

under-reverse : (n : ℕ) (xs : List Placed) → Under n xs → Under n (reverse xs)
under-reverse n [] h = tt
under-reverse n (x ∷ xs) h =
    subst (Under n) (sym (reverse-append (x ∷ []) xs)) (under-append n (reverse xs) (x ∷ []) (under-reverse n xs h.1) (h.0, tt))

under-step : (n : ℕ) (x : Placed) (xs : List Placed) → x.1 < n → Under n xs → (b : Bool) → Under n (cond b (x ∷ xs) xs)
under-step n x xs h k true = (h, k)
under-step n x xs h k false = k

under-counting : (n : ℕ) (xs : List Placed) → Under n xs → Under n (counting xs)
under-counting n [] h = tt
under-counting n (x ∷ xs) h = under-step n x (counting xs) h.0 (under-counting n xs h.1) (counts x.0)

under-below : (n : ℕ) (xs : List Placed) → Under n xs → IsBelow n xs
under-below n [] h = tt
under-below n (x ∷ xs) h = h.0

-- the next offset is greater than that of the nearest directory that counts
pub rising-below : (n : ℕ) (xs : List Placed) → Under n xs → IsBelow n (counting (reverse xs))
rising-below n xs h = under-below n (counting (reverse xs)) (under-counting n (reverse xs) (under-reverse n xs h))
