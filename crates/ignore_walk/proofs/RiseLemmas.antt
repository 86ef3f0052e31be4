-- The offsets of the directories around a place, and of those on the way along names, are less than
-- that of what they lead to.
use Rattle.std.proofs.Common.{◌≡◌, ℕ, ◌+◌, ◌<◌, ◌≤◌, Bool, true, false, cond, List, [], ◌∷◌, ◌++◌, length, reverse, refl, sym, ap, ◌∙◌, subst, arith}
use Rattle.std.proofs.lemmas.List.{length-append, reverse-append}
use Rattle.ignore_dir.specs.declared.dir.Dir.{Dir}
use Rattle.ignore_dir.specs.Above.{directories_along, dirs_above, names_above}
use Rattle.ignore_dir.specs.Chains.{placed_along, slashed}
use Rattle.ignore_dir.specs.Lists.{Placed}
use Rattle.ignore_levels.specs.Levels.{IsBelow, counted, counting, counts}
use Rattle.ignore_walk.specs.Branch.{Branch, path_of, placed_above, placed_around, placed_to, text_at}
use Rattle.ignore_walk.specs.Scene.{Scene}
use Rattle.ignore_walk.specs.Shared.{placed_down}
use Rattle.ignore_walk.proofs.PlaceLemmas.{length-held}

-- each offset is less than this one
abbrev Under : ℕ → List Placed → Type 0
Under n [] = Unit {0}
Under n (p ∷ chain) = (p.1 < n) × Under n chain

under-wider : (n m : ℕ) (xs : List Placed) → n ≤ m → Under n xs → Under m xs
under-wider n m [] le h = tt
under-wider n m (x ∷ xs) le h = (omega (arith, h.0), under-wider n m xs le h.1)

under-append : (n : ℕ) (xs ys : List Placed) → Under n xs → Under n ys → Under n (xs ++ ys)
under-append n [] ys h k = k
under-append n (x ∷ xs) ys h k = (h.0, under-append n xs ys h.1 k)

under-reverse : (n : ℕ) (xs : List Placed) → Under n xs → Under n (reverse xs)
under-reverse n [] h = tt
under-reverse n (x ∷ xs) h =
    subst (Under n) (sym (reverse-append (x ∷ []) xs)) (under-append n (reverse xs) (x ∷ []) (under-reverse n xs h.1) (h.0, tt))

under-step : (n : ℕ) (x : Placed) (xs : List Placed) → x.1 < n → Under n xs → (b : Bool) → Under n (cond b (x ∷ xs) xs)
under-step n x xs h k true = (h, k)
under-step n x xs h k false = k

under-counting : (n : ℕ) (xs : List Placed) → Under n xs → Under n (counting xs)
under-counting n [] h = tt
under-counting n (x ∷ xs) h = under-step n x (counting xs) h.0 (under-counting n xs h.1) (counts x.0)

under-below : (n : ℕ) (xs : List Placed) → Under n xs → IsBelow n xs
under-below n [] h = tt
under-below n (x ∷ xs) h = h.0

-- directories along names

under-placed : (offset : ℕ) (dirs : List Dir) (names : List (List ℕ)) → length dirs ≡ length names
    → Under (offset + length (slashed names)) (placed_along offset dirs names)
under-placed offset [] names e = tt
under-placed offset (d ∷ dirs) [] e = absurd (omega arith)
under-placed offset (d ∷ dirs) (n ∷ names) e =
    let size : length (n ++ 47 ∷ slashed names) ≡ length n + (1 + length (slashed names)) = length-append n (47 ∷ slashed names) ∙ omega arith in
    let end : (offset + length n + 1) + length (slashed names) ≡ offset + length (slashed (n ∷ names)) = omega arith in
    let first : offset < offset + length (slashed (n ∷ names)) = omega arith in (
      first,
      subst (λ (k : ℕ). Under k (placed_along (offset + length n + 1) dirs names)) end (under-placed (offset + length n + 1) dirs names (omega arith)),
    )

under-down : (g : Scene) (names : List (List ℕ)) → Under (1 + length (slashed names)) (placed_down g names)
under-down g names =
    let held = dirs_above g.loads g.settings (directories_along (47 ∷ []) names) in
    under-reverse (1 + length (slashed names)) (placed_along 1 held names) (under-placed 1 held names (length-held g names))

-- the offset of a directory is greater than those of the ones on the way to it
pub below-down : (g : Scene) (names : List (List ℕ)) (n : ℕ) → n ≡ 1 + length (slashed names) → IsBelow n (counting (placed_down g names))
below-down g names n e =
    subst (λ (k : ℕ). IsBelow k (counting (placed_down g names))) (sym e)
    (under-below _ (counting (placed_down g names)) (under-counting _ (placed_down g names) (under-down g names)))

module _ (g : Scene) (root : List ℕ) where
  to-is : (b : Branch) → placed_to g root b ≡ ((g.loads (path_of root b)).0, length (text_at g root b)) ∷ placed_around g root b
  to-is [] = refl
  to-is (name ∷ b) = refl

  under-around : (b : Branch) → Under (length (text_at g root b)) (placed_around g root b)
  under-around [] =
      let names = names_above g.tree g.settings root in
      let size : 1 + length (slashed names) ≡ length (text_at g root []) = omega arith in
      subst (λ (n : ℕ). Under n (placed_above g root)) size (under-down g names)
  under-around (name ∷ b) =
      let here = length (text_at g root b) in
      let next = length (text_at g root (name ∷ b)) in
      let size : next ≡ here + length (name ++ 47 ∷ []) = length-append (text_at g root b) (name ++ 47 ∷ []) in
      let more : length (name ++ 47 ∷ []) ≡ length name + 1 = length-append name (47 ∷ []) in
      subst (Under next) (sym (to-is b)) ((omega (arith, size, more), under-wider here next (placed_around g root b) (omega (arith, size)) (under-around b)))

  pub below-around : (b : Branch) (n : ℕ) → n ≡ length (text_at g root b) → IsBelow n (counting (placed_around g root b))
  below-around b n e =
      subst (λ (k : ℕ). IsBelow k (counting (placed_around g root b))) (sym e)
      (under-below _ (counting (placed_around g root b)) (under-counting _ (placed_around g root b) (under-around b)))

  -- the chain with a directory below it that was loaded
  pub counted-is : (b : Branch) (dir : Dir) (n : ℕ) → dir ≡ (g.loads (path_of root b)).0 → n ≡ length (text_at g root b)
      → counted dir n (counting (placed_around g root b)) ≡ counting (placed_to g root b)
  counted-is b dir n d e = rw (d, e) (sym (ap counting (to-is b)))
