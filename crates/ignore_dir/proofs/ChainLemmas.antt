-- A chain by offsets, and one directory more.
use Rattle.std.proofs.Common.{◌≡◌, ℕ, ◌+◌, List, [], ◌∷◌, ◌++◌, length, refl, sym, ap, ◌∙◌, append_assoc, arith}
use Rattle.std.proofs.lemmas.List.{length-append}
use Rattle.ignore_dir.specs.declared.dir.Dir.{Dir}
use Rattle.ignore_dir.specs.Chains.{placed_along, slashed}
use Rattle.ignore_dir.specs.Lists.{Placed}

-- names with slashes, and one more
pub slashed-more : (names : List (List ℕ)) (name : List ℕ) → slashed (names ++ name ∷ []) ≡ slashed names ++ (name ++ 47 ∷ [])
slashed-more [] name = refl
slashed-more (a ∷ names) name =
    ap (λ t. a ++ 47 ∷ t) (slashed-more names name) ∙ sym (append_assoc a (47 ∷ slashed names) (name ++ 47 ∷ []))

-- a chain grows by one directory
pub placed_along-more : (offset : ℕ) (dirs : List Dir) (names : List (List ℕ)) (dir : Dir) (name : List ℕ) → length dirs ≡ length names
    → placed_along offset (dirs ++ dir ∷ []) (names ++ name ∷ []) ≡ placed_along offset dirs names
    ++ (dir, offset + length (slashed names)) ∷ []
placed_along-more offset [] [] dir name e = ap (λ n. (dir, n) ∷ []) (omega arith)
placed_along-more offset [] (n ∷ names) dir name e = absurd (omega arith)
placed_along-more offset (d ∷ dirs) [] dir name e = absurd (omega arith)
placed_along-more offset (d ∷ dirs) (n ∷ names) dir name e =
    let size : length (n ++ 47 ∷ slashed names) ≡ length n + (1 + length (slashed names)) =
    length-append n (47 ∷ slashed names) ∙ omega arith in
    ap (λ (l : List Placed). (d, offset) ∷ l)
    (placed_along-more (offset + length n + 1) dirs names dir name (omega arith)
    ∙ ap (λ k. placed_along (offset + length n + 1) dirs names ++ (dir, k) ∷ []) (omega arith))
