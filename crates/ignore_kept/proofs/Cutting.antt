-- A text that is cut at its zeros, one at a time.
use Rattle.std.proofs.Common.{◌≡◌, ℕ, zero, suc, ◌+◌, ◌-◌, ◌<◌, true, false, eqb, List, [], ◌∷◌, ◌++◌, length, take, drop, map, get_or, sym, ap, ◌∙◌, arith, add-one}
use Rattle.std.proofs.lemmas.Bool.{false_from_ne_true}
use Rattle.std.proofs.lemmas.List.{append_assoc, map-append}
use Rattle.std.proofs.lemmas.List.Elements.{All-from_get_or}
use Rattle.std.proofs.lemmas.List.Splits.{slice_split-cons_yes, slice_split-cons_no, slice_split_none}
use Rattle.std.specs.List.{onto_first, slice_range}
use denote.Bor.{Bor}
use Rattle.memchr.specs.Find.{Nowhere, Passes, is_byte}
use Rattle.ignore_kept.specs.Listings.{pieces}

-- the first piece ends before the first zero
cut_before : (bytes : List ℕ) (k : ℕ) → k < length bytes → eqb (get_or bytes k 0) 0 ≡ true
    → ((i : ℕ) → i < k → eqb (get_or bytes i 0) 0 ≡ false) → pieces bytes ≡ take k bytes ∷ pieces (drop (suc k) bytes)
cut_before [] k l here before = absurd (omega (arith, l))
cut_before (x ∷ xs) zero l here before = slice_split-cons_yes (λ b. eqb b 0) x xs here
cut_before (x ∷ xs) (suc k) l here before =
    slice_split-cons_no (λ b. eqb b 0) x xs (before 0 (omega arith))
    ∙ ap (onto_first x) (cut_before xs k (omega (arith, l)) here (λ i h. before (suc i) (omega (arith, h))))

-- the first zero of a text
pub cut_at_zero : (bytes : List ℕ) (k : ℕ) → k < length bytes → Passes (is_byte 0) bytes k → Nowhere (Passes (is_byte 0) bytes) 0 k
    → pieces bytes ≡ take k bytes ∷ pieces (drop (k + 1) bytes)
cut_at_zero bytes k l here before =
    cut_before bytes k l here (λ i h. false_from_ne_true _ (before i (omega arith) h))
    ∙ ap (λ n. take k bytes ∷ pieces (drop n bytes)) (sym (add-one k))

-- nothing is taken away
whole : (k : ℕ) → k - 0 ≡ k
whole k = omega arith

-- what stands before it and what stands after it, by their ranges
pub cut_parts : (bytes piece after : List ℕ) (k : ℕ) → k < length bytes → Passes (is_byte 0) bytes k → Nowhere (Passes (is_byte 0) bytes) 0 k
    → piece ≡ slice_range bytes 0 k → after ≡ drop (k + 1) bytes → length after + (k + 1) ≡ length bytes
    → (pieces bytes ≡ piece ∷ pieces after) × (length after < length bytes)
cut_parts bytes piece after k l here before is rest e = (
  cut_at_zero bytes k l here before
      ∙ (ap (λ n. take n bytes ∷ pieces (drop (k + 1) bytes)) (sym (whole k))
      ∙ (ap (λ (p : List ℕ). p ∷ pieces (drop (k + 1) bytes)) (sym is) ∙ ap (λ r. piece ∷ pieces r) (sym rest))),
  omega (arith, e),
)

-- a text without one is one piece
pub one_piece : (bytes : List ℕ) → Nowhere (Passes (is_byte 0) bytes) 0 (length bytes) → pieces bytes ≡ bytes ∷ []
one_piece bytes none =
    slice_split_none (λ b. eqb b 0) bytes (All-from_get_or (λ b. eqb b 0 ≡ false) bytes 0 (λ i l. false_from_ne_true _ (none i (omega arith) l)))

-- the pieces so far, and one more
pub piece_more : (text rest piece after : List ℕ) (all more : List (Bor (List ℕ))) (b : Bor (List ℕ)) → b.now ≡ piece
    → pieces text ≡ map (λ p. p.now) all ++ pieces rest → pieces rest ≡ piece ∷ pieces after → more ≡ all ++ b ∷ []
    → pieces text ≡ map (λ p. p.now) more ++ pieces after
piece_more text rest piece after all more b is so cut e =
    so ∙ (ap (λ l. map (λ p. p.now) all ++ l) (cut ∙ ap (λ (x : List ℕ). x ∷ pieces after) (sym is))
    ∙ (sym (append_assoc (map (λ p. p.now) all) (b.now ∷ []) (pieces after))
    ∙ ap (λ l. l ++ pieces after) (sym (map-append (λ (p : Bor (List ℕ)). p.now) all (b ∷ [])) ∙ ap (map (λ p. p.now)) (sym e))))

-- the last one
pub piece_last : (text rest : List ℕ) (all more : List (Bor (List ℕ))) (b : Bor (List ℕ)) → b.now ≡ rest
    → pieces text ≡ map (λ p. p.now) all ++ pieces rest → pieces rest ≡ rest ∷ [] → more ≡ all ++ b ∷ [] → map (λ p. p.now) more ≡ pieces text
piece_last text rest all more b is so one e =
    ap (map (λ p. p.now)) e ∙ (map-append (λ (p : Bor (List ℕ)). p.now) all (b ∷ [])
    ∙ (ap (λ (x : List ℕ). map (λ p. p.now) all ++ x ∷ []) is ∙ sym (so ∙ ap (λ l. map (λ p. p.now) all ++ l) one)))
