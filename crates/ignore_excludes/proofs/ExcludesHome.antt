-- The home directory in place of each `~`: what stands before the first one, the home directory,
-- and what the rest gives.
use Rattle.std.proofs.Common.{◌≡◌, inl, inr, ℕ, suc, ◌+◌, ◌<◌, ◌==◌, Bool, List, [], ◌∷◌, ◌++◌, length, if◌then◌else◌, refl, sym, ap, ◌∙◌}
use Rattle.std.proofs.Common.{arith}
use Rattle.std.specs.List.{flat_map, position_or_len, before_first, after_first}
use Rattle.std.proofs.lemmas.List.{append_assoc}
use Rattle.std.proofs.lemmas.Bool.{cases_Bool}
use Rattle.std.proofs.lemmas.Grind.{common_steps}

-- what stands in place of a byte
abbrev pub in_place : List ℕ → ℕ → List ℕ
in_place home b = if b == 126 then home else b ∷ []

abbrev pub is_tilde : ℕ → Bool
is_tilde b = b == 126

pub flat_map-no_tilde : (home bs : List ℕ) → position_or_len is_tilde bs ≡ length bs → flat_map (in_place home) bs ≡ bs
flat_map-no_tilde home [] e = refl
flat_map-no_tilde home (b ∷ bs) e = elim (cases_Bool (is_tilde b)) [
  | inl h ↦ (let none : 0 ≡ suc (length bs) = rw h at e in absurd (omega arith))
  | inr h ↦ (
      let more : 1 + position_or_len is_tilde bs ≡ suc (length bs) = rw h at e in
      let rest = flat_map-no_tilde home bs (omega arith) in
      rw h (ap (λ t. b ∷ t) rest)
      )
]

pub flat_map-first_tilde : (home bs : List ℕ) → position_or_len is_tilde bs < length bs → flat_map (in_place home) bs
    ≡ before_first is_tilde bs ++ (home ++ flat_map (in_place home) (after_first is_tilde bs))
flat_map-first_tilde home [] e = absurd (omega arith)
flat_map-first_tilde home (b ∷ bs) e = elim (cases_Bool (is_tilde b)) [
  | inl h ↦ rw h refl
  | inr h ↦ (
      let n = position_or_len is_tilde bs in
      let more : 1 + n < suc (length bs) = rw h at e in
      let rest = flat_map-first_tilde home bs (omega arith) in
      rw h (grind (arith, common_steps, rest))
      )
]

-- one `~` more is written
pub written_more : (home value text rest before after first second : List ℕ) → position_or_len is_tilde rest < length rest → before
    ≡ before_first is_tilde rest → after ≡ after_first is_tilde rest → first ≡ text ++ before → second ≡ first ++ home
    → text ++ flat_map (in_place home) rest ≡ flat_map (in_place home) value → second ++ flat_map (in_place home) after
    ≡ flat_map (in_place home) value
written_more home value text rest before after first second inside b a f s e =
    let tail : List ℕ = flat_map (in_place home) after in
    let cut : flat_map (in_place home) rest ≡ before ++ (home ++ tail) = (
    flat_map-first_tilde home rest inside
    ∙ (ap (λ t. t ++ (home ++ flat_map (in_place home) (after_first is_tilde rest))) (sym b)
    ∙ ap (λ t. before ++ (home ++ flat_map (in_place home) t)) (sym a))
    ) in
    let whole : second ++ tail ≡ text ++ (before ++ (home ++ tail)) = (
    ap (λ t. t ++ tail) (s ∙ ap (λ t. t ++ home) f)
    ∙ (append_assoc (text ++ before) home tail ∙ append_assoc text before (home ++ tail))
    ) in
    whole ∙ (ap (λ t. text ++ t) (sym cut) ∙ e)
