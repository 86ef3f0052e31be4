-- Which values stand first in a text: its first word, or that word without a `"` at its end.
use Rattle.std.proofs.Common.{◌≡◌, ◌≢◌, ◌⊎◌, inl, inr, ℕ, true, false, List, [], ◌∷◌, ◌++◌, None, Some, length, length-append, refl, sym}
use Rattle.std.proofs.Common.{ap, ◌∙◌, subst, arith}
use Rattle.std.proofs.lemmas.List.{append_cancel_right, append_assoc}
use Rattle.std.proofs.lemmas.Bool.{both_ways}
use Rattle.ignore_excludes.specs.Excludes.{is_space, IsSolid, EndsLine, ClosesValue, HasValue, IsShortest, trimmed_start, StartsBlank}
use Rattle.ignore_excludes.specs.Excludes.{IsUnquoted}
use Rattle.ignore_excludes.proofs.ExcludesBlanks.{StartsSolid, trimmed_start-append, trimmed_start-solid, prefix_of, EndsLine-solid}
use Rattle.ignore_excludes.proofs.ExcludesBlanks.{EndsLine-append}

-- a byte that is no white space and closes the line is a `"`
closing : (x : ℕ) (w rest after : List ℕ) → rest ≡ x ∷ (w ++ after) → is_space x ≡ false → IsSolid w → ClosesValue rest
    → (x ∷ w ≡ 34 ∷ []) × EndsLine after
closing x w rest after e solid more (c ∷ cs, r, d, blank, later) =
    let same : c ≡ x = cc in
    absurd (both_ways (is_space x) solid (ap is_space (sym same) ∙ blank.0))
closing x w rest after e solid more ([], r, d, blank, (q, s, f, (false, none), ends)) =
    let same : s ≡ x ∷ (w ++ after) = cc in
    absurd (EndsLine-solid x (w ++ after) solid (subst EndsLine same ends))
closing x [] rest after e solid more ([], r, d, blank, (q, s, f, (true, one), ends)) =
    let both : x ∷ after ≡ 34 ∷ s = cc in
    let first : x ≡ 34 = cc in
    let then : s ≡ after = cc in
    (ap (λ b. b ∷ []) first, subst EndsLine then ends)
closing x (y ∷ w) rest after e solid more ([], r, d, blank, (q, s, f, (true, one), ends)) =
    let both : x ∷ (y ∷ (w ++ after)) ≡ 34 ∷ s = cc in
    let then : s ≡ y ∷ (w ++ after) = cc in
    absurd (EndsLine-solid y (w ++ after) more.0 (subst EndsLine then ends))

-- a value is the whole word, or all of it but a `"` that closes the line
pub first_word : (v word rest after : List ℕ) → v ++ rest ≡ word ++ after → IsSolid v → IsSolid word → StartsBlank after
    → ClosesValue rest → ((v ≡ word) × (rest ≡ after)) ⊎ ((word ≡ v ++ 34 ∷ []) × EndsLine after)
first_word [] [] rest after e p q s c = inl (refl, e)
first_word [] (x ∷ w) rest after e p q s c = inr (closing x w rest after e q.0 q.1 c)
first_word (b ∷ v) [] rest after e p q s c =
    let blank : is_space b ≡ true = subst StartsBlank (sym e) s in
    absurd (both_ways (is_space b) p.0 blank)
first_word (b ∷ v) (x ∷ w) rest after e p q s c =
    let first : b ≡ x = cc in
    let more : v ++ rest ≡ w ++ after = cc in
    elim (first_word v w rest after more p.1 q.1 s c) [
      | inl h ↦ inl ((let is = h.0 in cc), h.1)
      | inr h ↦ inr ((let is = h.0 in cc), h.1)
    ]

-- what may close the line: white space alone, or one `"` in it
pub Closes-cases : (after : List ℕ) → ClosesValue after → EndsLine after ⊎ ((rest : List ℕ) × (trimmed_start after ≡ 34 ∷ rest) × EndsLine rest)
Closes-cases after (a, r, d, blank, (q, s, f, (false, none), ends)) =
    let same : s ≡ r = cc in
    inl (subst EndsLine (sym d) (EndsLine-append a r blank (subst EndsLine same ends)))
Closes-cases after (a, r, d, blank, (q, s, f, (true, one), ends)) =
    let same : r ≡ 34 ∷ s = cc in
    inr (s, ap trimmed_start d ∙ (trimmed_start-append a r blank ∙ (ap trimmed_start same ∙ trimmed_start-solid (34 ∷ s) refl)), ends)

pub Closes-plain : (after : List ℕ) → EndsLine after → ClosesValue after
Closes-plain after h = ([], after, refl, tt, ([], after, refl, (false, refl), h))

pub Closes-quote : (after rest : List ℕ) → trimmed_start after ≡ 34 ∷ rest → EndsLine rest → ClosesValue after
Closes-quote after rest e h = let prefix = prefix_of after in
    (prefix.0, trimmed_start after, prefix.1, prefix.2, (34 ∷ [], rest, e, (true, refl), h))

-- the text begins with a value, and its line closes after it
pub HasValue-solid : (v text : List ℕ) → HasValue v text → StartsSolid text
HasValue-solid v text ([], rest, e, (is, ne, solid), closes) = absurd (ne (sym is))
HasValue-solid v text (b ∷ bs, rest, e, (is, ne, solid), closes) =
    let first : IsSolid (b ∷ bs) = subst IsSolid (sym is) solid in
    subst StartsSolid (sym e) first.0

IsSolid-prefix : (a b : List ℕ) → IsSolid (a ++ b) → IsSolid a
IsSolid-prefix [] b h = tt
IsSolid-prefix (x ∷ a) b h = (h.0, IsSolid-prefix a b h.1)

pub HasValue-cases : (v word after : List ℕ) → IsSolid word → StartsBlank after → HasValue v (word ++ after) → (v ≢ [])
    × (((v ≡ word) × ClosesValue after) ⊎ ((word ≡ v ++ 34 ∷ []) × EndsLine after))
HasValue-cases v word after q s (prefix, rest, e, (is, ne, solid), closes) =
    let whole : v ++ rest ≡ word ++ after = ap (λ t. t ++ rest) (sym is) ∙ sym e in (
      ne,
      elim (first_word v word rest after whole solid q s closes) [
        | inl h ↦ inl (h.0, subst ClosesValue h.1 closes)
        | inr h ↦ inr h
      ],
    )

pub no_word : (after : List ℕ) → StartsBlank after → IsShortest (λ (v : List ℕ). HasValue v after) None
no_word after s v h =
    let cases = HasValue-cases v [] after tt s h in
    elim cases.1 [
      | inl k ↦ cases.0 k.0
      | inr k ↦ (let both = ap length k.0 in omega (arith, length-append v (34 ∷ [])))
    ]

-- the line ends after the word
pub unquoted_word : (word after value : List ℕ) → word ≢ [] → IsSolid word → StartsBlank after → EndsLine after
    → IsUnquoted word value → IsShortest (λ (v : List ℕ). HasValue v (word ++ after)) (Some value)
unquoted_word word after value ne q s ends (inl (some, e)) = (
  (
    value,
    34 ∷ after,
    ap (λ t. t ++ after) e ∙ append_assoc value (34 ∷ []) after,
    (refl, some, IsSolid-prefix value (34 ∷ []) (subst IsSolid e q)),
    ([], 34 ∷ after, refl, tt, (34 ∷ [], after, refl, (true, refl), ends)),
  ),
  λ v h. (
      let cases = HasValue-cases v word after q s h in
      let len = ap length e in
      elim cases.1 [
        | inl k ↦ (let same = ap length k.0 in omega (arith, length-append value (34 ∷ [])))
        | inr k ↦ (let same = ap length (append_cancel_right value v (34 ∷ []) (sym e ∙ k.0)) in omega arith)
      ]
      ),
)
unquoted_word word after value ne q s ends (inr (is, unclosed)) =
    subst (λ (t : List ℕ). IsShortest (λ (v : List ℕ). HasValue v (word ++ after)) (Some t)) (sym is) (
      (word, after, refl, (refl, ne, q), Closes-plain after ends),
      λ v h. (
          let cases = HasValue-cases v word after q s h in
          elim cases.1 [
            | inl k ↦ (let same = ap length k.0 in omega arith)
            | inr k ↦ absurd (unclosed v cases.0 k.0)
          ]
          ),
    )

-- a `"` follows the word, before the line ends
pub whole_word : (word after : List ℕ) → word ≢ [] → IsSolid word → StartsBlank after → ClosesValue after → (EndsLine after → ⊥)
    → IsShortest (λ (v : List ℕ). HasValue v (word ++ after)) (Some word)
whole_word word after ne q s c never = (
  (word, after, refl, (refl, ne, q), c),
  λ v h. (
      let cases = HasValue-cases v word after q s h in
      elim cases.1 [
        | inl k ↦ (let same = ap length k.0 in omega arith)
        | inr k ↦ absurd (never k.1)
      ]
      ),
)

pub no_value : (word after : List ℕ) → IsSolid word → StartsBlank after → (ClosesValue after → ⊥)
    → IsShortest (λ (v : List ℕ). HasValue v (word ++ after)) None
no_value word after q s never v h =
    let cases = HasValue-cases v word after q s h in
    elim cases.1 [
      | inl k ↦ never k.1
      | inr k ↦ never (Closes-plain after k.1)
    ]
