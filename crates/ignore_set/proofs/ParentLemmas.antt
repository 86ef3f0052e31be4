-- Parents of texts, their numbers and their bits.
use Rattle.std.proofs.Common.{◌≡◌, ◌≢◌, ℕ, zero, suc, ◌+◌, ◌-◌, ◌*◌, ◌/◌, ◌%◌, ◌^◌, ◌<◌, ◌≤◌, List, [], ◌∷◌, ◌++◌, length, get_or, set}
use Rattle.std.proofs.Common.{take, drop, slice_get, Some, refl, sym, ap, subst, ◌∙◌, inl, inr, arith, add-one, drop-cons}
use Rattle.std.specs.Prelude.{bit_or}
use Rattle.std.specs.List.{slice_range}
use Rattle.std.proofs.lemmas.List.{length-append}
use Rattle.std.proofs.lemmas.List.Elements.{All-get_or}
use Rattle.std.proofs.lemmas.Option.{slice_get_within, slice_get-get_or}
use Rattle.ignore_glob.specs.Ends.{HasParent}
use Rattle.ignore_set.specs.Parents.{HasBit, number_of}
use Rattle.ignore_set.proofs.BucketLemmas.{set_here, set_there, set_length}
use Rattle.ignore_set.proofs.IndexLemmas.{some_same, split}
use Rattle.ignore_set.proofs.MaskLemmas.{marked_here, marked_more}

-- the number, byte by byte from the end
pub number_step : (bytes : List ℕ) (at : ℕ) → at < length bytes
    → number_of (drop at bytes) ≡ (number_of (drop (at + 1) bytes) * 31 + get_or bytes at 0) % 65536
number_step bytes at fits = rw add-one (ap number_of (drop-cons bytes at 0 fits))

pub slice_front : (text : List ℕ) (n : ℕ) → slice_range text 0 n ≡ take n text
slice_front text n = ap (λ k. take k text) zero_less
  where
    zero_less : n - 0 ≡ n
    zero_less = omega arith

-- a text has one parent: it ends at the last slash
pub parent_at : (text parent : List ℕ) → HasParent parent text
    → (s : ℕ) × (length parent ≡ s + 1) × (parent ≡ take (s + 1) text) × (s < length text) × (get_or text s 0 ≡ 47)
    × ((j : ℕ) → s < j → j < length text → get_or text j 0 ≡ 47 → ⊥)
parent_at text parent ((front, ends), name, cut, plain) = (
  length front,
  size,
  sym (ap (take (length front + 1)) cut ∙ (ap (λ n. take n (parent ++ name)) (sym size) ∙ whole parent)),
  omega (arith, ap length cut, length-append parent name, size),
  at (ends_at parent front ends),
  later,
)
  where
    size : length parent ≡ length front + 1
    size = ap length ends ∙ length-append front (47 ∷ [])

    whole : (xs : List ℕ) → take (length xs) (xs ++ name) ≡ xs
    whole [] = nothing name
      where
        nothing : (ys : List ℕ) → take 0 ys ≡ []
        nothing [] = refl
        nothing (y ∷ ys) = refl
    whole (x ∷ xs) = ap (λ l. x ∷ l) (whole xs)

    ends_at : (xs ys : List ℕ) → xs ≡ ys ++ 47 ∷ [] → get_or xs (length ys) 0 ≡ 47
    ends_at xs ys e = ap (λ l. get_or l (length ys) 0) e ∙ last ys
      where
        last : (zs : List ℕ) → get_or (zs ++ 47 ∷ []) (length zs) 0 ≡ 47
        last [] = refl
        last (z ∷ zs) = last zs

    left : (xs ys : List ℕ) (k : ℕ) → k < length xs → get_or (xs ++ ys) k 0 ≡ get_or xs k 0
    left [] ys k less = absurd (omega (arith, less))
    left (x ∷ xs) ys zero less = refl
    left (x ∷ xs) ys (suc k) less = left xs ys k (omega (arith, less))

    at : get_or parent (length front) 0 ≡ 47 → get_or text (length front) 0 ≡ 47
    at e = ap (λ l. get_or l (length front) 0) cut ∙ (left parent name (length front) (omega (arith, size)) ∙ e)

    right : (xs ys : List ℕ) (k : ℕ) → length xs ≤ k → get_or (xs ++ ys) k 0 ≡ get_or ys (k - length xs) 0
    right [] ys k more = ap (λ n. get_or ys n 0) (let e : k ≡ k - 0 = omega arith in e)
    right (x ∷ xs) ys zero more = absurd (omega (arith, more))
    right (x ∷ xs) ys (suc k) more =
        let e : k - length xs ≡ suc k - length (x ∷ xs) = omega arith in
        right xs ys k (omega (arith, more)) ∙ ap (λ n. get_or ys n 0) e

    later : (j : ℕ) → length front < j → j < length text → get_or text j 0 ≡ 47 → ⊥
    later j after fits slash =
        let more : length parent ≤ j = omega (arith, size, after) in
        All-get_or (λ b. b ≢ 47) name (j - length parent) 0
        (omega (arith, more, fits, ap length cut, length-append parent name)) plain
        (sym (ap (λ l. get_or l j 0) cut ∙ right parent name j more) ∙ slash)

pub one_parent : (text parent : List ℕ) (at : ℕ) → HasParent parent text → at < length text → get_or text at 0 ≡ 47
    → ((i : ℕ) → at < i → i < length text → get_or text i 0 ≢ 47) → (parent ≡ take (at + 1) text) × (length parent ≡ at + 1)
one_parent text parent at has fits slash none =
    let p = parent_at text parent has in
    elim (split p.0 at) [
      | inl before ↦ absurd (p.5 at before fits slash)
      | inr (inl same) ↦ (p.2 ∙ ap (λ n. take (n + 1) text) same, omega (arith, p.1, same))
      | inr (inr later) ↦ absurd (none p.0 (omega (arith, later)) p.3 p.4)
    ]

pub no_parent : (text parent : List ℕ) → HasParent parent text → ((i : ℕ) → i < length text → get_or text i 0 ≢ 47) → ⊥
no_parent text parent has none = let p = parent_at text parent has in none p.0 p.3 p.4

-- Bits.

-- a text keeps its bit where another is put into a word
pub bit_kept : (words : List ℕ) (at w bit : ℕ) (t : List ℕ) → slice_get words at ≡ Some w → HasBit words t
    → HasBit (set words at (bit_or w bit)) t
bit_kept words at w bit t was had word got = elim (split (number_of t / 64) at) [
  | inl before ↦ there (λ e. omega (arith, e, before))
  | inr (inl same) ↦
      let now : word ≡ bit_or w bit = some_same word (bit_or w bit)
      (sym got ∙ (ap (λ k. slice_get (set words at (bit_or w bit)) k) same
      ∙ set_here words at (bit_or w bit) (slice_get_within words at w was))) in
      subst (λ x. bit_or (2 ^ (number_of t % 64)) x ≡ x) (sym now)
      (marked_more (2 ^ (number_of t % 64)) w bit (had w (ap (λ k. slice_get words k) same ∙ was)))
  | inr (inr later) ↦ there (λ e. omega (arith, e, later))
]
  where
    there : number_of t / 64 ≢ at → bit_or (2 ^ (number_of t % 64)) word ≡ word
    there differs =
        let place = number_of t / 64 in
        let within : place < length words =
        omega (arith, slice_get_within (set words at (bit_or w bit)) place word got, set_length words at (bit_or w bit)) in
        let old = slice_get-get_or words place 0 within in
        let same : word ≡ get_or words place 0 =
        some_same word (get_or words place 0)
        (sym got ∙ set_there words at place (bit_or w bit) (get_or words place 0) differs old) in
        had word (old ∙ ap Some (sym same))

-- and a text has its own
pub bit_here : (words text : List ℕ) (at w bit : ℕ) → at ≡ number_of text / 64 → bit ≡ 2 ^ (number_of text % 64) → at < length words
    → HasBit (set words at (bit_or w bit)) text
bit_here words text at w bit place is fits word got =
    let now : word ≡ bit_or w bit = some_same word (bit_or w bit)
    (sym got ∙ (ap (λ k. slice_get (set words at (bit_or w bit)) k) (sym place) ∙ set_here words at (bit_or w bit) fits)) in
    subst (λ x. bit_or (2 ^ (number_of text % 64)) x ≡ x) (sym now)
    (subst (λ b. bit_or b (bit_or w bit) ≡ bit_or w bit) is (marked_here w bit))

pub bit_past : (words text : List ℕ) → length words ≤ number_of text / 64 → HasBit words text
bit_past words text past word got = absurd (omega (arith, past, slice_get_within words (number_of text / 64) word got))
