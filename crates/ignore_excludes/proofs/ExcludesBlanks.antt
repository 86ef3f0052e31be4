-- Leading white space is stripped from a text in one way.
use Rattle.std.proofs.Common.{◌≡◌, inl, inr, ℕ, suc, Bool, false, List, [], ◌∷◌, ◌++◌, All, if◌then◌else◌, refl, sym, ap, ◌∙◌, subst, arith}
use Rattle.std.specs.List.{AllByRecursion}
use Rattle.std.proofs.lemmas.List.{append_assoc}
use Rattle.std.proofs.lemmas.Bool.{cases_Bool, both_ways}
use Rattle.ignore_excludes.specs.Excludes.{is_space, IsBlank, Then, EndsLine, trimmed_start}

-- no byte, or first one that is no white space
abbrev pub StartsSolid : List ℕ → Type 0
StartsSolid [] = Unit {0}
StartsSolid (b ∷ bs) = is_space b ≡ false

pub trimmed_start-append : (blank rest : List ℕ) → IsBlank blank → trimmed_start (blank ++ rest) ≡ trimmed_start rest
trimmed_start-append [] rest h = refl
trimmed_start-append (b ∷ bs) rest h = rw h.0 (trimmed_start-append bs rest h.1)

pub trimmed_start-solid : (text : List ℕ) → StartsSolid text → trimmed_start text ≡ text
trimmed_start-solid [] h = refl
trimmed_start-solid (b ∷ bs) h = rw h refl

pub StartsSolid-trimmed_start : (text : List ℕ) → StartsSolid (trimmed_start text)
StartsSolid-trimmed_start [] = tt
StartsSolid-trimmed_start (b ∷ bs) =
    let P : Bool → Type 0 = λ t. StartsSolid (if t then trimmed_start bs else b ∷ bs) in
    elim (cases_Bool (is_space b)) [
      | inl e ↦ subst P (sym e) (StartsSolid-trimmed_start bs)
      | inr e ↦ subst P (sym e) e
    ]

pub IsBlank-append : (a b : List ℕ) → IsBlank a → IsBlank b → IsBlank (a ++ b)
IsBlank-append [] b h k = k
IsBlank-append (x ∷ xs) b h k = (h.0, IsBlank-append xs b h.1 k)

-- the white space that a text begins with
pub prefix_of : (text : List ℕ) → (blank : List ℕ) × (text ≡ blank ++ trimmed_start text) × IsBlank blank
prefix_of [] = ([], refl, tt)
prefix_of (b ∷ bs) =
    let P : Bool → Type 0 = λ t. (blank : List ℕ) × (b ∷ bs ≡ blank ++ (if t then trimmed_start bs else b ∷ bs)) × IsBlank blank in
    elim (cases_Bool (is_space b)) [
      | inl e ↦ (let more = prefix_of bs in subst P (sym e) (b ∷ more.0, ap (λ t. b ∷ t) more.1, (e, more.2)))
      | inr e ↦ subst P (sym e) ([], refl, tt)
    ]

-- what follows white space, where that begins with none
pub after_blank : (Q : List ℕ → Type 0) (text : List ℕ) → ((rest : List ℕ) → Q rest → StartsSolid rest) → Then IsBlank Q text
    → Q (trimmed_start text)
after_blank Q text starts h =
    let e : trimmed_start text ≡ h.1 = ap trimmed_start h.2
    ∙ (trimmed_start-append h.0 h.1 h.3 ∙ trimmed_start-solid h.1 (starts h.1 h.4)) in
    subst Q (sym e) h.4

pub before_blank : (Q : List ℕ → Type 0) (text : List ℕ) → Q (trimmed_start text) → Then IsBlank Q text
before_blank Q text h = let prefix = prefix_of text in (prefix.0, trimmed_start text, prefix.1, prefix.2, h)

-- no line ends at a byte that is no white space
pub EndsLine-solid : (b : ℕ) (bs : List ℕ) → is_space b ≡ false → EndsLine (b ∷ bs) → ⊥
EndsLine-solid b bs solid ([], rest, e, blank, inl end) = let no : b ∷ bs ≡ [] = e ∙ end in absurd (cc)
EndsLine-solid b bs solid ([], rest, e, blank, inr end) =
    let first : b ∷ bs ≡ 10 ∷ end.0 = e ∙ end.1 in
    let same : b ≡ 10 = cc in
    both_ways (is_space b) solid (ap is_space same)
EndsLine-solid b bs solid (c ∷ cs, rest, e, blank, end) =
    let same : b ≡ c = cc in
    both_ways (is_space b) solid (ap is_space same ∙ blank.0)

pub EndsLine-append : (blank text : List ℕ) → IsBlank blank → EndsLine text → EndsLine (blank ++ text)
EndsLine-append blank text h k = (
  blank ++ k.0,
  k.1,
  ap (λ t. blank ++ t) k.2
      ∙ sym (append_assoc blank k.0 k.1),
  IsBlank-append blank k.0 h k.3,
  k.4,
)

-- a byte of white space other than a newline leaves the question to what follows it
pub EndsLine-more : (b : ℕ) (bs : List ℕ) → (b ≡ 10 → ⊥) → EndsLine (b ∷ bs) → EndsLine bs
EndsLine-more b bs other ([], rest, e, blank, inl end) = let no : b ∷ bs ≡ [] = e ∙ end in absurd (cc)
EndsLine-more b bs other ([], rest, e, blank, inr end) =
    let first : b ∷ bs ≡ 10 ∷ end.0 = e ∙ end.1 in
    absurd (other (cc))
EndsLine-more b bs other (c ∷ cs, rest, e, blank, end) = let same : bs ≡ cs ++ rest = cc in (cs, rest, same, blank.1, end)

-- what holds of each byte holds of one after another
pub one_by_one : (P : ℕ → Type 0) (xs : List ℕ) → All P xs → AllByRecursion P xs
one_by_one P [] h = tt
one_by_one P (x ∷ xs) h = (h 0 x (omega arith), one_by_one P xs (λ k d l. h (suc k) d (omega (arith, l))))
