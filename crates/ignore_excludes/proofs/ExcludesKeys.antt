-- What a key gives: the value after its equals sign, with an opening `"` taken for the quote first.
use Rattle.std.proofs.Common.{◌≡◌, inl, inr, ℕ, Bool, true, false, List, [], ◌∷◌, Option, None, Some, length, take, drop, refl, sym, ap}
use Rattle.std.proofs.Common.{◌∙◌, subst, arith}
use Rattle.std.specs.Char.{to_ascii_lowercase}
use Rattle.std.proofs.lemmas.List.{take-append-drop, take_at, drop_at, length-map}
use Rattle.std.proofs.lemmas.Grind.{common_steps}
use Rattle.ignore_excludes.specs.Excludes.{is_space, IsBlank, Then, IsQuote, IsKey, IsEquals, HasValue, Assigns, SetsKey, IsShortest}
use Rattle.ignore_excludes.specs.Excludes.{IsPreferred, trimmed_start}
use Rattle.ignore_excludes.proofs.ExcludesBlanks.{StartsSolid, trimmed_start-append, prefix_of, after_blank, before_blank}
use Rattle.ignore_excludes.proofs.ExcludesValues.{HasValue-solid}

-- P and Q hold for the same values
pub IsShortest-iff : (P Q : List ℕ → Type 0) → ((v : List ℕ) → P v → Q v) → ((v : List ℕ) → Q v → P v) → (r : Option (List ℕ))
    → IsShortest P r → IsShortest Q r
IsShortest-iff P Q there back None h = λ v q. h v (back v q)
IsShortest-iff P Q there back (Some v) h = (there v h.0, λ w q. h.1 w (back w q))

pub IsPreferred-iff : (R S : Bool → List ℕ → Type 0) → ((q : Bool) (v : List ℕ) → R q v → S q v)
    → ((q : Bool) (v : List ℕ) → S q v → R q v) → (r : Option (List ℕ)) → IsPreferred R r → IsPreferred S r
IsPreferred-iff R S there back None h = λ q v s. h q v (back q v s)
IsPreferred-iff R S there back (Some v) (inl h) = inl (IsShortest-iff (R true) (S true) (there true) (back true) (Some v) h)
IsPreferred-iff R S there back (Some v) (inr h) =
    inr (
      IsShortest-iff (R true) (S true) (there true) (back true) None h.0,
      IsShortest-iff (R false) (S false) (there false) (back false) (Some v) h.1,
    )

-- where no reading is quoted, the plain ones decide
IsPreferred-plain : (R : Bool → List ℕ → Type 0) (r : Option (List ℕ)) → IsShortest (R true) None → IsShortest (R false) r → IsPreferred R r
IsPreferred-plain R None h k = λ q. elim q as (λ q. (v : List ℕ) → R q v → ⊥) [ true ↦ h | false ↦ k ]
IsPreferred-plain R (Some v) h k = inr (h, k)

quoted-solid : (Q : List ℕ → Type 0) (text : List ℕ) → Then (IsQuote true) Q text → StartsSolid text
quoted-solid Q text (prefix, rest, e, one, h) = let first : text ≡ 34 ∷ rest = cc in subst StartsSolid (sym first) refl

pub Assigns-quoted : (v text : List ℕ) → Assigns true v text → (rest : List ℕ) × (trimmed_start text ≡ 34 ∷ rest)
    × HasValue v (trimmed_start rest)
Assigns-quoted v text h =
    let Q : List ℕ → Type 0 = λ t. Then (IsQuote true) (Then IsBlank (HasValue v)) t in
    let k = after_blank Q text (λ rest. quoted-solid (Then IsBlank (HasValue v)) rest) h in
    let first : trimmed_start text ≡ 34 ∷ k.1 = (let e = k.2 in let one = k.3 in cc) in
    (k.1, first, after_blank (HasValue v) k.1 (HasValue-solid v) k.4)

pub Assigns-plain : (v text : List ℕ) → Assigns false v text → HasValue v (trimmed_start text)
Assigns-plain v text (a, r, e, blank, (q, s, d, none, h)) =
    let same : r ≡ s = cc in
    let whole : trimmed_start text ≡ trimmed_start s = ap trimmed_start e ∙ (trimmed_start-append a r blank ∙ ap trimmed_start same) in
    subst (HasValue v) (sym whole) (after_blank (HasValue v) s (HasValue-solid v) h)

pub Assigns-from_quoted : (v text rest : List ℕ) → trimmed_start text ≡ 34 ∷ rest → HasValue v (trimmed_start rest) → Assigns true v text
Assigns-from_quoted v text rest e h =
    let prefix = prefix_of text in
    (prefix.0, trimmed_start text, prefix.1, prefix.2, (34 ∷ [], rest, e, refl, before_blank (HasValue v) rest h))

pub Assigns-from_plain : (v text : List ℕ) → HasValue v (trimmed_start text) → Assigns false v text
Assigns-from_plain v text h =
    let prefix = prefix_of text in
    (prefix.0, trimmed_start text, prefix.1, prefix.2, ([], trimmed_start text, refl, refl, ([], trimmed_start text, refl, tt, h)))

HasValue-nil : (v : List ℕ) → HasValue v [] → ⊥
HasValue-nil v ([], rest, e, (is, ne, solid), closes) = ne (sym is)
HasValue-nil v (b ∷ bs, rest, e, (is, ne, solid), closes) = cc

pub assigned_nothing : (text : List ℕ) → trimmed_start text ≡ [] → IsPreferred (λ (q : Bool) (v : List ℕ). Assigns q v text) None
assigned_nothing text e true v h = (let k = Assigns-quoted v text h in let d = k.1 in cc)
assigned_nothing text e false v h = HasValue-nil v (subst (HasValue v) e (Assigns-plain v text h))

pub assigned_quoted : (text rest v : List ℕ) → trimmed_start text ≡ 34 ∷ rest
    → IsShortest (λ (v : List ℕ). HasValue v (trimmed_start rest)) (Some v)
    → IsPreferred (λ (q : Bool) (v : List ℕ). Assigns q v text) (Some v)
assigned_quoted text rest v e h =
    let P : List ℕ → Type 0 = λ w. HasValue w (trimmed_start rest) in
    let Q : List ℕ → Type 0 = λ w. Assigns true w text in
    let back : (w : List ℕ) → Q w → P w = λ w k. (let q = Assigns-quoted w text k in let d = q.1 in let same : q.0
    ≡ rest = cc in subst (λ (t : List ℕ). HasValue w (trimmed_start t)) same q.2) in
    inl (IsShortest-iff P Q (λ w k. Assigns-from_quoted w text rest e k) back (Some v) h)

pub assigned_plain : (text : List ℕ) (r : Option (List ℕ)) →
    ((rest : List ℕ) → trimmed_start text ≡ 34 ∷ rest → IsShortest (λ (v : List ℕ). HasValue v (trimmed_start rest)) None)
    → IsShortest (λ (v : List ℕ). HasValue v (trimmed_start text)) r → IsPreferred (λ (q : Bool) (v : List ℕ). Assigns q v text) r
assigned_plain text r none h =
    let P : List ℕ → Type 0 = λ w. HasValue w (trimmed_start text) in
    let Q : List ℕ → Type 0 = λ w. Assigns false w text in
    IsPreferred-plain (λ (q : Bool) (v : List ℕ). Assigns q v text) r
    (λ v k. (let q = Assigns-quoted v text k in none q.0 q.1 v q.2))
    (IsShortest-iff P Q (λ w k. Assigns-from_plain w text k) (λ w k. Assigns-plain w text k) r h)

-- the key has twelve bytes, the first of them a letter
key-length : (prefix : List ℕ) → IsKey prefix → length prefix ≡ 12
key-length prefix h = sym (length-map prefix to_ascii_lowercase) ∙ ap length h

letter-solid : (b : ℕ) → to_ascii_lowercase b ≡ 101 → is_space b ≡ false
letter-solid b h = grind (arith, common_steps)

pub SetsKey-solid : (q : Bool) (v text : List ℕ) → SetsKey q v text → StartsSolid text
SetsKey-solid q v text ([], rest, e, key, h) = let no_byte = key-length [] key in absurd (omega arith)
SetsKey-solid q v text (b ∷ bs, rest, e, key, h) =
    let first : to_ascii_lowercase b ≡ 101 = cc in
    subst StartsSolid (sym e) (letter-solid b first)

equals-solid : (Q : List ℕ → Type 0) (text : List ℕ) → Then IsEquals Q text → StartsSolid text
equals-solid Q text (prefix, rest, e, one, h) = let first : text ≡ 61 ∷ rest = cc in subst StartsSolid (sym first) refl

pub SetsKey-parts : (q : Bool) (v text : List ℕ) → SetsKey q v text → IsKey (take 12 text)
    × ((rest : List ℕ) × (trimmed_start (drop 12 text) ≡ 61 ∷ rest) × Assigns q v rest)
SetsKey-parts q v text (key, more, e, is, h) =
    let len = key-length key is in
    let prefix : take 12 text ≡ key = ap (λ t. take 12 t) e ∙ take_at key more 12 len in
    let back : drop 12 text ≡ more = ap (λ t. drop 12 t) e ∙ drop_at key more 12 len in
    let k = after_blank (Then IsEquals (Assigns q v)) more (λ rest. equals-solid (Assigns q v) rest) h in
    let first : trimmed_start more ≡ 61 ∷ k.1 = (let d = k.2 in let one = k.3 in cc) in
    (subst IsKey (sym prefix) is, (k.1, ap trimmed_start back ∙ first, k.4))

pub SetsKey-from_parts : (q : Bool) (v text rest : List ℕ) → IsKey (take 12 text) → trimmed_start (drop 12 text) ≡ 61 ∷ rest
    → Assigns q v rest → SetsKey q v text
SetsKey-from_parts q v text rest key e h = (
  take 12 text,
  drop 12 text,
  sym (take-append-drop 12 text),
  key,
  before_blank (Then IsEquals (Assigns q v)) (drop 12 text) (61 ∷ [], rest, e, refl, h),
)

pub key_nothing : (text : List ℕ) → (IsKey (take 12 text) → ((rest : List ℕ) → trimmed_start (drop 12 text) ≡ 61 ∷ rest → ⊥))
    → IsPreferred (λ (q : Bool) (v : List ℕ). SetsKey q v text) None
key_nothing text never q v h = let k = SetsKey-parts q v text h in never k.0 k.1.0 k.1.1

pub key_value : (text rest : List ℕ) (r : Option (List ℕ)) → IsKey (take 12 text) → trimmed_start (drop 12 text) ≡ 61 ∷ rest
    → IsPreferred (λ (q : Bool) (v : List ℕ). Assigns q v rest) r → IsPreferred (λ (q : Bool) (v : List ℕ). SetsKey q v text) r
key_value text rest r key e h =
    let R : Bool → List ℕ → Type 0 = λ q v. Assigns q v rest in
    let S : Bool → List ℕ → Type 0 = λ q v. SetsKey q v text in
    let back : (q : Bool) (v : List ℕ) → S q v → R q v = λ q v k.
    (let p = SetsKey-parts q v text k in let d = p.1.1 in let same : p.1.0
    ≡ rest = cc in subst (λ (t : List ℕ). Assigns q v t) same p.1.2) in
    IsPreferred-iff R S (λ q v k. SetsKey-from_parts q v text rest key e k) back r h
