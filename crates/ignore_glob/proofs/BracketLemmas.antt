-- What a `[` begins: exactly one step.
use Rattle.std.proofs.Common.{◌≡◌, ◌≢◌, ◌⊎◌, inl, inr, ◌≤◌, ℕ, zero, suc, Bool, true, false, List, [], ◌∷◌, ◌++◌, length, length-append}
use Rattle.std.proofs.Common.{◌<◌, ◌==◌, ◌||◌, if◌then◌else◌, refl, sym, ap, ◌∙◌, subst, append_assoc, arith}
use Rattle.std.specs.List.{AllByRecursion}
use Rattle.std.proofs.lemmas.Bool.{cases_eq}
use Rattle.ignore_glob.specs.declared.glob.options.Options.{Options}
use Rattle.ignore_glob.specs.Lexing.{class, lexeme, fault, ended, Step, Closes, turns, NoTurn, Items, are_in_order, after_sign, is_negated}
use Rattle.ignore_glob.specs.Lexing.{ranges, Bracket, whole, disordered, literal, unclosed}

-- the first `]` cuts a text in one way
first_closing : (m k r s : List ℕ) → AllByRecursion (λ c. c ≢ 93) m → AllByRecursion (λ c. c ≢ 93) k → m ++ 93 ∷ r ≡ k ++ 93 ∷ s
    → (m ≡ k) × (r ≡ s)
first_closing [] [] r s p q e = (refl, (cc))
first_closing [] (d ∷ k) r s p q e = absurd (q.0 (cc))
first_closing (c ∷ m) [] r s p q e = absurd (p.0 (cc))
first_closing (c ∷ m) (d ∷ k) r s p q e =
    let rest : m ++ 93 ∷ r ≡ k ++ 93 ∷ s = (cc) in
    let h = first_closing m k r s p.1 q.1 rest in ((cc), h.1)

Closes-same : (text body rest body' rest' : List ℕ) → Closes text body rest → Closes text body' rest' → (body ≡ body') × (rest ≡ rest')
Closes-same text body rest body' rest' p q =
    let e : p.1 ++ 93 ∷ rest ≡ q.1 ++ 93 ∷ rest' = cc (p.4, q.4) in
    let h = first_closing p.1 q.1 rest rest' p.3 q.3 e in (cc (p.2, q.2, h.0, p.4, q.4), h.1)

-- turns are as many as can be
turns-same : (m k r s : List ℕ) → NoTurn r → NoTurn s → turns m ++ r ≡ turns k ++ s → (m ≡ k) × (r ≡ s)
turns-same [] [] r s p q e = (refl, e)
turns-same [] (d ∷ k) r s p q e = absurd (p d (turns k ++ s) e)
turns-same (c ∷ m) [] r s p q e = absurd (q c (turns m ++ r) (sym e))
turns-same (c ∷ m) (d ∷ k) r s p q e =
    let rest : turns m ++ r ≡ turns k ++ s = (cc) in
    let h = turns-same m k r s p q rest in ((cc), h.1)

Items-same : (body : List ℕ) (is js : List (ℕ × List ℕ)) → Items body is → Items body js → is ≡ js
Items-same body [] [] p q = refl
Items-same body [] (j ∷ js) p q = absurd (let e : [] ≡ j.0 ∷ (turns j.1 ++ q.0) = sym p ∙ q.1 in cc e)
Items-same body (i ∷ is) [] p q = absurd (let e : [] ≡ i.0 ∷ (turns i.1 ++ p.0) = sym q ∙ p.1 in cc e)
Items-same body (i ∷ is) (j ∷ js) p q =
    let both : i.0 ∷ (turns i.1 ++ p.0) ≡ j.0 ∷ (turns j.1 ++ q.0) = sym p.1 ∙ q.1 in
    let first : i.0 ≡ j.0 = cc both in
    let rest : turns i.1 ++ p.0 ≡ turns j.1 ++ q.0 = cc both in
    let h = turns-same i.1 j.1 p.0 q.0 p.2 q.2 rest in
    let P : List ℕ → Type 0 = λ t. Items t js in
    let more = Items-same p.0 is js p.3 (subst P (sym h.1) q.3) in
    let item : i ≡ j = ◌∙◌ {b = (j.0, i.1)} (ap (λ c. (c, i.1)) first) (ap (λ es. (j.0, es)) h.0) in
    cc (item, more)

-- two readings of one body
Class-same : (text body rest body' rest' : List ℕ) (is js : List (ℕ × List ℕ)) → Closes text body rest → Items body is
    → Closes text body' rest' → Items body' js → (is ≡ js) × (rest ≡ rest')
Class-same text body rest body' rest' is js c i d j =
    let h = Closes-same text body rest body' rest' c d in
    let P : List ℕ → Type 0 = λ t. Items t js in
    (Items-same body is js i (subst P (sym h.0) j), h.1)

pub Bracket-same : (o : Options) (depth : ℕ) (text : List ℕ) (s t : Step) → Bracket o depth text s → Bracket o depth text t → s ≡ t
Bracket-same o depth text s t (whole body rest is c i a) (whole body' rest' js d j b) =
    let h = Class-same (after_sign text) body rest body' rest' is js c i d j in
    ap (λ k. lexeme (class (is_negated text) (ranges k)) rest depth) h.0
    ∙ ap (λ r. lexeme (class (is_negated text) (ranges js)) r depth) h.1
Bracket-same o depth text s t (whole body rest is c i a) (disordered body' rest' js d j b) =
    absurd (let h = Class-same (after_sign text) body rest body' rest' is js c i d j in
    let e : are_in_order is ≡ are_in_order js = ap (λ k. are_in_order k) h.0 in cc (a, b, e))
Bracket-same o depth text s t (whole body rest is c i a) (literal u b) = absurd (u body rest c)
Bracket-same o depth text s t (whole body rest is c i a) (unclosed u b) = absurd (u body rest c)
Bracket-same o depth text s t (disordered body rest is c i a) (whole body' rest' js d j b) =
    absurd (let h = Class-same (after_sign text) body rest body' rest' is js c i d j in
    let e : are_in_order is ≡ are_in_order js = ap (λ k. are_in_order k) h.0 in cc (a, b, e))
Bracket-same o depth text s t (disordered body rest is c i a) (disordered body' rest' js d j b) = refl
Bracket-same o depth text s t (disordered body rest is c i a) (literal u b) = absurd (u body rest c)
Bracket-same o depth text s t (disordered body rest is c i a) (unclosed u b) = absurd (u body rest c)
Bracket-same o depth text s t (literal u b) (whole body rest is c i a) = absurd (u body rest c)
Bracket-same o depth text s t (literal u b) (disordered body rest is c i a) = absurd (u body rest c)
Bracket-same o depth text s t (literal u b) (literal v a) = refl
Bracket-same o depth text s t (literal u b) (unclosed v a) = absurd (cc (a, b))
Bracket-same o depth text s t (unclosed u b) (whole body rest is c i a) = absurd (u body rest c)
Bracket-same o depth text s t (unclosed u b) (disordered body rest is c i a) = absurd (u body rest c)
Bracket-same o depth text s t (unclosed u b) (literal v a) = absurd (cc (a, b))
Bracket-same o depth text s t (unclosed u b) (unclosed v a) = refl

-- a text has a `]`, or none
find_closing : (text : List ℕ) → ((m : List ℕ) × (r : List ℕ) × AllByRecursion (λ c. c ≢ 93) m × (text ≡ m ++ 93 ∷ r))
    ⊎ ((m r : List ℕ) → text ≡ m ++ 93 ∷ r → ⊥)
find_closing [] = inr none where
  none : (m r : List ℕ) → [] ≡ m ++ 93 ∷ r → ⊥
  none [] r e = cc e
  none (c ∷ m) r e = cc e
find_closing (c ∷ cs) = elim (cases_eq c 93) [
  | inl e ↦ inl ([], cs, tt, ap (λ x. x ∷ cs) e)
  | inr n ↦ elim (find_closing cs) [
    | inl f ↦ inl (c ∷ f.0, f.1, (n, f.2), ap (λ t. c ∷ t) f.3)
    | inr none ↦ inr (further c cs n none)
  ]
] where
  further : (c : ℕ) (cs : List ℕ) → c ≢ 93 → ((m r : List ℕ) → cs ≡ m ++ 93 ∷ r → ⊥) → (m r : List ℕ) → c ∷ cs ≡ m ++ 93 ∷ r → ⊥
  further c cs n none [] r e = n (cc)
  further c cs n none (d ∷ m) r e = let h : cs ≡ m ++ 93 ∷ r = (cc) in none m r h

find_class : (text : List ℕ) → ((body : List ℕ) × (rest : List ℕ) × Closes text body rest)
    ⊎ ((body rest : List ℕ) → Closes text body rest → ⊥)
find_class [] = inr (λ body rest h. let e = h.4 in cc e)
find_class (c ∷ cs) = elim (find_closing cs) [
  | inl f ↦ inl (c ∷ f.0, f.1, (c, f.0, refl, f.2, ap (λ t. c ∷ t) f.3))
  | inr none ↦ inr (λ body rest h. let e : cs ≡ h.1 ++ 93 ∷ rest = cc h.4 in none h.1 rest e)
]

-- all range ends that a text begins with
take_turns : (text : List ℕ) → (ends : List ℕ) × (rest : List ℕ) × (text ≡ turns ends ++ rest) × NoTurn rest × (length rest ≤ length text)
take_turns [] = ([], [], refl, (λ e more h. cc h), (omega arith))
take_turns (c ∷ []) = ([], c ∷ [], refl, (λ e more h. cc h), (omega arith))
take_turns (c ∷ e ∷ more) = elim (cases_eq c 45) [
  | inl same ↦ let t = take_turns more in (e ∷ t.0, t.1, cc (same, t.2), t.3, (omega (arith, t.4)))
  | inr n ↦ ([], c ∷ e ∷ more, refl, (λ f rest h. n (cc h)), (omega arith))
]

pub find_items : (n : ℕ) (body : List ℕ) → length body ≤ n → (items : List (ℕ × List ℕ)) × Items body items
find_items n [] h = ([], refl)
find_items zero (c ∷ cs) h = absurd (omega arith)
find_items (suc n) (c ∷ cs) h =
    let t = take_turns cs in
    let f = find_items n t.1 (omega (arith, t.4)) in
    ((c, t.0) ∷ f.0, (t.1, ap (λ r. c ∷ r) t.2, t.3, f.1))

pub decide_bool : (b : Bool) → (b ≡ true) ⊎ (b ≡ false)
decide_bool true = inl refl
decide_bool false = inr refl

pub find_bracket : (o : Options) (depth : ℕ) (text : List ℕ) → (s : Step) × Bracket o depth text s
find_bracket o depth text = elim (find_class (after_sign text)) [
  | inl f ↦
      let i = find_items (length f.0) f.0 (omega arith) in
      elim (decide_bool (are_in_order i.0)) [
        | inl holds ↦ (_, whole f.0 f.1 i.0 f.2 i.1 holds)
        | inr fails ↦ (_, disordered f.0 f.1 i.0 f.2 i.1 fails)
      ]
  | inr none ↦ elim (decide_bool o.allow_unclosed_class) [
    | inl holds ↦ (_, literal none holds)
    | inr fails ↦ (_, unclosed none fails)
  ]
]

pub sign-cut : (text : List ℕ) → (s : List ℕ) × (text ≡ s ++ after_sign text)
sign-cut [] = ([], refl)
sign-cut (c ∷ cs) = by_bool (c == 33 || c == 94) where
  by_bool : (b : Bool) → (s : List ℕ) × (c ∷ cs ≡ s ++ (if b then cs else c ∷ cs))
  by_bool true = (c ∷ [], refl)
  by_bool false = ([], refl)

-- the rest of a text, after one character or more
abbrev pub IsRest : List ℕ → List ℕ → Type 0
IsRest text rest = (s : List ℕ) × (text ≡ s ++ rest) × (0 < length s)

pub IsRest-shorter : (text rest : List ℕ) → IsRest text rest → length rest < length text
IsRest-shorter text rest h = rw (h.1, length-append) (omega (arith, h.2))

-- a lexeme leaves a rest
abbrev pub LeavesRest : List ℕ → Step → Type 0
LeavesRest text (lexeme l rest e) = IsRest text rest
LeavesRest text (fault f) = Unit {0}
LeavesRest text ended = Unit {0}

class-rest : (text body rest : List ℕ) → Closes (after_sign text) body rest → IsRest (91 ∷ text) rest
class-rest text body rest c =
    let s = sign-cut text in
    let cut = 91 ∷ (s.0 ++ c.0 ∷ (c.1 ++ 93 ∷ [])) in
    let whole : 91 ∷ text ≡ 91 ∷ (s.0 ++ c.0 ∷ (c.1 ++ 93 ∷ rest)) = ap (λ x. 91 ∷ x) (s.1 ∙ ap (λ x. s.0 ++ x) c.4) in
    (cut, whole ∙ simp append_assoc, (omega arith))

pub Bracket-rest : (o : Options) (depth : ℕ) (text : List ℕ) (s : Step) → Bracket o depth text s → LeavesRest (91 ∷ text) s
Bracket-rest o depth text s (whole body rest is c i a) = class-rest text body rest c
Bracket-rest o depth text s (disordered body rest is c i a) = tt
Bracket-rest o depth text s (literal u b) = (91 ∷ [], refl, (omega arith))
Bracket-rest o depth text s (unclosed u b) = tt
