-- Line by line: the first key of a text is that of its first line that has one, and other readings
-- lie after the next newline.
use Rattle.std.proofs.Common.{◌≡◌, ◌≢◌, ◌⊎◌, inl, inr, ℕ, suc, ◌+◌, ◌<◌, Bool, List, [], ◌∷◌, ◌++◌, Option, None, Some, length}
use Rattle.std.proofs.Common.{length-append, take, drop, get_or, refl, sym, ap, ◌∙◌, subst, arith}
use Rattle.std.proofs.lemmas.List.{append_assoc, append_cancel_right, nil_from_length, get_or_at, take-append-drop, drop_more}
use Rattle.std.proofs.lemmas.List.{length-take-le, get_or-take}
use Rattle.std.proofs.lemmas.Bool.{eqb-true, eq-eqb}
use Rattle.memchr.specs.Find.{IsFirstByte, is_byte}
use Rattle.ignore_excludes.specs.Excludes.{IsBlank, IsLineStart, SetsKey, ReadsAt, IsPreferred, IsChosen, trimmed_start}
use Rattle.ignore_excludes.proofs.ExcludesBlanks.{StartsSolid, StartsSolid-trimmed_start, trimmed_start-append, trimmed_start-solid}
use Rattle.ignore_excludes.proofs.ExcludesBlanks.{prefix_of}
use Rattle.ignore_excludes.proofs.ExcludesKeys.{IsPreferred-iff, SetsKey-solid}

-- no newline in the text
abbrev pub IsOneLine : List ℕ → Type 0
IsOneLine text = (k : ℕ) → k < length text → get_or text k 0 ≢ 10

-- the text has readings, further right, where what follows a newline has them
line_start : (prefix start : List ℕ) → IsLineStart start → IsLineStart (prefix ++ 10 ∷ start)
line_start prefix start (inl e) = inr (prefix, ap (λ t. prefix ++ 10 ∷ t) e)
line_start prefix start (inr (lines, e)) = inr (
  prefix ++ 10 ∷ lines,
  ap (λ t. prefix ++ 10 ∷ t) e
      ∙ sym (append_assoc prefix (10 ∷ lines) (10 ∷ [])),
)

Reads-shift : (prefix next : List ℕ) (place : ℕ) (q : Bool) (v : List ℕ) → ReadsAt next place q v
    → ReadsAt (prefix ++ 10 ∷ next) (length prefix + 1 + place) q v
Reads-shift prefix next place q v (before, rest, e, len, (start, indent, d, starts, blank), key) = (
  prefix ++ 10 ∷ before,
  rest,
  ap (λ t. prefix ++ 10 ∷ t) e ∙ sym (append_assoc prefix (10 ∷ before) rest),
  omega (arith, length-append prefix (10 ∷ before)),
  (
    prefix ++ 10 ∷ start,
    indent,
    ap (λ t. prefix ++ 10 ∷ t) d ∙ sym (append_assoc prefix (10 ∷ start) indent),
    line_start prefix start starts,
    blank,
  ),
  key,
)

-- two ways to cut one text
two_splits : (start more w u : List ℕ) → start ++ more ≡ w ++ u → ((x : List ℕ) × (w ≡ start ++ x) × (more ≡ x ++ u))
    ⊎ ((x : List ℕ) × (x ≢ []) × (start ≡ w ++ x) × (u ≡ x ++ more))
two_splits [] more w u e = inl (w, refl, e)
two_splits (a ∷ s) more [] u e = inr (a ∷ s, λ k. cc, refl, sym e)
two_splits (a ∷ s) more (b ∷ w) u e =
    let first : a ≡ b = cc in
    let rest : s ++ more ≡ w ++ u = cc in
    elim (two_splits s more w u rest) [
      | inl h ↦ inl (h.0, (let k = h.1 in cc), h.2)
      | inr h ↦ inr (h.0, h.1, (let k = h.2 in cc), h.3)
    ]

-- what is left of lines, cut anywhere, ends with a newline
lines_end : (w x lines : List ℕ) → x ≢ [] → w ++ x ≡ lines ++ 10 ∷ [] → (line : List ℕ) × (x ≡ line ++ 10 ∷ [])
lines_end [] x lines ne e = (lines, e)
lines_end (a ∷ w) x [] ne e =
    let len = ap length e in
    absurd (ne (nil_from_length x (omega (arith, length-append w x))))
lines_end (a ∷ w) x (b ∷ lines) ne e = let rest : w ++ x ≡ lines ++ 10 ∷ [] = cc in lines_end w x lines ne rest

IsBlank-back : (a b : List ℕ) → IsBlank (a ++ b) → IsBlank b
IsBlank-back [] b h = h
IsBlank-back (x ∷ a) b h = IsBlank-back a b h.1

-- a parse is that of the key after the first white space, or lies after a newline
Reads-cases : (w u : List ℕ) (place : ℕ) (q : Bool) (v : List ℕ) → IsBlank w → StartsSolid u → ReadsAt (w ++ u) place q v
    → ((place ≡ length w) × SetsKey q v u)
    ⊎ ((line next : List ℕ) × (k : ℕ) × (u ≡ line ++ 10 ∷ next) × (place ≡ length w + length line + 1 + k) × ReadsAt next k q v)
Reads-cases w u place q v white solid (before, rest, e, len, (start, indent, d, starts, blank), key) =
    let whole : start ++ (indent ++ rest) ≡ w ++ u = sym (append_assoc start indent rest) ∙ (ap (λ t. t ++ rest) (sym d) ∙ sym e) in
    elim (two_splits start (indent ++ rest) w u whole) [
      | inl h ↦ (
          let x = h.0 in
          let left : IsBlank x = IsBlank-back start x (subst IsBlank h.1 white) in
          let one : trimmed_start (indent ++ rest) ≡ rest = trimmed_start-append indent rest blank
          ∙ trimmed_start-solid rest (SetsKey-solid q v rest key) in
          let two : trimmed_start (x ++ u) ≡ u = trimmed_start-append x u left ∙ trimmed_start-solid u solid in
          let same : rest ≡ u = sym one ∙ (ap trimmed_start h.2 ∙ two) in
          let gap : indent ≡ x = append_cancel_right indent x u (ap (λ t. indent ++ t) (sym same) ∙ h.2) in
          let lens = ap length gap in
          let lend = ap length d in
          let lenw = ap length h.1 in
          inl (omega (arith, length-append start indent, length-append start x), subst (SetsKey q v) same key)
          )
      | inr h ↦ (
          let x = h.0 in
          let more : (line : List ℕ) × (x ≡ line ++ 10 ∷ []) = elim starts [
            | inl none ↦ (
                let lens = ap length (sym h.2 ∙ none) in
                absurd (h.1 (nil_from_length x (omega (arith, length-append w x))))
                )
            | inr some ↦ lines_end w x some.0 h.1 (sym h.2 ∙ some.1)
          ] in
          let line = more.0 in
          let lens = ap length more.1 in
          let lend = ap length d in
          let lenw = ap length h.2 in
          let text : u ≡ line ++ 10 ∷ (indent ++ rest) = h.3
          ∙ (ap (λ t. t ++ (indent ++ rest)) more.1 ∙ append_assoc line (10 ∷ []) (indent ++ rest)) in
          inr (
            line,
            indent ++ rest,
            length indent,
            text,
            omega (arith, length-append start indent, length-append w x, length-append line (10 ∷ [])),
            (indent, rest, refl, refl, ([], indent, refl, inl refl, blank), key),
          )
          )
    ]

-- of two newlines the first, or a later one
no_earlier : (line next first rest : List ℕ) → line ++ 10 ∷ next ≡ first ++ 10 ∷ rest → IsOneLine first
    → ((line ≡ first) × (next ≡ rest)) ⊎ ((mid : List ℕ) × (line ≡ first ++ 10 ∷ mid) × (rest ≡ mid ++ 10 ∷ next))
no_earlier [] next [] rest e one = inl (refl, (cc))
no_earlier [] next (b ∷ first) rest e one = let same : b ≡ 10 = cc in absurd (one 0 (omega arith) same)
no_earlier (a ∷ line) next [] rest e one = inr (line, (cc), (cc))
no_earlier (a ∷ line) next (b ∷ first) rest e one =
    let same : a ≡ b = cc in
    let more : line ++ 10 ∷ next ≡ first ++ 10 ∷ rest = cc in
    elim (no_earlier line next first rest more (λ k h. one (suc k) (omega arith))) [
      | inl h ↦ inl ((let k = h.0 in cc), h.1)
      | inr h ↦ inr (h.0, (let k = h.1 in cc), h.2)
    ]

Reads-next : (w u line next : List ℕ) (place : ℕ) (q : Bool) (v : List ℕ) → IsBlank w → StartsSolid u → u ≡ line ++ 10 ∷ next
    → IsOneLine line → IsPreferred (λ (q : Bool) (v : List ℕ). SetsKey q v u) None → ReadsAt (w ++ u) place q v → (k : ℕ)
    × (place ≡ length w + length line + 1 + k) × ReadsAt next k q v
Reads-next w u line next place q v white solid e one never r = elim (Reads-cases w u place q v white solid r) [
  | inl h ↦ absurd (never q v h.1)
  | inr h ↦ (
      let other = h.0 in
      let rest = h.1 in
      let whole : other ++ 10 ∷ rest ≡ line ++ 10 ∷ next = sym h.3 ∙ e in
      elim (no_earlier other rest line next whole one) [
        | inl k ↦ (let len = ap length k.0 in (h.2, (let far = h.4 in omega arith), subst (λ (t : List ℕ). ReadsAt t h.2 q v) k.1 h.5))
        | inr k ↦ (
            let mid = k.0 in
            let len = ap length k.1 in (
              length mid + 1 + h.2,
              (let far = h.4 in omega (arith, length-append line (10 ∷ mid))),
              subst (λ (t : List ℕ). ReadsAt t (length mid + 1 + h.2) q v) (sym k.2) (Reads-shift mid rest h.2 q v h.5),
            )
            )
      ]
      )
]

-- the first key has a value
here : (w u v : List ℕ) → IsBlank w → StartsSolid u → IsPreferred (λ (q : Bool) (v : List ℕ). SetsKey q v u) (Some v)
    → IsChosen (w ++ u) (Some v)
here w u v white solid h = (
  length w,
  IsPreferred-iff (λ (q : Bool) (v : List ℕ). SetsKey q v u) (ReadsAt (w ++ u) (length w))
      (λ q v key. (w, u, refl, refl, ([], w, refl, inl refl, white), key))
      (λ q v r. elim (Reads-cases w u (length w) q v white solid r)
      [ inl k ↦ k.1 | inr k ↦ absurd (let far = k.4 in omega arith) ]) (Some v) h,
  λ earlier before q v r. elim (Reads-cases w u earlier q v white solid r) [
    | inl k ↦ (let at = k.0 in omega arith)
    | inr k ↦ (let far = k.4 in omega arith)
  ],
)

-- the only line has none
nowhere : (w u : List ℕ) → IsBlank w → StartsSolid u → IsOneLine u → IsPreferred (λ (q : Bool) (v : List ℕ). SetsKey q v u) None
    → IsChosen (w ++ u) None
nowhere w u white solid one never place q v r = elim (Reads-cases w u place q v white solid r) [
  | inl k ↦ never q v k.1
  | inr k ↦ (
      let len = ap length k.3 in
      let at : get_or u (length k.0) 0 ≡ 10 = ap (λ t. get_or t (length k.0) 0) k.3 ∙ get_or_at k.0 10 k.1 0 (length k.0) refl in
      one (length k.0) (omega (arith, length-append k.0 (10 ∷ k.1))) at
      )
]

-- the first line has none, and the lines after it decide
further : (w u line next : List ℕ) → IsBlank w → StartsSolid u → u ≡ line ++ 10 ∷ next → IsOneLine line
    → IsPreferred (λ (q : Bool) (v : List ℕ). SetsKey q v u) None → (found : Option (List ℕ)) → IsChosen next found
    → IsChosen (w ++ u) found
further w u line next white solid e one never None h = λ place q v r.
    (let k = Reads-next w u line next place q v white solid e one never r in h k.0 q v k.2)
further w u line next white solid e one never (Some v) h =
    let prefix : List ℕ = w ++ line in
    let whole : w ++ u ≡ prefix ++ 10 ∷ next = ap (λ t. w ++ t) e ∙ sym (append_assoc w line (10 ∷ next)) in
    let far : ℕ = length prefix + 1 + h.0 in
    let lens = length-append w line in
    let there : (q : Bool) (x : List ℕ) → ReadsAt next h.0 q x
    → ReadsAt (w ++ u) far q x = λ q x r. subst (λ (t : List ℕ). ReadsAt t far q x) (sym whole) (Reads-shift prefix next h.0 q x r) in
    let back : (q : Bool) (x : List ℕ) → ReadsAt (w ++ u) far q x
    → ReadsAt next h.0 q x = λ q x r. (let k = Reads-next w u line next far q x white solid e one never r in let same : k.0
    ≡ h.0 = (let is = k.1 in omega arith) in subst (λ (n : ℕ). ReadsAt next n q x) same k.2) in (
      far,
      IsPreferred-iff (ReadsAt next h.0) (ReadsAt (w ++ u) far) there back (Some v) h.1,
      λ earlier before q x r. (let k = Reads-next w u line next earlier q x white solid e one never r in
          h.2 k.0 (let is = k.1 in omega arith) q x k.2),
    )

-- the same three, of a text with white space before its first line
pub chosen_here : (text v : List ℕ) → IsPreferred (λ (q : Bool) (v : List ℕ). SetsKey q v (trimmed_start text)) (Some v)
    → IsChosen text (Some v)
chosen_here text v h =
    let prefix = prefix_of text in
    subst (λ (t : List ℕ). IsChosen t (Some v)) (sym prefix.1)
    (here prefix.0 (trimmed_start text) v prefix.2 (StartsSolid-trimmed_start text) h)

pub chosen_nowhere : (text : List ℕ) → IsOneLine (trimmed_start text)
    → IsPreferred (λ (q : Bool) (v : List ℕ). SetsKey q v (trimmed_start text)) None → IsChosen text None
chosen_nowhere text one never =
    let prefix = prefix_of text in
    subst (λ (t : List ℕ). IsChosen t None) (sym prefix.1)
    (nowhere prefix.0 (trimmed_start text) prefix.2 (StartsSolid-trimmed_start text) one never)

pub chosen_further : (text line next : List ℕ) → trimmed_start text ≡ line ++ 10 ∷ next → IsOneLine line
    → IsPreferred (λ (q : Bool) (v : List ℕ). SetsKey q v (trimmed_start text)) None → (found : Option (List ℕ))
    → IsChosen next found → IsChosen text found
chosen_further text line next e one never found h =
    let prefix = prefix_of text in
    subst (λ (t : List ℕ). IsChosen t found) (sym prefix.1)
    (further prefix.0 (trimmed_start text) line next prefix.2 (StartsSolid-trimmed_start text) e one never found h)

-- where a search for a newline stops
pub IsOneLine-none : (text : List ℕ) → IsFirstByte (is_byte 10) text None → IsOneLine text
IsOneLine-none text h k low at = h k (omega arith) low (eq-eqb (get_or text k 0) 10 at)

pub first_line : (text : List ℕ) (end : ℕ) → IsFirstByte (is_byte 10) text (Some end)
    → (text ≡ take end text ++ 10 ∷ drop (end + 1) text) × (end < length text) × IsOneLine (take end text)
first_line text end h =
    let inside : end < length text = h.0.high in
    let at : get_or text end 0 ≡ 10 = eqb-true (get_or text end 0) 10 h.1 in
    let cut : drop end text ≡ get_or text end 0 ∷ drop (end + 1) text = drop_more text end 0 inside in
    let newline : drop end text ≡ 10 ∷ drop (end + 1) text = cut ∙ ap (λ b. b ∷ drop (end + 1) text) at in
    let len : length (take end text) ≡ end = length-take-le end text (omega arith) in (
      sym (take-append-drop end text) ∙ ap (λ t. take end text ++ t) newline,
      inside,
      λ k low is. (let below : k < end = omega arith in h.0.before k (omega arith) below
          (eq-eqb (get_or text k 0) 10 (sym (get_or-take end text k 0 below) ∙ is))),
    )
