-- What a text between quotes begins with decides what it stands for.
use Rattle.std.proofs.Common.{◌≡◌, ◌≢◌, ◌⊎◌, ◌∙◌, ℕ, ◌+◌, ◌*◌, ◌<◌, ◌≤◌, ◌==◌, ◌||◌, Bool, true, false, cond, eq-eqb, eqb-true, MatchBool, List, [], ◌∷◌, ◌++◌, Option, None, Some, MatchOption, length, refl, sym, ap, subst, inl, inr, arith, suc, append_assoc}
use Rattle.std.proofs.lemmas.Bool.{false≢true}
use Rattle.std.proofs.lemmas.Bool.Decides.{nat_tests}
use Rattle.std.proofs.lemmas.List.{append-nil, nil_from_length}
use Rattle.std.specs.List.{find}
use Rattle.std.specs.Option.{option_map}
use Rattle.ig_options.specs.Quotes.{IsQuoteOf, StandsFor, as_it_is, by_digits, by_letter, none, letter_of, letters}
use Rattle.ig_options.specs.QuoteSteps.{Closes, IsEscaped, IsFirst, IsOctal, IsValue, NoEscaped, NoFirst, NoOctal, NoValue, byte_of}

-- Letters.

-- the pairs hold this one: its first is what f gives, its second what g gives
abbrev Has : (ℕ × ℕ → ℕ) → (ℕ × ℕ → ℕ) → List (ℕ × ℕ) → ℕ → ℕ → Type 0
Has f g [] x y = ⊥
Has f g (p ∷ ps) x y = ((f p ≡ x) × (g p ≡ y)) ⊎ Has f g ps x y

found_first : (f g : ℕ × ℕ → ℕ) (p : ℕ × ℕ) (rest : Option (ℕ × ℕ)) (x y : ℕ) (Later : Type 0) → (option_map g rest ≡ Some y → Later)
    → (test : Bool) → (f p == x) ≡ test → option_map g (cond test (Some p) rest) ≡ Some y → ((f p ≡ x) × (g p ≡ y)) ⊎ Later
found_first f g p rest x y Later later true t e = inl (eqb-true (f p) x t, (cc))
found_first f g p rest x y Later later false t e = inr (later e)

has_found : (f g : ℕ × ℕ → ℕ) (ps : List (ℕ × ℕ)) (x y : ℕ) → option_map g (find (λ p. f p == x) ps) ≡ Some y → Has f g ps x y
has_found f g [] x y e = cc
has_found f g (p ∷ ps) x y e =
    found_first f g p (find (λ q. f q == x) ps) x y (Has f g ps x y) (has_found f g ps x y) (f p == x) refl e

-- this holds of each of the pairs
abbrev Each : (ℕ → ℕ → Type 0) → List (ℕ × ℕ) → Type 0
Each P [] = Unit {0}
Each P (p ∷ ps) = P p.0 p.1 × Each P ps

each_forth : (P : ℕ → ℕ → Type 0) (ps : List (ℕ × ℕ)) (byte letter : ℕ) → Each P ps → Has (λ p. p.0) (λ p. p.1) ps byte letter → P byte letter
each_forth P (p ∷ ps) byte letter each (inl h) =
    subst (λ (b : ℕ). P b letter) h.0 (subst (λ (l : ℕ). P p.0 l) h.1 each.0)
each_forth P (p ∷ ps) byte letter each (inr h) = each_forth P ps byte letter each.1 h
each_forth P [] byte letter each h = elim h [ ]

each_back : (P : ℕ → ℕ → Type 0) (ps : List (ℕ × ℕ)) (byte letter : ℕ) → Each P ps → Has (λ p. p.1) (λ p. p.0) ps letter byte → P byte letter
each_back P (p ∷ ps) byte letter each (inl h) =
    subst (λ (b : ℕ). P b letter) h.1 (subst (λ (l : ℕ). P p.0 l) h.0 each.0)
each_back P (p ∷ ps) byte letter each (inr h) = each_back P ps byte letter each.1 h
each_back P [] byte letter each h = elim h [ ]

-- a byte and its letter are each found by the other
pub byte_of-letter : (byte letter : ℕ) → letter_of byte ≡ Some letter → byte_of letter ≡ Some byte
byte_of-letter byte letter e =
    each_forth (λ b l. byte_of l ≡ Some b) letters byte letter
    (refl, (refl, (refl, (refl, (refl, (refl, (refl, (refl, (refl, tt)))))))))
    (has_found (λ p. p.0) (λ p. p.1) letters byte letter e)

pub letter_of-byte : (byte letter : ℕ) → byte_of letter ≡ Some byte → letter_of byte ≡ Some letter
letter_of-byte byte letter e =
    each_back (λ b l. letter_of b ≡ Some l) letters byte letter
    (refl, (refl, (refl, (refl, (refl, (refl, (refl, (refl, (refl, tt)))))))))
    (has_found (λ p. p.1) (λ p. p.0) letters letter byte e)

one_byte : (b c letter : ℕ) → letter_of b ≡ Some letter → letter_of c ≡ Some letter → b ≡ c
one_byte b c letter e f =
    let g = byte_of-letter b letter e in
    let h = byte_of-letter c letter f in
    cc

-- no letter is one of the digits from 0 to 3

abbrev IsAway : ℕ → Type 0
IsAway letter = (letter < 48) ⊎ (52 ≤ letter)

away : (letter a : ℕ) → IsAway letter → a < 4 → letter ≡ 48 + a → ⊥
away letter a (inl below) low same = omega arith
away letter a (inr above) low same = omega arith

all_away : Each (λ b l. IsAway l) letters
all_away =
    let above : (n : ℕ) → IsAway (52 + n) = λ n. inr (omega arith) in
    let quote : IsAway 34 = inl (omega arith) in
    (above 45, (above 46, (above 64, (above 58, (above 66, (above 50, (above 62, (quote, (above 40, tt)))))))))

no_digit : (byte letter : ℕ) → letter_of byte ≡ Some letter → (a : ℕ) → a < 4 → letter ≡ 48 + a → ⊥
no_digit byte letter e a low same =
    away letter a (each_forth (λ b l. IsAway l) letters byte letter all_away (has_found (λ p. p.0) (λ p. p.1) letters byte letter e)) low same

-- Escapes.

pub parts : (x y : ℕ) (xs ys : List ℕ) → x ∷ xs ≡ y ∷ ys → (x ≡ y) × (xs ≡ ys)
parts x y xs ys e = ((cc), (cc))

same_value : (a b d e f g byte : ℕ) → a ≡ e → b ≡ f → d ≡ g → IsValue a b d byte → IsValue e f g byte
same_value a b d e f g byte p q r v = record {
  a = v.a;
  b = v.b;
  c = v.c;
  a_fits = v.a_fits;
  b_fits = v.b_fits;
  c_fits = v.c_fits;
  first_is = sym p ∙ v.first_is;
  second_is = sym q ∙ v.second_is;
  third_is = sym r ∙ v.third_is;
  sum = v.sum;
}

one_value : (a b d e f g x y : ℕ) → a ≡ e → b ≡ f → d ≡ g → IsValue a b d x → IsValue e f g y → x ≡ y
one_value a b d e f g x y p q r v w =
    let i : v.a ≡ w.a = omega (arith, p, v.first_is, w.first_is) in
    let j : v.b ≡ w.b = omega (arith, q, v.second_is, w.second_is) in
    let k : v.c ≡ w.c = omega (arith, r, v.third_is, w.third_is) in
    omega (arith, i, j, k, v.sum, w.sum)

-- a text has one escape at most
pub one_escape : (text : List ℕ) (b c : ℕ) (after rest : List ℕ) → IsEscaped text b after → IsEscaped text c rest → (b ≡ c) × (after ≡ rest)
one_escape text b c after rest (inl (l, e, f)) (inl (m, g, h)) =
    let same = parts l m after rest (sym e ∙ g) in
    (one_byte b c m (subst (λ (x : ℕ). letter_of b ≡ Some x) same.0 f) h, same.1)
one_escape text b c after rest (inl (l, e, f)) (inr o) =
    absurd (no_digit b l f o.value.a o.value.a_fits ((parts l o.first after _ (sym e ∙ o.cut)).0 ∙ o.value.first_is))
one_escape text b c after rest (inr o) (inl (m, g, h)) =
    absurd (no_digit c m h o.value.a o.value.a_fits ((parts m o.first rest _ (sym g ∙ o.cut)).0 ∙ o.value.first_is))
one_escape text b c after rest (inr o) (inr q) =
    let p = parts o.first q.first (o.second ∷ (o.third ∷ after)) (q.second ∷ (q.third ∷ rest)) (sym o.cut ∙ q.cut) in
    let r = parts o.second q.second (o.third ∷ after) (q.third ∷ rest) p.1 in
    let s = parts o.third q.third after rest r.1 in
    (one_value o.first o.second o.third q.first q.second q.third b c p.0 r.0 s.0 o.value q.value, s.1)

-- Octal digits.

pub no_octal : (text : List ℕ) (a b d : ℕ) (rest : List ℕ) → text ≡ a ∷ (b ∷ (d ∷ rest)) → NoValue a b d → NoOctal text
no_octal text a b d rest cut never byte after o =
    let p = parts o.first a (o.second ∷ (o.third ∷ after)) (b ∷ (d ∷ rest)) (sym o.cut ∙ cut) in
    let q = parts o.second b (o.third ∷ after) (d ∷ rest) p.1 in
    let r = parts o.third d after rest q.1 in
    never byte (same_value o.first o.second o.third a b d byte p.0 q.0 r.0 o.value)

pub no_octal_of_none : (text : List ℕ) → text ≡ [] → NoOctal text
no_octal_of_none text empty byte after o = let e : [] ≡ o.first ∷ (o.second ∷ (o.third ∷ after)) = sym empty ∙ o.cut in cc

pub no_octal_of_one : (text : List ℕ) (a : ℕ) (rest : List ℕ) → text ≡ a ∷ rest → rest ≡ [] → NoOctal text
no_octal_of_one text a rest cut empty byte after o =
    let p = parts o.first a (o.second ∷ (o.third ∷ after)) rest (sym o.cut ∙ cut) in
    let e : [] ≡ o.second ∷ (o.third ∷ after) = sym (p.1 ∙ empty) in
    cc

pub no_octal_of_two : (text : List ℕ) (a b : ℕ) (more rest : List ℕ) → text ≡ a ∷ more → more ≡ b ∷ rest → rest ≡ [] → NoOctal text
no_octal_of_two text a b more rest cut next empty byte after o =
    let p = parts o.first a (o.second ∷ (o.third ∷ after)) more (sym o.cut ∙ cut) in
    let q = parts o.second b (o.third ∷ after) rest (p.1 ∙ next) in
    let e : [] ≡ o.third ∷ after = sym (q.1 ∙ empty) in
    cc

-- Escapes of a text.

pub no_escape_of_none : (text : List ℕ) → text ≡ [] → NoEscaped text
no_escape_of_none text empty byte after (inl (l, e, f)) = let g : [] ≡ l ∷ after = sym empty ∙ e in cc
no_escape_of_none text empty byte after (inr o) = no_octal_of_none text empty byte after o

no_escape : (text : List ℕ) (letter : ℕ) (rest : List ℕ) → text ≡ letter ∷ rest → byte_of letter ≡ None → NoOctal text → NoEscaped text
no_escape text letter rest cut never octal byte after (inl (l, e, f)) =
    let same = parts l letter after rest (sym e ∙ cut) in
    let g : byte_of letter ≡ Some byte = subst (λ (x : ℕ). byte_of x ≡ Some byte) same.0 (byte_of-letter byte l f) in
    let h : None ≡ Some byte = sym never ∙ g in
    cc
no_escape text letter rest cut never octal byte after (inr o) = octal byte after o

pub escape_or_none : {B : Type 0} (now : B → List ℕ) (text : List ℕ) (letter : ℕ) (rest : List ℕ) (r : Option (ℕ × B))
    → text ≡ letter ∷ rest → byte_of letter ≡ None → MatchOption r (NoOctal text) (λ p. IsOctal text p.0 (now p.1))
    → MatchOption r (NoEscaped text) (λ p. IsEscaped text p.0 (now p.1))
escape_or_none now text letter rest None cut never octal = no_escape text letter rest cut never octal
escape_or_none now text letter rest (Some p) cut never octal = inr octal

-- The first byte.

-- what a text that ends in a closing quote begins with, by its first byte
abbrev Ended : ℕ → List ℕ → List ℕ → Type 0
Ended x text bytes = (x ≡ 34) × (text ≡ []) × (bytes ≡ [])

abbrev Plain : ℕ → List ℕ → List ℕ → Type 0
Plain x text bytes = ((x == 34 || x == 92) ≡ false) × (rest : List ℕ) × (bytes ≡ x ∷ rest) × Closes text rest

abbrev Escaped : ℕ → List ℕ → List ℕ → Type 0
Escaped x text bytes =
    (x ≡ 92) × (byte : ℕ) × (after rest : List ℕ) × IsEscaped text byte after × (bytes ≡ byte ∷ rest) × Closes after rest

seen : (x : ℕ) (text inner bytes : List ℕ) → StandsFor inner bytes → x ∷ text ≡ inner ++ 34 ∷ []
    → Ended x text bytes ⊎ (Plain x text bytes ⊎ Escaped x text bytes)
seen x text _ _ none e =
    let p = parts x 34 text [] e in
    inl (p.0, p.1, refl)
seen x text _ _ (as_it_is byte inner bytes plain stands) e =
    let p = parts x byte text (inner ++ 34 ∷ []) e in
    inr (inl (subst (λ (y : ℕ). (y == 34 || y == 92) ≡ false) (sym p.0) plain, bytes, ap (λ y. y ∷ bytes) (sym p.0), (inner, p.1, stands)))
seen x text _ _ (by_letter byte letter inner bytes l stands) e =
    let p = parts x 92 text (letter ∷ (inner ++ 34 ∷ [])) e in
    inr (inr (p.0, byte, inner ++ 34 ∷ [], bytes, inl (letter, p.1, l), refl, (inner, refl, stands)))
seen x text _ _ (by_digits a b c inner bytes fa fb fc stands) e =
    let p = parts x 92 text ((48 + a) ∷ ((48 + b) ∷ ((48 + c) ∷ (inner ++ 34 ∷ [])))) e in
    let value : IsValue (48 + a) (48 + b) (48 + c) (a * 64 + (b * 8 + c)) = record {
      a = a;
      b = b;
      c = c;
      a_fits = fa;
      b_fits = fb;
      c_fits = fc;
      first_is = refl;
      second_is = refl;
      third_is = refl;
      sum = refl;
    } in
    let octal : IsOctal text (a * 64 + (b * 8 + c)) (inner ++ 34 ∷ []) = record {
      first = 48 + a;
      second = 48 + b;
      third = 48 + c;
      cut = p.1;
      value = value;
    } in
    inr (inr (p.0, a * 64 + (b * 8 + c), inner ++ 34 ∷ [], bytes, inr octal, refl, (inner, refl, stands)))

closes_by : (text : List ℕ) (x : ℕ) (rest bytes : List ℕ) → text ≡ x ∷ rest → Closes text bytes
    → Ended x rest bytes ⊎ (Plain x rest bytes ⊎ Escaped x rest bytes)
closes_by text x rest bytes cut (inner, e, stands) = seen x rest inner bytes stands (sym cut ∙ e)

-- no text that ends in a closing quote is empty

no_closing : (inner : List ℕ) → [] ≡ inner ++ 34 ∷ [] → ⊥
no_closing [] e = cc
no_closing (x ∷ xs) e = cc

pub none_at_end : (text : List ℕ) → text ≡ [] → NoFirst text
none_at_end text empty bytes (inner, e, stands) = absurd (no_closing inner (sym empty ∙ e))

-- a quote ends it

plain_no_quote : (x : ℕ) → x ≡ 34 → (x == 34 || x == 92) ≡ false → ⊥
plain_no_quote x e f = let g : (34 == 34 || 34 == 92) ≡ false = subst (λ (y : ℕ). (y == 34 || y == 92) ≡ false) e f in false≢true (sym g)

plain_no_backslash : (x : ℕ) → x ≡ 92 → (x == 34 || x == 92) ≡ false → ⊥
plain_no_backslash x e f = let g : (92 == 34 || 92 == 92) ≡ false = subst (λ (y : ℕ). (y == 34 || y == 92) ≡ false) e f in false≢true (sym g)

quote_by : (text : List ℕ) (x : ℕ) (rest bytes : List ℕ) → text ≡ x ∷ rest → x ≡ 34
    → Ended x rest bytes ⊎ (Plain x rest bytes ⊎ Escaped x rest bytes) → (text ≡ 34 ∷ []) × (bytes ≡ [])
quote_by text x rest bytes cut quote (inl ended) = (cut ∙ (ap (λ y. y ∷ rest) ended.0 ∙ ap (λ r. 34 ∷ r) ended.1), ended.2)
quote_by text x rest bytes cut quote (inr (inl plain)) = absurd (plain_no_quote x quote plain.0)
quote_by text x rest bytes cut quote (inr (inr escaped)) = absurd (omega (arith, escaped.0, quote))

pub none_at_quote : (text : List ℕ) (x : ℕ) (rest : List ℕ) → text ≡ x ∷ rest → x ≡ 34 → NoFirst text
none_at_quote text x rest cut quote bytes closes = quote_by text x rest bytes cut quote (closes_by text x rest bytes cut closes)

-- a backslash begins an escape

no_escape_by : (text : List ℕ) (x : ℕ) (rest bytes : List ℕ) → x ≡ 92 → NoEscaped rest
    → Ended x rest bytes ⊎ (Plain x rest bytes ⊎ Escaped x rest bytes) → ⊥
no_escape_by text x rest bytes slash never (inl ended) = omega (arith, ended.0, slash)
no_escape_by text x rest bytes slash never (inr (inl plain)) = plain_no_backslash x slash plain.0
no_escape_by text x rest bytes slash never (inr (inr escaped)) = never escaped.1 escaped.2 escaped.4

pub none_at_backslash : (text : List ℕ) (x : ℕ) (rest : List ℕ) → text ≡ x ∷ rest → x ≡ 92 → NoEscaped rest → NoFirst text
none_at_backslash text x rest cut slash never bytes closes =
    absurd (no_escape_by text x rest bytes slash never (closes_by text x rest bytes cut closes))

digits_close : (text : List ℕ) (byte : ℕ) (after bytes inner : List ℕ) → IsOctal text byte after → after ≡ inner ++ 34 ∷ []
    → StandsFor inner bytes → Closes (92 ∷ text) (byte ∷ bytes)
digits_close text byte after bytes inner o g stands =
    let v = o.value in
    let cut : text ≡ (48 + v.a) ∷ ((48 + v.b) ∷ ((48 + v.c) ∷ (inner ++ 34 ∷ []))) =
    o.cut ∙ (ap (λ x. x ∷ (o.second ∷ (o.third ∷ after))) v.first_is
    ∙ (ap (λ x. (48 + v.a) ∷ (x ∷ (o.third ∷ after))) v.second_is
    ∙ (ap (λ x. (48 + v.a) ∷ ((48 + v.b) ∷ (x ∷ after))) v.third_is
    ∙ ap (λ t. (48 + v.a) ∷ ((48 + v.b) ∷ ((48 + v.c) ∷ t))) g))) in
    let stand : StandsFor (92 ∷ ((48 + v.a) ∷ ((48 + v.b) ∷ ((48 + v.c) ∷ inner)))) ((v.a * 64 + (v.b * 8 + v.c)) ∷ bytes) =
    by_digits v.a v.b v.c inner bytes v.a_fits v.b_fits v.c_fits stands in (
      92 ∷ ((48 + v.a) ∷ ((48 + v.b) ∷ ((48 + v.c) ∷ inner))),
      ap (λ t. 92 ∷ t) cut,
      subst (λ (x : ℕ). StandsFor (92 ∷ ((48 + v.a) ∷ ((48 + v.b) ∷ ((48 + v.c) ∷ inner)))) (x ∷ bytes)) (sym v.sum) stand,
    )

escape_closes : (text : List ℕ) (byte : ℕ) (after bytes : List ℕ) → IsEscaped text byte after → Closes after bytes
    → Closes (92 ∷ text) (byte ∷ bytes)
escape_closes text byte after bytes (inl (letter, e, f)) (inner, g, stands) =
    (92 ∷ (letter ∷ inner), ap (λ t. 92 ∷ t) (e ∙ ap (λ t. letter ∷ t) g), by_letter byte letter inner bytes f stands)
escape_closes text byte after bytes (inr o) (inner, g, stands) = digits_close text byte after bytes inner o g stands

escape_only : (x : ℕ) (rest : List ℕ) (byte : ℕ) (after bytes : List ℕ) → x ≡ 92 → IsEscaped rest byte after
    → Ended x rest bytes ⊎ (Plain x rest bytes ⊎ Escaped x rest bytes) → (more : List ℕ) × (bytes ≡ byte ∷ more) × Closes after more
escape_only x rest byte after bytes slash escape (inl ended) = absurd (omega (arith, ended.0, slash))
escape_only x rest byte after bytes slash escape (inr (inl plain)) = absurd (plain_no_backslash x slash plain.0)
escape_only x rest byte after bytes slash escape (inr (inr (s, b, a, more, e, same, closes))) =
    let one = one_escape rest b byte a after e escape in
    (more, same ∙ ap (λ y. y ∷ more) one.0, subst (λ (t : List ℕ). Closes t more) one.1 closes)

escape_shorter : (text : List ℕ) (byte : ℕ) (after : List ℕ) → IsEscaped text byte after → length after < length text
escape_shorter text byte after (inl (letter, e, f)) = let h : length text ≡ suc (length after) = ap length e in omega arith
escape_shorter text byte after (inr o) = let h : length text ≡ suc (suc (suc (length after))) = ap length o.cut in omega arith

pub first_escape : (text : List ℕ) (x : ℕ) (rest : List ℕ) (byte : ℕ) (after : List ℕ) → text ≡ x ∷ rest → x ≡ 92
    → IsEscaped rest byte after → IsFirst text byte after
first_escape text x rest byte after cut slash escape = record {
  then_so = λ bytes closes. subst (λ (t : List ℕ). Closes t (byte ∷ bytes)) (sym (cut ∙ ap (λ y. y ∷ rest) slash))
      (escape_closes rest byte after bytes escape closes);
  only_so = λ bytes closes. escape_only x rest byte after bytes slash escape (closes_by text x rest bytes cut closes);
  shorter = let h : length text ≡ suc (length rest) = ap length cut in omega (arith, escape_shorter rest byte after escape);
}

-- any other byte stands as it is

plain_only : (x : ℕ) (rest bytes : List ℕ) → (x == 34 || x == 92) ≡ false
    → Ended x rest bytes ⊎ (Plain x rest bytes ⊎ Escaped x rest bytes) → (more : List ℕ) × (bytes ≡ x ∷ more) × Closes rest more
plain_only x rest bytes plain (inl ended) = absurd (plain_no_quote x ended.0 plain)
plain_only x rest bytes plain (inr (inl (p, more, same, closes))) = (more, same, closes)
plain_only x rest bytes plain (inr (inr escaped)) = absurd (plain_no_backslash x escaped.0 plain)

plain_closes : (x : ℕ) (rest bytes : List ℕ) → (x == 34 || x == 92) ≡ false → Closes rest bytes → Closes (x ∷ rest) (x ∷ bytes)
plain_closes x rest bytes plain (inner, e, stands) = (x ∷ inner, ap (λ t. x ∷ t) e, as_it_is x inner bytes plain stands)

neither : (x : ℕ) → x ≢ 34 → x ≢ 92 → (x == 34 || x == 92) ≡ false
neither x a b = grind (arith, nat_tests)

pub first_plain : (text : List ℕ) (x : ℕ) (rest : List ℕ) → text ≡ x ∷ rest → x ≢ 34 → x ≢ 92 → IsFirst text x rest
first_plain text x rest cut a b = record {
  then_so = λ bytes closes. subst (λ (t : List ℕ). Closes t (x ∷ bytes)) (sym cut) (plain_closes x rest bytes (neither x a b) closes);
  only_so = λ bytes closes. plain_only x rest bytes (neither x a b) (closes_by text x rest bytes cut closes);
  shorter = let h : length text ≡ suc (length rest) = ap length cut in omega arith;
}

pub first_or_none : {B : Type 0} (now : B → List ℕ) (text : List ℕ) (x : ℕ) (rest : List ℕ) (r : Option (ℕ × B))
    → text ≡ x ∷ rest → x ≡ 92 → MatchOption r (NoEscaped rest) (λ p. IsEscaped rest p.0 (now p.1))
    → MatchOption r (NoFirst text) (λ p. IsFirst text p.0 (now p.1))
first_or_none now text x rest None cut slash escape = none_at_backslash text x rest cut slash escape
first_or_none now text x rest (Some p) cut slash escape = first_escape text x rest p.0 (now p.1) cut slash escape

-- A text that ends in a closing quote, read to its end.

pub closes_more : (whole rest before : List ℕ) (byte : ℕ) (after : List ℕ)
    → ((tail : List ℕ) → Closes rest tail → Closes whole (before ++ tail)) → IsFirst rest byte after
    → (tail : List ℕ) → Closes after tail → Closes whole ((before ++ byte ∷ []) ++ tail)
closes_more whole rest before byte after so first tail closes =
    subst (Closes whole) (sym (append_assoc before (byte ∷ []) tail)) (so (byte ∷ tail) (first.then_so tail closes))

pub closes_only : (whole rest before : List ℕ) (byte : ℕ) (after : List ℕ)
    → ((all : List ℕ) → Closes whole all → (tail : List ℕ) × (all ≡ before ++ tail) × Closes rest tail) → IsFirst rest byte after
    → (all : List ℕ) → Closes whole all → (tail : List ℕ) × (all ≡ (before ++ byte ∷ []) ++ tail) × Closes after tail
closes_only whole rest before byte after only first all closes =
    let h = only all closes in
    let f = first.only_so h.0 h.2 in
    (f.0, h.1 ∙ (ap (λ t. before ++ t) f.1 ∙ sym (append_assoc before (byte ∷ []) f.0)), f.2)

pub closes_all : (whole rest before : List ℕ) → ((tail : List ℕ) → Closes rest tail → Closes whole (before ++ tail))
    → rest ≡ 34 ∷ [] → Closes whole before
closes_all whole rest before so quote =
    subst (Closes whole) (append-nil before) (so [] ([], quote, none))

pub closes_none : (whole rest before : List ℕ)
    → ((all : List ℕ) → Closes whole all → (tail : List ℕ) × (all ≡ before ++ tail) × Closes rest tail) → NoFirst rest → rest ≢ 34 ∷ []
    → (all : List ℕ) → ¬ Closes whole all
closes_none whole rest before only never other all closes = let h = only all closes in other (never h.0 h.2).0

-- A text between quotes.

no_quotes : (text : List ℕ) (x : ℕ) (rest : List ℕ) → text ≡ x ∷ rest → ((bytes : List ℕ) → ¬ Closes rest bytes)
    → (bytes : List ℕ) → ¬ IsQuoteOf text bytes
no_quotes text x rest cut never bytes (inner, e, stands) =
    never bytes (inner, (parts x 34 rest (inner ++ 34 ∷ []) (sym cut ∙ e)).1, stands)

pub quotes_by : (text : List ℕ) (x : ℕ) (rest : List ℕ) {X : Type 0} (items : X → List ℕ) (r : Option X) → text ≡ x ∷ rest → x ≡ 34
    → MatchOption r ((bytes : List ℕ) → ¬ Closes rest bytes) (λ bytes. Closes rest (items bytes))
    → MatchOption r ((bytes : List ℕ) → ¬ IsQuoteOf text bytes) (λ bytes. IsQuoteOf text (items bytes))
quotes_by text x rest items None cut quote never = no_quotes text x rest cut never
quotes_by text x rest items (Some bytes) cut quote (inner, e, stands) =
    (inner, cut ∙ (ap (λ y. y ∷ rest) quote ∙ ap (λ t. 34 ∷ t) e), stands)

pub no_quotes_of_none : (text : List ℕ) → text ≡ [] → (bytes : List ℕ) → ¬ IsQuoteOf text bytes
no_quotes_of_none text empty bytes (inner, e, stands) = let g : [] ≡ 34 ∷ (inner ++ 34 ∷ []) = sym empty ∙ e in cc

pub no_quotes_of_other : (text : List ℕ) (x : ℕ) (rest : List ℕ) → text ≡ x ∷ rest → x ≢ 34 → (bytes : List ℕ) → ¬ IsQuoteOf text bytes
no_quotes_of_other text x rest cut other bytes (inner, e, stands) = other (parts x 34 rest (inner ++ 34 ∷ []) (sym cut ∙ e)).0

-- A text of one byte.

more_than_a_quote : (text : List ℕ) (byte : ℕ) (rest : List ℕ) → text ≡ byte ∷ rest → false ≡ (length rest == 0) → text ≢ 34 ∷ []
more_than_a_quote text byte rest cut e f =
    let p = parts byte 34 rest [] (sym cut ∙ f) in
    false≢true (e ∙ eq-eqb (length rest) 0 (ap length p.1))

pub quote_or_not : (text : List ℕ) (byte : ℕ) (rest : List ℕ) (r : Bool) → text ≡ byte ∷ rest → byte ≡ 34 → r ≡ (length rest == 0)
    → MatchBool r (text ≡ 34 ∷ []) (text ≢ 34 ∷ [])
quote_or_not text byte rest true cut b e =
    cut ∙ (ap (λ y. y ∷ rest) b ∙ ap (λ t. 34 ∷ t) (nil_from_length rest (eqb-true (length rest) 0 (sym e))))
quote_or_not text byte rest false cut b e = more_than_a_quote text byte rest cut e
