-- Which texts the patterns of the three forms match.
use Rattle.std.proofs.Common.{◌≡◌, ◌≢◌, ◌⊎◌, ℕ, Bool, true, false, List, [], ◌∷◌, ◌++◌, All, Option, None, Some, refl, sym}
use Rattle.std.proofs.Common.{ap, subst, ◌∙◌, inl, inr, eqb, cond, append_assoc}
use Rattle.std.specs.Option.{option_map}
use Rattle.std.specs.Char.{encode_utf8}
use Rattle.std.specs.Str.{chars, IsUtf8}
use Rattle.std.proofs.lemmas.Bool.{eqb-true, eqb-false}
use Rattle.std.proofs.lemmas.List.Elements.{All-cons, All-nil}
use Rattle.std.proofs.lemmas.Str.{chars-append, encodes-append, encodes-chars, cons_from_encodes, encodes_same}
use Rattle.ignore_glob.specs.Glob.{literal, any, star, start, middle, end, class, alternates, Tokens, done, then}
use Rattle.ignore_glob.specs.Matches.{slash, EndsWithSlash, tokens_match}
use Rattle.ignore_glob.specs.Reading.{Reading, Matches}
use Rattle.ignore_glob.specs.Forms.{Form, whole, name, ending, other, literals, keyed, below_form, tokens_form, form_of}
use Rattle.ignore_glob.specs.Ends.{HasEnd, HasName}
use lib.Utf8.{encodes}

-- what the tokens of a form are
abbrev pub Says : Bool → Tokens → Form → Type 0
Says fold ts (whole text) = (fold ≡ false) × (literals ts ≡ Some text) × (text ≢ [])
Says fold ts (name text) = (fold ≡ false) × (rest : Tokens) × (ts ≡ then start rest) × (literals rest ≡ Some text) × (text ≢ [])
Says fold ts (ending text) =
    (fold ≡ false) × (rest : Tokens) × (ts ≡ then start (then star rest)) × (literals rest ≡ Some text) × (text ≢ [])
Says fold ts other = Unit {0}

says_whole : (ts : Tokens) (o : Option (List ℕ)) → literals ts ≡ o → Says false ts (keyed whole o)
says_whole ts None e = tt
says_whole ts (Some []) e = tt
says_whole ts (Some (b ∷ bs)) e = (refl, e, λ wrong. cc)

says_name : (rest : Tokens) (o : Option (List ℕ)) → literals rest ≡ o → Says false (then start rest) (keyed name o)
says_name rest None e = tt
says_name rest (Some []) e = tt
says_name rest (Some (b ∷ bs)) e = (refl, rest, refl, e, λ wrong. cc)

says_ending : (rest : Tokens) (o : Option (List ℕ)) → literals rest ≡ o → Says false (then start (then star rest)) (keyed ending o)
says_ending rest None e = tt
says_ending rest (Some []) e = tt
says_ending rest (Some (b ∷ bs)) e = (refl, rest, refl, e, λ wrong. cc)

says_below : (ts : Tokens) → Says false (then start ts) (below_form ts)
says_below done = tt
says_below (then (literal c) ts) = says_name (then (literal c) ts) (literals (then (literal c) ts)) refl
says_below (then any ts) = tt
says_below (then star ts) = says_ending ts (literals ts) refl
says_below (then start ts) = tt
says_below (then middle ts) = tt
says_below (then end ts) = tt
says_below (then (class negated ranges) ts) = tt
says_below (then (alternates bs) ts) = tt

pub says_tokens : (ts : Tokens) → Says false ts (tokens_form ts)
says_tokens done = tt
says_tokens (then (literal c) ts) = says_whole (then (literal c) ts) (literals (then (literal c) ts)) refl
says_tokens (then any ts) = tt
says_tokens (then star ts) = tt
says_tokens (then start ts) = says_below ts
says_tokens (then middle ts) = tt
says_tokens (then end ts) = tt
says_tokens (then (class negated ranges) ts) = tt
says_tokens (then (alternates bs) ts) = tt

says : (r : Reading) → Says r.case_insensitive r.tokens (form_of r)
says r = by_case r.case_insensitive
  where
    by_case : (fold : Bool) → Says fold r.tokens (cond fold other (tokens_form r.tokens))
    by_case true = tt
    by_case false = says_tokens r.tokens

-- literals match the one text that they spell

pub from_some : (c : ℕ) (o : Option (List ℕ)) (text : List ℕ) → option_map (λ bytes. encode_utf8 c ++ bytes) o ≡ Some text
    → (rest : List ℕ) × (o ≡ Some rest) × (text ≡ encode_utf8 c ++ rest)
from_some c None text e = cc
from_some c (Some rest) text e = (rest, refl, cc)

pub spelled : (ts : Tokens) (text w : List ℕ) → literals ts ≡ Some text → tokens_match false ts w → encodes w ≡ text
spelled done text w e h = ap encodes h ∙ cc
spelled (then (literal c) ts) text w e (a, b, cut, (d, one, same), more) =
    let found = from_some c (literals ts) text e in
    ap encodes (cut ∙ ap (λ l. l ++ b) (one ∙ ap (λ x. x ∷ []) same))
    ∙ (ap (λ l. encode_utf8 c ++ l) (spelled ts found.0 b found.1 more) ∙ sym found.2)
spelled (then any ts) text w e h = cc
spelled (then star ts) text w e h = cc
spelled (then start ts) text w e h = cc
spelled (then middle ts) text w e h = cc
spelled (then end ts) text w e h = cc
spelled (then (class negated ranges) ts) text w e h = cc
spelled (then (alternates bs) ts) text w e h = cc

no_text : (w : List ℕ) → encodes w ≡ [] → w ≡ []
no_text w e = encodes_same w [] e

pub matched : (ts : Tokens) (text w : List ℕ) → literals ts ≡ Some text → encodes w ≡ text → tokens_match false ts w
matched done text w e h = no_text w (h ∙ cc)
matched (then (literal c) ts) text w e h =
    let found = from_some c (literals ts) text e in
    let cut = cons_from_encodes w found.0 c (h ∙ found.2) in
    (c ∷ [], cut.0, cut.1, (c, refl, refl), matched ts found.0 cut.0 found.1 cut.2)
matched (then any ts) text w e h = cc
matched (then star ts) text w e h = cc
matched (then start ts) text w e h = cc
matched (then middle ts) text w e h = cc
matched (then end ts) text w e h = cc
matched (then (class negated ranges) ts) text w e h = cc
matched (then (alternates bs) ts) text w e h = cc

-- a text is what ends with its last slash, or nothing, and a name
last_slash : (a : List ℕ) → (dirs base : List ℕ) × (a ≡ dirs ++ base) × ((dirs ≡ []) ⊎ EndsWithSlash dirs) × All (λ d. d ≢ slash) base
last_slash [] = ([], [], refl, inl refl, All-nil (λ d. d ≢ slash))
last_slash (c ∷ a) = by_rest (last_slash a)
  where
    here : (yes : Bool) (base : List ℕ) → eqb c 47 ≡ yes → All (λ d. d ≢ slash) base
        → (dirs rest : List ℕ) × (c ∷ base ≡ dirs ++ rest) × ((dirs ≡ []) ⊎ EndsWithSlash dirs) × All (λ d. d ≢ slash) rest
    here true base e all = (c ∷ [], base, refl, inr ([], ap (λ x. x ∷ []) (eqb-true c 47 e)), all)
    here false base e all = ([], c ∷ base, refl, inl refl, All-cons (λ d. d ≢ slash) c base (eqb-false c 47 e) all)

    by_rest : (dirs base : List ℕ) × (a ≡ dirs ++ base) × ((dirs ≡ []) ⊎ EndsWithSlash dirs) × All (λ d. d ≢ slash) base
        → (dirs base : List ℕ) × (c ∷ a ≡ dirs ++ base) × ((dirs ≡ []) ⊎ EndsWithSlash dirs) × All (λ d. d ≢ slash) base
    by_rest (dirs, base, cut, inl none, all) =
        let found = here (eqb c 47) base refl all in
        (found.0, found.1, ap (λ l. c ∷ l) (cut ∙ ap (λ d. d ++ base) none) ∙ found.2, found.3, found.4)
    by_rest (dirs, base, cut, inr (before', ends), all) =
        (c ∷ dirs, base, ap (λ l. c ∷ l) cut, inr (c ∷ before', ap (λ l. c ∷ l) ends), all)

-- The whole text.

pub whole_matches : (r : Reading) (key text : List ℕ) → form_of r ≡ whole key → IsUtf8 text → text ≡ key → Matches r (chars text)
whole_matches r key text is utf8 same =
    let s = subst (λ f. Says r.case_insensitive r.tokens f) is (says r) in
    inr (subst (λ fold. tokens_match fold r.tokens (chars text)) (sym s.0)
    (matched r.tokens key (chars text) s.1 (encodes-chars text utf8 ∙ same)))

pub matches_whole : (r : Reading) (key text : List ℕ) → form_of r ≡ whole key → IsUtf8 text → Matches r (chars text) → text ≡ key
matches_whole r key text is utf8 (inl lone) =
    let s = subst (λ f. Says r.case_insensitive r.tokens f) is (says r) in
    let wrong : literals (then start done) ≡ Some key = ap literals (sym lone) ∙ s.1 in cc
matches_whole r key text is utf8 (inr h) =
    let s = subst (λ f. Says r.case_insensitive r.tokens f) is (says r) in
    sym (encodes-chars text utf8) ∙ spelled r.tokens key (chars text) s.1 (subst (λ fold. tokens_match fold r.tokens (chars text)) s.0 h)

-- The last components, and the end.

-- a pattern of a recursive start and these tokens matches what they match
below : (r : Reading) (rest : Tokens) (w : List ℕ) → r.case_insensitive ≡ false → r.tokens ≡ then start rest
    → tokens_match false (then start rest) w → Matches r w
below r rest w case is h = inr (subst (λ fold. tokens_match fold r.tokens w) (sym case) (subst (λ ts. tokens_match false ts w) (sym is) h))

above : (r : Reading) (rest : Tokens) (w : List ℕ) → r.case_insensitive ≡ false → r.tokens ≡ then start rest → rest ≢ done
    → Matches r w → tokens_match false (then start rest) w
above r rest w case is filled (inl lone) = absurd (filled (rests (sym is ∙ lone)))
  where
    rests : then start rest ≡ then start done → rest ≡ done
    rests e = cc
above r rest w case is filled (inr h) = subst (λ ts. tokens_match false ts w) is (subst (λ fold. tokens_match fold r.tokens w) case h)

not_done : (rest : Tokens) (text : List ℕ) → literals rest ≡ Some text → text ≢ [] → rest ≢ done
not_done rest text e some is = some (emptied (ap literals (sym is) ∙ e))
  where
    emptied : literals done ≡ Some text → text ≡ []
    emptied h = cc

star_not_done : (rest : Tokens) → then star rest ≢ done
star_not_done rest e = cc

pub slash_byte : encodes (47 ∷ []) ≡ 47 ∷ []
unfolding encode_utf8
slash_byte = refl

-- the UTF-8 of characters, a slash and characters
slashed : (a b front key : List ℕ) → encodes a ≡ front → encodes b ≡ key → encodes ((a ++ 47 ∷ []) ++ b) ≡ front ++ 47 ∷ key
slashed a b front key e f =
    encodes-append (a ++ 47 ∷ []) b
    ∙ (ap (λ l. l ++ encodes b) (encodes-append a (47 ∷ []) ∙ ap (λ l. encodes a ++ l) slash_byte)
    ∙ (append_assoc (encodes a) (47 ∷ []) (encodes b) ∙ (ap (λ l. l ++ 47 ∷ encodes b) e ∙ ap (λ l. front ++ 47 ∷ l) f)))

pub name_matches : (r : Reading) (key text : List ℕ) → form_of r ≡ name key → IsUtf8 key → HasName key text → IsUtf8 text
    → Matches r (chars text)
name_matches r key text is spelt (inl same) utf8 =
    let s = subst (λ f. Says r.case_insensitive r.tokens f) is (says r) in
    below r s.1 (chars text) s.0 s.2 ([], chars text, refl, inl refl, matched s.1 key (chars text) s.3 (encodes-chars text utf8 ∙ same))
name_matches r key text is spelt (inr (front, fits, cut)) utf8 =
    let s = subst (λ f. Says r.case_insensitive r.tokens f) is (says r) in
    let spell = slashed (chars front) (chars key) front key (encodes-chars front fits) (encodes-chars key spelt) in
    let all = encodes_same (chars text) ((chars front ++ 47 ∷ []) ++ chars key) (encodes-chars text utf8 ∙ (cut ∙ sym spell)) in
    below r s.1 (chars text) s.0 s.2 (
      chars front ++ 47 ∷ [],
      chars key,
      all,
      inr (chars front, refl),
      matched s.1 key (chars key) s.3 (encodes-chars key spelt),
    )

name_cut : (text key a b : List ℕ) → IsUtf8 text → chars text ≡ a ++ b → (a ≡ []) ⊎ EndsWithSlash a → encodes b ≡ key
    → (text ≡ key) ⊎ ((front : List ℕ) × (text ≡ front ++ 47 ∷ key))
name_cut text key a b utf8 cut (inl none) e =
    inl (sym (encodes-chars text utf8) ∙ (ap encodes (cut ∙ ap (λ l. l ++ b) none) ∙ e))
name_cut text key a b utf8 cut (inr (dirs, ends)) e =
    inr (
      encodes dirs,
      sym (encodes-chars text utf8)
          ∙ (ap encodes (cut ∙ ap (λ l. l ++ b) ends) ∙ slashed dirs b (encodes dirs) key refl e),
    )

pub matches_name : (r : Reading) (key text : List ℕ) → form_of r ≡ name key → IsUtf8 text → Matches r (chars text)
    → (text ≡ key) ⊎ ((front : List ℕ) × (text ≡ front ++ 47 ∷ key))
matches_name r key text is utf8 h =
    let s = subst (λ f. Says r.case_insensitive r.tokens f) is (says r) in
    let m = above r s.1 (chars text) s.0 s.2 (not_done s.1 key s.3 s.4) h in
    name_cut text key m.0 m.1 utf8 m.2 m.3 (spelled s.1 key m.1 s.3 m.4)

pub end_matches : (r : Reading) (key text : List ℕ) → form_of r ≡ ending key → IsUtf8 key → HasEnd key text → Matches r (chars text)
end_matches r key text is spelt (front, fits, cut) =
    let s = subst (λ f. Says r.case_insensitive r.tokens f) is (says r) in
    let split = last_slash (chars front) in
    let all : chars text ≡ split.0 ++ (split.1 ++ chars key) =
    ap chars cut ∙ (chars-append front key fits ∙ (ap (λ l. l ++ chars key) split.2 ∙ append_assoc split.0 split.1 (chars key))) in
    below r (then star s.1) (chars text) s.0 s.2 (
      split.0,
      split.1 ++ chars key,
      all,
      split.3,
      (
        split.1,
        chars key,
        refl,
        split.4,
        matched s.1 key (chars key) s.3 (encodes-chars key spelt),
      ),
    )

pub matches_end : (r : Reading) (key text : List ℕ) → form_of r ≡ ending key → IsUtf8 text → Matches r (chars text)
    → (front : List ℕ) × (text ≡ front ++ key)
matches_end r key text is utf8 h =
    let s = subst (λ f. Says r.case_insensitive r.tokens f) is (says r) in
    let m = above r (then star s.1) (chars text) s.0 s.2 (star_not_done s.1) h in
    let n = m.4 in
    let whole' : chars text ≡ (m.0 ++ n.0) ++ n.1 = m.2 ∙ (ap (λ l. m.0 ++ l) n.2 ∙ sym (append_assoc m.0 n.0 n.1)) in (
      encodes (m.0 ++ n.0),
      sym (encodes-chars text utf8)
          ∙ (ap encodes whole' ∙ (encodes-append (m.0 ++ n.0) n.1 ∙ ap (λ l. encodes (m.0 ++ n.0) ++ l) (spelled s.1 key n.1 s.3 n.4))),
    )
