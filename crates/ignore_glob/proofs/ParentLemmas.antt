-- The parent of the texts that tokens match which are literals up to the last slash.
use Rattle.std.proofs.Common.{◌≡◌, ◌≢◌, ℕ, ◌+◌, ◌/◌, ◌%◌, Bool, true, false, cond, List, [], ◌∷◌, ◌++◌, All, length, map, take, drop}
use Rattle.std.proofs.Common.{Some, refl, sym, ap, subst, ◌∙◌, inl, inr, arith}
use Rattle.std.specs.Str.{chars, IsUtf8}
use Rattle.std.proofs.lemmas.List.{length-append, map-append, take-append-drop}
use Rattle.std.proofs.lemmas.List.Elements.{All-append, All-cons, All-head, All-nil, All-tail}
use Rattle.std.proofs.lemmas.Str.{encodes-append, encodes-chars}
use Rattle.ignore_glob.specs.declared.glob.token.Token.{Token as CodeToken}
use Rattle.ignore_glob.specs.Ends.{HasParent}
use Rattle.ignore_glob.specs.Forms.{literals}
use Rattle.ignore_glob.specs.Glob.{Token, literal, any, star, start, middle, end, class, alternates, Tokens, done, then}
use Rattle.ignore_glob.specs.Matches.{IsMember, slash, token_matches, tokens_match, glob_matches}
use Rattle.ignore_glob.specs.View.{tokens_of, tokens_view, view}
use Rattle.ignore_glob.proofs.FormLemmas.{from_some}
use lib.Dec.{ltb}
use lib.Utf8.{encode, encodes}

-- Without a slash among characters there is none among their bytes.

plain_bytes : (x y z : Bool) (c : ℕ) → c ≢ 47 → All (λ b. b ≢ 47) (cond x (c ∷ [])
    (cond y ((192 + c / 64) ∷ (128 + c % 64) ∷ [])
    (cond z ((224 + c / 4096) ∷ (128 + c / 64 % 64) ∷ (128 + c % 64) ∷ [])
    ((240 + c / 262144) ∷ (128 + c / 4096 % 64) ∷ (128 + c / 64 % 64) ∷ (128 + c % 64) ∷ []))))
plain_bytes x y z c other = at x y z
  where
    P : ℕ → Type 0
    P b = b ≢ 47

    high : (b : ℕ) → P (128 + b)
    high b e = omega (arith, e)

    one : (b : ℕ) → All P ((128 + b) ∷ [])
    one b = All-cons P (128 + b) [] (high b) (All-nil P)

    at : (x y z : Bool) → All P (cond x (c ∷ [])
        (cond y ((192 + c / 64) ∷ (128 + c % 64) ∷ [])
        (cond z ((224 + c / 4096) ∷ (128 + c / 64 % 64) ∷ (128 + c % 64) ∷ [])
        ((240 + c / 262144) ∷ (128 + c / 4096 % 64) ∷ (128 + c / 64 % 64) ∷ (128 + c % 64) ∷ []))))
    at true y z = All-cons P c [] other (All-nil P)
    at false true z = All-cons P (192 + c / 64) ((128 + c % 64) ∷ []) (λ e. omega (arith, e)) (one (c % 64))
    at false false true =
        All-cons P (224 + c / 4096) ((128 + c / 64 % 64) ∷ (128 + c % 64) ∷ []) (λ e. omega (arith, e))
        (All-cons P (128 + c / 64 % 64) ((128 + c % 64) ∷ []) (high (c / 64 % 64)) (one (c % 64)))
    at false false false =
        All-cons P (240 + c / 262144) ((128 + c / 4096 % 64) ∷ (128 + c / 64 % 64) ∷ (128 + c % 64) ∷ []) (λ e. omega (arith, e))
        (All-cons P (128 + c / 4096 % 64) ((128 + c / 64 % 64) ∷ (128 + c % 64) ∷ []) (high (c / 4096 % 64))
        (All-cons P (128 + c / 64 % 64) ((128 + c % 64) ∷ []) (high (c / 64 % 64)) (one (c % 64))))

plain_char : (c : ℕ) → c ≢ 47 → All (λ b. b ≢ 47) (encode c)
unfolding encode
plain_char c other = plain_bytes (ltb c 128) (ltb c 2048) (ltb c 65536) c other

plain_chars : (cs : List ℕ) → All (λ d. d ≢ slash) cs → All (λ b. b ≢ 47) (encodes cs)
plain_chars [] h = All-nil (λ b. b ≢ 47)
plain_chars (c ∷ cs) h =
    All-append (λ b. b ≢ 47) (encode c) (encodes cs) (plain_char c (All-head (λ d. d ≢ slash) c cs h))
    (plain_chars cs (All-tail (λ d. d ≢ slash) c cs h))

-- One token that matches no slash.

one_plain : (d : ℕ) (w : List ℕ) → w ≡ d ∷ [] → d ≢ slash → All (λ x. x ≢ slash) w
one_plain d w e other = subst (λ l. All (λ x. x ≢ slash) l) (sym e) (All-cons (λ x. x ≢ slash) d [] other (All-nil (λ x. x ≢ slash)))

pub plain_literal : (c : ℕ) (w : List ℕ) → c ≢ 47 → token_matches false (literal c) w → All (λ d. d ≢ slash) w
plain_literal c w other (d, e, same) = one_plain d w e (λ is. other (sym same ∙ is))

pub plain_any : (w : List ℕ) → token_matches false any w → All (λ d. d ≢ slash) w
plain_any w (d, e, other) = one_plain d w e other

pub plain_class : (negated : Bool) (ranges : List (ℕ × ℕ)) (w : List ℕ) → (IsMember false negated ranges 47 → ⊥)
    → token_matches false (class negated ranges) w → All (λ d. d ≢ slash) w
plain_class negated ranges w lacks (d, e, has) = one_plain d w e (λ is. lacks (subst (λ x. IsMember false negated ranges x) is has))

-- A token more that matches none.

pub plain_more : (t : Token) (ts : Tokens) → ((w : List ℕ) → token_matches false t w → All (λ d. d ≢ slash) w)
    → ((w : List ℕ) → tokens_match false ts w → All (λ d. d ≢ slash) w)
    → (w : List ℕ) → tokens_match false (then t ts) w → All (λ d. d ≢ slash) w
plain_more t ts one rest w (a, b, cut, m, more) =
    subst (λ l. All (λ d. d ≢ slash) l) (sym cut) (All-append (λ d. d ≢ slash) a b (one a m) (rest b more))

pub plain_none : (w : List ℕ) → tokens_match false done w → All (λ d. d ≢ slash) w
plain_none w e = subst (λ l. All (λ d. d ≢ slash) l) (sym e) (All-nil (λ d. d ≢ slash))

-- Tokens, and then others.

abbrev pub Joins : Tokens → Tokens → Tokens → Type 0
Joins done us all = all ≡ us
Joins (then t ts) us all = (rest : Tokens) × (all ≡ then t rest) × Joins ts us rest

joined : (ts us : List Token) → Joins (tokens_of ts) (tokens_of us) (tokens_of (ts ++ us))
joined [] us = refl
joined (t ∷ ts) us = (tokens_of (ts ++ us), refl, joined ts us)

view_joined : (tokens : List CodeToken) (n : ℕ) → Joins (tokens_view (take n tokens)) (tokens_view (drop n tokens)) (tokens_view tokens)
view_joined tokens n =
    subst (λ l. Joins (tokens_view (take n tokens)) (tokens_view (drop n tokens)) (tokens_of l))
    (sym (map-append view (take n tokens) (drop n tokens)) ∙ ap (map view) (take-append-drop n tokens))
    (joined (map view (take n tokens)) (map view (drop n tokens)))

-- what literals and then others match is the text of those and what these match
cut_after : (ts us all : Tokens) (text w : List ℕ) → Joins ts us all → literals ts ≡ Some text → tokens_match false all w
    → (a b : List ℕ) × (w ≡ a ++ b) × (encodes a ≡ text) × tokens_match false us b
cut_after done us all text w j e h = ([], w, refl, cc, subst (λ ts. tokens_match false ts w) j h)
cut_after (then (literal c) ts) us all text w (rest, is, j) e h =
    by_first (subst (λ ts. tokens_match false ts w) is h) (from_some c (literals ts) text e)
    (λ r b spelt more. cut_after ts us rest r b j spelt more)
  where
    by_first : tokens_match false (then (literal c) rest) w
        → (r : List ℕ) × (literals ts ≡ Some r) × (text ≡ encode c ++ r)
        → ((r b : List ℕ) → literals ts ≡ Some r → tokens_match false rest b
        → (x y : List ℕ) × (b ≡ x ++ y) × (encodes x ≡ r) × tokens_match false us y)
        → (a b : List ℕ) × (w ≡ a ++ b) × (encodes a ≡ text) × tokens_match false us b
    by_first (a, b, cut, (d, one, same), more) (r, spelt, begins) later =
        let p = later r b spelt more in (
          c ∷ p.0,
          p.1,
          cut ∙ (ap (λ l. l ++ b) (one ∙ ap (λ x. x ∷ []) same) ∙ ap (λ l. c ∷ l) p.2),
          ap (λ l. encode c ++ l) p.3 ∙ sym begins,
          p.4,
        )
cut_after (then any ts) us all text w j e h = cc
cut_after (then star ts) us all text w j e h = cc
cut_after (then start ts) us all text w j e h = cc
cut_after (then middle ts) us all text w j e h = cc
cut_after (then end ts) us all text w j e h = cc
cut_after (then (class negated ranges) ts) us all text w j e h = cc
cut_after (then (alternates bs) ts) us all text w j e h = cc

-- a lone recursive start doesn't begin with literals
not_lone : (ts us : Tokens) (text front : List ℕ) → Joins ts us (then start done) → literals ts ≡ Some text
    → text ≡ front ++ 47 ∷ [] → ⊥
not_lone done us text front j e ends =
    let none : text ≡ [] = cc in
    absurd (omega (arith, ap length none, ap length ends, length-append front (47 ∷ [])))
not_lone (then (literal c) ts) us text front (rest, is, j) e ends = cc
not_lone (then any ts) us text front j e ends = cc
not_lone (then star ts) us text front j e ends = cc
not_lone (then start ts) us text front j e ends = cc
not_lone (then middle ts) us text front j e ends = cc
not_lone (then end ts) us text front j e ends = cc
not_lone (then (class negated ranges) ts) us text front j e ends = cc
not_lone (then (alternates bs) ts) us text front j e ends = cc

pub has_parent : (tokens : List CodeToken) (n : ℕ) (parent text : List ℕ) → literals (tokens_view (take n tokens)) ≡ Some parent
    → (front : List ℕ) × (parent ≡ front ++ 47 ∷ [])
    → ((w : List ℕ) → tokens_match false (tokens_view (drop n tokens)) w → All (λ d. d ≢ slash) w)
    → IsUtf8 text → glob_matches false (tokens_view tokens) (chars text) → HasParent parent text
has_parent tokens n parent text spelt ends plain utf8 (inl lone) =
    absurd (not_lone (tokens_view (take n tokens)) (tokens_view (drop n tokens)) parent ends.0
    (subst (λ ts. Joins (tokens_view (take n tokens)) (tokens_view (drop n tokens)) ts) lone (view_joined tokens n)) spelt ends.1)
has_parent tokens n parent text spelt ends plain utf8 (inr h) =
    let p = cut_after (tokens_view (take n tokens)) (tokens_view (drop n tokens)) (tokens_view tokens) parent (chars text)
    (view_joined tokens n) spelt h in (
      ends,
      encodes p.1,
      sym (encodes-chars text utf8) ∙ (ap encodes p.2 ∙ (encodes-append p.0 p.1 ∙ ap (λ l. l ++ encodes p.1) p.3)),
      plain_chars p.1 (plain p.1 p.4),
    )
