-- What tokens leave known of the texts that they match.
use Rattle.std.proofs.Common.{◌≡◌, ◌≢◌, ◌⊎◌, ℕ, ◌+◌, ◌<◌, ◌≤◌, Bool, true, false, IsTrue, List, [], ◌∷◌, ◌++◌, length}
use Rattle.std.proofs.Common.{drop, drop-cons, add-one, get_or, map, refl, sym, ap, subst, ◌∙◌, inl}
use Rattle.std.proofs.Common.{inr, encode_utf8, append_assoc, nat_le, ◌&&◌, ◌||◌, string_bytes, suc, arith, Vec, Global}
use Rattle.std.proofs.Common.{String}
use Rattle.std.specs.Str.{chars, IsUtf8}
use Rattle.std.proofs.lemmas.List.{append-nil, drop_all, map-append}
use Rattle.std.proofs.lemmas.Str.{encodes-chars}
use Rattle.ignore_glob.specs.declared.glob.token.Token.{Token as CodeToken}
use Rattle.ignore_glob.specs.Glob.{Token, class, alternates, Tokens}
use Rattle.ignore_glob.specs.Glob.{Branches, no_branch, branch}
use Rattle.ignore_glob.specs.Matches.{token_matches, tokens_match, branch_matches, glob_matches, in_ranges}
use Rattle.ignore_glob.specs.Needles.{utf8, BeginsWith, HasOneOf, EndsAndHas}
use Rattle.ignore_glob.specs.View.{view, tokens_view, branches_view}
use lib.Utf8.{encodes}

-- The UTF-8 of characters.

utf8-append : (a b : List ℕ) → utf8 (a ++ b) ≡ utf8 a ++ utf8 b
utf8-append [] b = refl
utf8-append (c ∷ a) b = ap (λ l. encode_utf8 c ++ l) (utf8-append a b) ∙ sym (append_assoc (encode_utf8 c) (utf8 a) (utf8 b))

utf8-encodes : (w : List ℕ) → utf8 w ≡ encodes w
utf8-encodes [] = refl
utf8-encodes (c ∷ w) = ap (λ l. encode_utf8 c ++ l) (utf8-encodes w)

utf8-chars : (text : List ℕ) → IsUtf8 text → utf8 (chars text) ≡ text
utf8-chars text fits = utf8-encodes (chars text) ∙ encodes-chars text fits

utf8-one : (c : ℕ) → utf8 (c ∷ []) ≡ encode_utf8 c
utf8-one c = append-nil (encode_utf8 c)

-- One of some texts.

one_more : (needles : List (List ℕ)) (text more : List ℕ) → HasOneOf needles text → HasOneOf needles (text ++ more)
one_more [] text more h = h
one_more (n ∷ ns) text more (inl (a, b, e)) =
    inl (a, b ++ more, ap (λ l. l ++ more) e ∙ (append_assoc a (n ++ b) more ∙ ap (λ l. a ++ l) (append_assoc n b more)))
one_more (n ∷ ns) text more (inr h) = inr (one_more ns text more h)

one_after : (needles : List (List ℕ)) (front text : List ℕ) → HasOneOf needles text → HasOneOf needles (front ++ text)
one_after [] front text h = h
one_after (n ∷ ns) front text (inl (a, b, e)) = inl (front ++ a, b, ap (λ l. front ++ l) e ∙ sym (append_assoc front a (n ++ b)))
one_after (n ∷ ns) front text (inr h) = inr (one_after ns front text h)

pub one_kept : (needles : List (List ℕ)) (n text : List ℕ) → HasOneOf needles text → HasOneOf (needles ++ n ∷ []) text
one_kept [] n text h = absurd h
one_kept (m ∷ ns) n text (inl h) = inl h
one_kept (m ∷ ns) n text (inr h) = inr (one_kept ns n text h)

pub one_last : (needles : List (List ℕ)) (n text : List ℕ) → BeginsWith n text → HasOneOf (needles ++ n ∷ []) text
one_last [] n text (b, e) = inl ([], b, e)
one_last (m ∷ ns) n text h = inr (one_last ns n text h)

-- what is in the empty text is empty
nothing : (a n b : List ℕ) → [] ≡ a ++ (n ++ b) → n ≡ []
nothing [] [] b e = refl
nothing [] (x ∷ n) b e = cc
nothing (x ∷ a) n b e = cc

one_of_nothing : (needles : List (List ℕ)) (text : List ℕ) → HasOneOf needles [] → HasOneOf needles text
one_of_nothing [] text h = h
one_of_nothing (n ∷ ns) text (inl (a, b, e)) = inl ([], text, ap (λ l. l ++ text) (sym (nothing a n b e)))
one_of_nothing (n ∷ ns) text (inr h) = inr (one_of_nothing ns text h)

-- One token.

pub known_character : (c : ℕ) (run run' : List ℕ) (needles : List (List ℕ)) → run' ≡ run ++ encode_utf8 c → (text : List ℕ)
    → EndsAndHas run needles text → EndsAndHas run' needles (text ++ utf8 (c ∷ []))
known_character c run run' needles grown text ((front, e), has) = (
  (
    front,
    ap (λ l. text ++ l) (utf8-one c) ∙ (ap (λ l. l ++ encode_utf8 c) e
        ∙ (append_assoc front run (encode_utf8 c) ∙ ap (λ l. front ++ l) (sym grown))),
  ),
  one_more needles text (utf8 (c ∷ [])) has,
)

pub known_past : (t : Token) (run none : List ℕ) (needles more chosen : List (List ℕ)) → none ≡ []
    → ((front w : List ℕ) → token_matches false t w → HasOneOf more ((front ++ run) ++ utf8 w))
    → ((text : List ℕ) → HasOneOf needles text → HasOneOf more text → HasOneOf chosen text)
    → (text w : List ℕ) → EndsAndHas run needles text → token_matches false t w → EndsAndHas none chosen (text ++ utf8 w)
known_past t run none needles more chosen empty extended choice text w ((front, e), has) m = (
  (text ++ utf8 w, sym (ap (λ l. (text ++ utf8 w) ++ l) empty ∙ append-nil (text ++ utf8 w))),
  choice (text ++ utf8 w) (one_more needles text (utf8 w) has) (subst (λ l. HasOneOf more (l ++ utf8 w)) (sym e) (extended front w m)),
)

-- what begins with the run, after any text
pub after_front : (texts : List (List ℕ)) (front run w : List ℕ) → HasOneOf texts (run ++ w) → HasOneOf texts ((front ++ run) ++ w)
after_front texts front run w h = subst (λ l. HasOneOf texts l) (sym (append_assoc front run w)) (one_after texts front (run ++ w) h)

-- The tokens from a place on.

-- what the tokens match is what the first of them leave known, and what the others match
abbrev pub Leaves : Tokens → Tokens → List ℕ → List (List ℕ) → Type 0
Leaves all rest run needles =
    (w : List ℕ) → tokens_match false all w → (a b : List ℕ) × (w ≡ a ++ b) × tokens_match false rest b × EndsAndHas run needles (utf8 a)

module _ (tokens : List CodeToken) (i : ℕ) (t : CodeToken) (fits : i < length tokens) (is : t ≡ get_or tokens i t) where
  place : drop i tokens ≡ t ∷ drop (i + 1) tokens
  place = rw add-one (drop-cons tokens i t fits ∙ ap (λ x. x ∷ drop (suc i) tokens) (sym is))

pub leaves_more : (tokens : List CodeToken) (i : ℕ) (t : CodeToken) (run run' : List ℕ) (needles needles' : List (List ℕ))
    → i < length tokens → t ≡ get_or tokens i t
    → ((text w : List ℕ) → EndsAndHas run needles text → token_matches false (view t) w → EndsAndHas run' needles' (text ++ utf8 w))
    → Leaves (tokens_view tokens) (tokens_view (drop i tokens)) run needles
    → Leaves (tokens_view tokens) (tokens_view (drop (i + 1) tokens)) run' needles'
leaves_more tokens i t run run' needles needles' fits is step leaves w m =
    let l = leaves w m in
    let p = subst (λ ts. tokens_match false (tokens_view ts) l.1) (place tokens i t fits is) l.3 in (
      l.0 ++ p.0,
      p.1,
      l.2 ∙ (ap (λ x. l.0 ++ x) p.2 ∙ sym (append_assoc l.0 p.0 p.1)),
      p.4,
      subst (λ x. EndsAndHas run' needles' x) (sym (utf8-append l.0 p.0)) (step (utf8 l.0) p.0 l.4 p.3),
    )

pub leaves_all : (tokens : List CodeToken) (i : ℕ) (run : List ℕ) (needles chosen : List (List ℕ)) → length tokens ≤ i
    → ((text : List ℕ) → EndsAndHas run needles text → HasOneOf chosen text)
    → Leaves (tokens_view tokens) (tokens_view (drop i tokens)) run needles → (w : List ℕ)
    → glob_matches false (tokens_view tokens) w → HasOneOf chosen (utf8 w)
leaves_all tokens i run needles chosen past choice leaves w m = elim m [
  | inl lone ↦ one_of_nothing chosen (utf8 w) (each [] (subst (λ ts. tokens_match false ts []) (sym lone) ([], [], refl, inl refl, refl)))
  | inr matched ↦ each w matched
]
  where
    each : (w : List ℕ) → tokens_match false (tokens_view tokens) w → HasOneOf chosen (utf8 w)
    each w m =
        let l = leaves w m in
        let none : l.1 ≡ [] = subst (λ ts. tokens_match false (tokens_view ts) l.1) (drop_all i tokens past) l.3 in
        let all : w ≡ l.0 = l.2 ∙ (ap (λ x. l.0 ++ x) none ∙ append-nil l.0) in
        subst (λ x. HasOneOf chosen (utf8 x)) (sym all) (choice (utf8 l.0) l.4)

-- How the tokens of a branch begin.

abbrev pub Begins : Tokens → Tokens → List ℕ → List ℕ → Type 0
Begins all rest run text = (w : List ℕ) → tokens_match false all w
    → (b : List ℕ) × (run ++ utf8 w ≡ text ++ utf8 b) × tokens_match false rest b

-- The whole pattern.

pub of_text : (needles : List (List ℕ)) (ts : Tokens) → ((w : List ℕ) → glob_matches false ts w → HasOneOf needles (utf8 w))
    → (text : List ℕ) → IsUtf8 text → glob_matches false ts (chars text) → HasOneOf needles text
of_text needles ts each text fits m = subst (λ l. HasOneOf needles l) (utf8-chars text fits) (each (chars text) m)

-- Branches and classes.

-- what a branch matches begins, after the run, with a text that is there, or a branch from here on
-- matches it
abbrev pub Spelt : Branches → Branches → List ℕ → List (List ℕ) → Type 0
Spelt all rest run texts = (w : List ℕ) → branch_matches false all w → branch_matches false rest w ⊎ HasOneOf texts (run ++ utf8 w)

pub spelt_more : (all rest : Branches) (ts : Tokens) (run text : List ℕ) (texts : List (List ℕ))
    → ((w : List ℕ) → tokens_match false ts w → BeginsWith text (run ++ utf8 w))
    → Spelt all (branch ts rest) run texts → Spelt all rest run (texts ++ text ∷ [])
spelt_more all rest ts run text texts begins spelt w m = elim (spelt w m) [
  | inl (inl here) ↦ inr (one_last texts text (run ++ utf8 w) (begins w here))
  | inl (inr later) ↦ inl later
  | inr had ↦ inr (one_kept texts text (run ++ utf8 w) had)
]

pub spelt_all : (bs : Branches) (run : List ℕ) (texts : List (List ℕ)) → bs ≢ no_branch → Spelt bs no_branch run texts
    → (front w : List ℕ) → token_matches false (alternates bs) w → HasOneOf texts ((front ++ run) ++ utf8 w)
spelt_all bs run texts some spelt front w (inl none) = absurd (some none.0)
spelt_all bs run texts some spelt front w (inr m) = elim (spelt w m) [
  | inl never ↦ absurd never
  | inr has ↦ after_front texts front run (utf8 w) has
]

-- a character of the class, after the run, begins with a text that is there, or a range from here
-- on has it
abbrev pub Listed : List (ℕ × ℕ) → List (ℕ × ℕ) → List ℕ → List (List ℕ) → Type 0
Listed all rest run texts = (c : ℕ) → IsTrue (in_ranges all c) → IsTrue (in_ranges rest c) ⊎ HasOneOf texts (run ++ utf8 (c ∷ []))

pub listed_all : (ranges : List (ℕ × ℕ)) (run : List ℕ) (texts : List (List ℕ)) → Listed ranges [] run texts
    → (front w : List ℕ) → token_matches false (class false ranges) w → HasOneOf texts ((front ++ run) ++ utf8 w)
listed_all ranges run texts listed front w (c, one, m) = elim (listed c m) [
  | inl never ↦ absurd (none never)
  | inr has ↦ subst (λ x. HasOneOf texts ((front ++ run) ++ utf8 x)) (sym one) (after_front texts front run (utf8 (c ∷ [])) has)
]
  where
    none : IsTrue (in_ranges [] c) → ⊥
    none h = cc

either : (a b : Bool) → IsTrue (a || b) → (a ≡ true) ⊎ IsTrue b
either true b h = inl refl
either false b h = inr h

pub listed_more : (all rest : List (ℕ × ℕ)) (from to : ℕ) (run text : List ℕ) (texts : List (List ℕ)) → from ≡ to
    → text ≡ run ++ encode_utf8 from
    → Listed all ((from, to) ∷ rest) run texts → Listed all rest run (texts ++ text ∷ [])
listed_more all rest from to run text texts single spelt listed c m = elim (listed c m) [
  | inl first ↦ elim (either (nat_le from c && nat_le c to) (in_ranges rest c) first) [
    | inl here ↦ inr (one_last texts text (run ++ utf8 (c ∷ []))
        ([], (ap (λ l. run ++ l) (utf8-one c) ∙ ap (λ x. run ++ encode_utf8 x) (same here)) ∙ (sym spelt ∙ sym (append-nil text))))
    | inr later ↦ inl later
  ]
  | inr had ↦ inr (one_kept texts text (run ++ utf8 (c ∷ [])) had)
]
  where
    same : nat_le from c && nat_le c to ≡ true → c ≡ from
    same h = grind (arith, h, single)

-- Branches and ranges of the program.

pub branch_place : (bs : List (Vec CodeToken Global)) (i : ℕ) (b : Vec CodeToken Global) → i < length bs → b ≡ get_or bs i b
    → branches_view (drop i bs) ≡ branch (tokens_view b.items) (branches_view (drop (i + 1) bs))
branch_place bs i b fits is = rw add-one (ap branches_view (drop-cons bs i b fits ∙ ap (λ x. x ∷ drop (suc i) bs) (sym is)))

pub no_branches : (bs : List (Vec CodeToken Global)) (i : ℕ) → length bs ≤ i → branches_view (drop i bs) ≡ no_branch
no_branches bs i past = ap branches_view (drop_all i bs past)

pub filled : (bs : List (Vec CodeToken Global)) → length bs ≢ 0 → branches_view bs ≢ no_branch
filled [] some e = some refl
filled (b ∷ bs) some e = cc

pub range_place : (rs : List (ℕ × ℕ)) (i : ℕ) → i < length rs → drop i rs ≡ get_or rs i (0, 0) ∷ drop (i + 1) rs
range_place rs i fits = rw add-one (drop-cons rs i (0, 0) fits)

pub pushed_text : (old new : List (String Global)) (text : String Global) → new ≡ old ++ text ∷ []
    → map string_bytes new ≡ map string_bytes old ++ string_bytes text ∷ []
pushed_text old new text e = ap (λ l. map string_bytes l) e ∙ map-append string_bytes old (text ∷ [])
