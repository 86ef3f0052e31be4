-- Patterns of literals by the text of the literals: their form, their positions and their nodes.
use Rattle.std.proofs.Common.{◌≡◌, ◌≢◌, ◌+◌, ◌<◌, ℕ, Bool, false, List, [], ◌∷◌, ◌++◌, length, Some, refl, sym, ap, subst, ◌∙◌, arith}
use Rattle.std.proofs.Common.{encode_utf8, append_assoc, inl, inr}
use Rattle.std.specs.Str.{chars, IsUtf8}
use Rattle.std.specs.Str.Iter.{HasSubslice}
use Rattle.std.proofs.lemmas.List.{append-nil}
use Rattle.std.proofs.lemmas.Str.{chars_from_encodes, encodes-chars}
use Rattle.ignore_glob.specs.Exact.{literals_of, kind_tokens, exact_reading, front_nodes}
use Rattle.ignore_glob.specs.Forms.{Form, whole, name, ending, literals, before, keyed, below_form, tokens_form, form_of}
use Rattle.ignore_glob.specs.Glob.{literal, any, star, start, middle, end, class, alternates, Tokens, done, then}
use Rattle.ignore_glob.specs.NodeLists.{tokens_nodes, glob_nodes}
use Rattle.ignore_glob.specs.Nodes.{Node, literal_at, start_at, star_at, until_slash, entry, width}
use Rattle.ignore_glob.specs.Reading.{Reading, Matches}
use Rattle.ignore_glob.specs.View.{view}
use Rattle.ignore_glob.specs.declared.glob.kind.Kind.{Kind}
use Rattle.ignore_glob.specs.declared.glob.kind.Kind.TheVariants.{Whole, Name, End}
use Rattle.ignore_glob.proofs.FormLemmas.{Says, says_tokens, from_some, matches_whole, matches_name, matches_end}
use lib.Utf8.{encodes}

-- The tokens of a form.

letters : (ts : Tokens) (bytes : List ℕ) → literals ts ≡ Some bytes → (cs : List ℕ) × (ts ≡ literals_of cs) × (encodes cs ≡ bytes)
letters done bytes e = ([], refl, cc)
letters (then (literal c) ts) bytes e =
    let found = from_some c (literals ts) bytes e in
    let more = letters ts found.0 found.1 in
    (c ∷ more.0, ap (λ l. then (literal c) l) more.1, ap (λ l. encode_utf8 c ++ l) more.2 ∙ sym found.2)
letters (then any ts) bytes e = cc
letters (then star ts) bytes e = cc
letters (then start ts) bytes e = cc
letters (then middle ts) bytes e = cc
letters (then end ts) bytes e = cc
letters (then (class negated ranges) ts) bytes e = cc
letters (then (alternates bs) ts) bytes e = cc

-- literals are those of their text
literals_are : (ts : Tokens) (bytes : List ℕ) → literals ts ≡ Some bytes → IsUtf8 bytes → ts ≡ literals_of (chars bytes)
literals_are ts bytes e utf8 =
    let found = letters ts bytes e in
    found.1 ∙ ap literals_of (chars_from_encodes found.0 bytes utf8 found.2)

-- the form of a kind with a text
abbrev pub kind_form : Kind → List ℕ → Form
kind_form Whole text = whole text
kind_form Name text = name text
kind_form End text = ending text

pub kind_reads : (kind : Kind) (ts : Tokens) (bytes : List ℕ) → kind_form kind bytes ≡ tokens_form ts → IsUtf8 bytes
    → kind_tokens kind (chars bytes) ≡ ts
kind_reads Whole ts bytes e utf8 =
    let s = subst (λ f. Says false ts f) (sym e) (says_tokens ts) in
    sym (literals_are ts bytes s.1 utf8)
kind_reads Name ts bytes e utf8 =
    let s = subst (λ f. Says false ts f) (sym e) (says_tokens ts) in
    ap (λ l. then start l) (sym (literals_are s.1 bytes s.3 utf8)) ∙ sym s.2
kind_reads End ts bytes e utf8 =
    let s = subst (λ f. Says false ts f) (sym e) (says_tokens ts) in
    ap (λ l. then start (then star l)) (sym (literals_are s.1 bytes s.3 utf8)) ∙ sym s.2

some_bytes : (bytes : List ℕ) → bytes ≢ [] → 0 < length bytes
some_bytes [] some = absurd (some refl)
some_bytes (b ∷ bs) some = omega arith

pub kind_filled : (kind : Kind) (ts : Tokens) (bytes : List ℕ) → kind_form kind bytes ≡ tokens_form ts → 0 < length bytes
kind_filled Whole ts bytes e = some_bytes bytes (subst (λ f. Says false ts f) (sym e) (says_tokens ts)).2
kind_filled Name ts bytes e = some_bytes bytes (subst (λ f. Says false ts f) (sym e) (says_tokens ts)).4
kind_filled End ts bytes e = some_bytes bytes (subst (λ f. Says false ts f) (sym e) (says_tokens ts)).4

-- The form of the tokens.

literals_spell : (cs : List ℕ) → literals (literals_of cs) ≡ Some (encodes cs)
literals_spell [] = refl
literals_spell (c ∷ cs) = ap (λ o. before (Some c) o) (literals_spell cs)

keyed_filled : (form : List ℕ → Form) (bytes : List ℕ) → 0 < length bytes → keyed form (Some bytes) ≡ form bytes
keyed_filled form [] some = absurd (omega (arith, some))
keyed_filled form (b ∷ bs) some = refl

whole_form : (cs bytes : List ℕ) → encodes cs ≡ bytes → 0 < length bytes → tokens_form (literals_of cs) ≡ whole bytes
whole_form [] bytes e some = absurd (omega (arith, some, ap length e))
whole_form (c ∷ cs) bytes e some = ap (λ o. keyed whole o) (literals_spell (c ∷ cs) ∙ ap Some e) ∙ keyed_filled whole bytes some

name_form : (cs bytes : List ℕ) → encodes cs ≡ bytes → 0 < length bytes → below_form (literals_of cs) ≡ name bytes
name_form [] bytes e some = absurd (omega (arith, some, ap length e))
name_form (c ∷ cs) bytes e some = ap (λ o. keyed name o) (literals_spell (c ∷ cs) ∙ ap Some e) ∙ keyed_filled name bytes some

pub exact_form : (kind : Kind) (bytes : List ℕ) → IsUtf8 bytes → 0 < length bytes → form_of (exact_reading kind bytes) ≡ kind_form kind bytes
exact_form Whole bytes utf8 some = whole_form (chars bytes) bytes (encodes-chars bytes utf8) some
exact_form Name bytes utf8 some = name_form (chars bytes) bytes (encodes-chars bytes utf8) some
exact_form End bytes utf8 some =
    ap (λ o. keyed ending o) (literals_spell (chars bytes) ∙ ap Some (encodes-chars bytes utf8)) ∙ keyed_filled ending bytes some

-- the form of a pattern of a kind, by a copy of its text
pub form_here : (kind k : Kind) (bytes copy : List ℕ) (r : Reading) → copy ≡ bytes → kind ≡ k → exact_reading kind bytes ≡ r → IsUtf8 bytes
    → 0 < length bytes → kind_form k copy ≡ form_of r
form_here kind k bytes copy r same is view utf8 some =
    ap (kind_form k) same ∙ (ap (λ (x : Kind). kind_form x bytes) (sym is) ∙ (sym (exact_form kind bytes utf8 some) ∙ ap form_of view))

-- the pattern of a form is that of its tokens
pub read_exact : (kind : Kind) (ts : Tokens) (bytes : List ℕ) (fold : Bool) → kind_form kind bytes ≡ tokens_form ts → IsUtf8 bytes
    → fold ≡ false → exact_reading kind bytes ≡ record { tokens = ts; case_insensitive = fold }
read_exact kind ts bytes fold e utf8 exact =
    ap (λ (l : Tokens). to_reading l false) (kind_reads kind ts bytes e utf8) ∙ ap (λ (b : Bool). to_reading ts b) (sym exact)
  where
    to_reading : Tokens → Bool → Reading
    to_reading l b = record { tokens = l; case_insensitive = b }

-- the literals are in each text that is matched
pub has_literals : (kind : Kind) (key text : List ℕ) (r : Reading) → kind_form kind key ≡ form_of r → IsUtf8 text → Matches r (chars text)
    → HasSubslice text key
has_literals Whole key text r form utf8 m =
    ([], [], matches_whole r key text (sym form) utf8 m ∙ sym (append-nil key))
has_literals Name key text r form utf8 m = elim (matches_name r key text (sym form) utf8 m) [
  | inl same ↦ ([], [], same ∙ sym (append-nil key))
  | inr cut ↦ (
    cut.0 ++ 47 ∷ [],
    [],
    cut.1 ∙ (sym (append_assoc cut.0 (47 ∷ []) key) ∙ ap (λ l. (cut.0 ++ 47 ∷ []) ++ l) (sym (append-nil key))),
  )
]
has_literals End key text r form utf8 m =
    let cut = matches_end r key text (sym form) utf8 m in
    (cut.0, [], cut.1 ∙ ap (λ l. cut.0 ++ l) (sym (append-nil key)))

-- Positions.

-- how many positions stand before the literals
abbrev pub kind_width : Kind → ℕ
kind_width Whole = 0
kind_width Name = 2
kind_width End = 3

literals_width : (cs : List ℕ) → width (literals_of cs) ≡ length cs
literals_width [] = refl
literals_width (c ∷ cs) = let more = literals_width cs in omega (arith, more)

pub tokens_width : (kind : Kind) (cs : List ℕ) → width (kind_tokens kind cs) ≡ kind_width kind + length cs
tokens_width Whole cs = let w = literals_width cs in omega (arith, w)
tokens_width Name cs = let w = literals_width cs in omega (arith, w)
tokens_width End cs = let w = literals_width cs in omega (arith, w)

-- Nodes.

-- the nodes of literals that stand at b
abbrev pub numbered : ℕ → List ℕ → List Node
numbered b [] = []
numbered b (c ∷ cs) = literal_at c (b + 1) ∷ numbered (b + 1) cs

entry_literals : (cs : List ℕ) (b e : ℕ) → e ≡ b + length cs → entry (literals_of cs) b e ≡ b
entry_literals [] b e h = omega (arith, h)
entry_literals (c ∷ cs) b e h = refl

literals_nodes : (cs : List ℕ) (b e : ℕ) → e ≡ b + length cs → tokens_nodes (literals_of cs) b e ≡ numbered b cs
literals_nodes [] b e h = refl
literals_nodes (c ∷ cs) b e h =
    ap (λ n. literal_at c n ∷ tokens_nodes (literals_of cs) (b + 1) e) (entry_literals cs (b + 1) e (omega (arith, h)))
    ∙ ap (λ l. literal_at c (b + 1) ∷ l) (literals_nodes cs (b + 1) e (omega (arith, h)))

pub exact_nodes : (kind : Kind) (cs : List ℕ) → 0 < length cs
    → glob_nodes (kind_tokens kind cs) ≡ front_nodes kind ++ numbered (kind_width kind) cs
exact_nodes kind [] some = absurd (omega (arith, some))
exact_nodes Whole (c ∷ cs) some =
    let w = literals_width (c ∷ cs) in
    literals_nodes (c ∷ cs) 0 (width (literals_of (c ∷ cs))) (omega (arith, w))
exact_nodes Name (c ∷ cs) some =
    let w = width (kind_tokens Name (c ∷ cs)) in
    ap (λ l. start_at 2 ∷ until_slash 2 ∷ l) (literals_nodes (c ∷ cs) 2 w (tokens_width Name (c ∷ cs)))
exact_nodes End (c ∷ cs) some =
    let w = width (kind_tokens End (c ∷ cs)) in
    ap (λ l. start_at 2 ∷ until_slash 2 ∷ star_at 3 ∷ l) (literals_nodes (c ∷ cs) 3 w (tokens_width End (c ∷ cs)))

-- A text isn't empty where its bytes aren't.
pub some_chars : (bytes : List ℕ) → IsUtf8 bytes → 0 < length bytes → 0 < length (chars bytes)
some_chars bytes utf8 some = by (chars bytes) (encodes-chars bytes utf8)
  where
    by : (cs : List ℕ) → encodes cs ≡ bytes → 0 < length cs
    by [] e = absurd (omega (arith, some, ap length e))
    by (c ∷ cs) e = omega arith

pub front-length : (kind : Kind) → length (front_nodes kind) ≡ kind_width kind
front-length Whole = refl
front-length Name = refl
front-length End = refl
