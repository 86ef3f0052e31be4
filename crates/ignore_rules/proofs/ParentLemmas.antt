-- The parents of a path, one after the other.
use Rattle.std.proofs.Common.{◌≡◌, ◌≢◌, ℕ, zero, suc, ◌+◌, ◌<◌, ◌≤◌, Bool, true, false, not, ◌||◌, eqb, List, [], ◌∷◌, ◌++◌, length, take}
use Rattle.std.proofs.Common.{drop, map, reverse, get_or, refl, sym, ap, ◌∙◌, subst, cond, arith}
use Rattle.std.specs.Prelude.{Result, Ok, Err, IfOk}
use Rattle.std.proofs.lemmas.Bool.{false≢true, false_from_ne_true, eqb-true, eq-eqb}
use Rattle.std.proofs.lemmas.List.{map-append, length-take-le, length-drop, get_or-drop, drop_more, get_or-append-add, length-append}
use Rattle.std.proofs.lemmas.List.{reverse-append}
use Rattle.std.proofs.lemmas.Str.{encodes-chars, chars-nil, chars-append, chars_past_char, IsUtf8-take, IsUtf8-drop}
use Rattle.std.proofs.lemmas.Str.{IsCharBoundary-before_ascii, IsCharBoundary-after_ascii}
use Rattle.std.specs.Str.{IsUtf8, chars}
use lib.Utf8.{encode, encodes}
use Rattle.ignore_base.proofs.ComponentLemmas.{cut_at}
use Rattle.ignore_base.specs.declared.match_result.Match.{Match}
use Rattle.ignore_base.specs.declared.match_result.Match.TheVariants.{None, Ignore, Whitelist}
use Rattle.ignore_base.specs.Match.{is_none, match_or, match_map}
use Rattle.ignore_rules.specs.Rules.{Rule, Ruleset}
use Rattle.ignore_base.specs.Paths.{is_absolute, strip_of}
use Rattle.ignore_rules.specs.Parents.{slash_prefixes, slash_prefixes_from, parents, directories_answer, nearest_answer, is_under_root}

-- without a slash there is no such prefix
slash_prefixes_none : (path : List ℕ) → ((k : ℕ) → k < length path → get_or path k 0 ≡ 47 → ⊥) → slash_prefixes path ≡ []
slash_prefixes_none [] h = refl
slash_prefixes_none (c ∷ path) h =
    let here : eqb c 47 ≡ false = false_from_ne_true _ (λ e. h 0 (omega arith) (eqb-true c 47 e)) in
    let later = slash_prefixes_none path (λ k l. h (suc k) (omega arith)) in
    ap (λ b. cond b ([] ∷ map (λ prefix. c ∷ prefix) (slash_prefixes path)) (map (λ prefix. c ∷ prefix) (slash_prefixes path))) here
    ∙ ap (map (λ prefix. c ∷ prefix)) later

-- the prefix before the last slash is the longest
slash_prefixes_last : (prefix rest : List ℕ) → slash_prefixes rest ≡ []
    → slash_prefixes (prefix ++ 47 ∷ rest) ≡ slash_prefixes prefix ++ prefix ∷ []
slash_prefixes_last [] rest none = ap (λ l. [] ∷ map (λ prefix. 47 ∷ prefix) l) none
slash_prefixes_last (c ∷ prefix) rest none = ap (slash_prefixes_from c) (slash_prefixes_last prefix rest none) ∙ more (eqb c 47)
  where
    more : (b : Bool) → cond b ([] ∷ map (λ prefix. c ∷ prefix) (slash_prefixes prefix ++ prefix ∷ []))
        (map (λ prefix. c ∷ prefix) (slash_prefixes prefix ++ prefix ∷ []))
        ≡ cond b ([] ∷ map (λ prefix. c ∷ prefix) (slash_prefixes prefix)) (map (λ prefix. c ∷ prefix) (slash_prefixes prefix))
        ++ (c ∷ prefix) ∷ []
    more true = ap (λ l. [] ∷ l) (map-append (λ prefix. c ∷ prefix) (slash_prefixes prefix) (prefix ∷ []))
    more false = map-append (λ prefix. c ∷ prefix) (slash_prefixes prefix) (prefix ∷ [])

parents-filled : (path : List ℕ) → 0 < length path → parents path ≡ reverse ([] ∷ slash_prefixes path)
parents-filled [] h = absurd (omega (arith, h))
parents-filled (c ∷ path) h = refl

-- a path is cut before its last slash, or else to the empty path
pub parents-split : (prefix rest : List ℕ) → 0 < length prefix → ((k : ℕ) → k < length rest → get_or rest k 0 ≡ 47 → ⊥)
    → parents (prefix ++ 47 ∷ rest) ≡ prefix ∷ parents prefix
parents-split prefix rest some none =
    parents-filled (prefix ++ 47 ∷ rest) (omega (arith, some, length-append prefix (47 ∷ rest)))
    ∙ (ap (λ l. reverse ([] ∷ l)) (slash_prefixes_last prefix rest (slash_prefixes_none rest none))
    ∙ (reverse-append ([] ∷ slash_prefixes prefix) (prefix ∷ []) ∙ ap (λ l. prefix ∷ l) (sym (parents-filled prefix some))))

pub parents-none : (path : List ℕ) → 0 < length path → ((k : ℕ) → k < length path → get_or path k 0 ≡ 47 → ⊥)
    → parents path ≡ [] ∷ parents []
parents-none path some none = parents-filled path some ∙ ap (λ l. reverse ([] ∷ l)) (slash_prefixes_none path none)

-- a slash among characters is one among their bytes
slash_byte : (cs : List ℕ) (k : ℕ) → k < length cs → get_or cs k 0 ≡ 47
    → (j : ℕ) × (j < length (encodes cs)) × (get_or (encodes cs) j 0 ≡ 47)
unfolding encode
slash_byte [] k l e = absurd (omega (arith, l))
slash_byte (c ∷ cs) zero l e =
    let is : c ≡ 47 = e in
    let P : ℕ → Type 0 = λ d. (j : ℕ) × (j < length (encode d ++ encodes cs)) × (get_or (encode d ++ encodes cs) j 0 ≡ 47) in
    subst P (sym is) (0, omega arith, refl)
slash_byte (c ∷ cs) (suc k) l e =
    let more = slash_byte cs k (omega (arith, l)) e in
    let n = length (encode c) in
    (n + more.0, omega (arith, more.1, length-append (encode c) (encodes cs)), get_or-append-add (encode c) (encodes cs) more.0 0 ∙ more.2)

-- without a slash among its bytes, a text has none among its characters
pub no_slash : (bytes : List ℕ) → IsUtf8 bytes → ((k : ℕ) → k < length bytes → get_or bytes k 0 ≡ 47 → ⊥) → (k : ℕ)
    → k < length (chars bytes) → get_or (chars bytes) k 0 ≡ 47 → ⊥
no_slash bytes utf8 none k l e =
    let found = slash_byte (chars bytes) k l e in
    let same = encodes-chars bytes utf8 in
    none found.0 (omega (arith, found.1, ap length same)) (ap (λ b. get_or b found.0 0) (sym same) ∙ found.2)

-- a text that isn't empty has a character
pub some_char : (bytes : List ℕ) → IsUtf8 bytes → 0 < length bytes → 0 < length (chars bytes)
some_char bytes utf8 some = filled (chars bytes) (encodes-chars bytes utf8)
  where
    filled : (cs : List ℕ) → encodes cs ≡ bytes → 0 < length cs
    filled [] e = absurd (let n = ap length e in omega (arith, n, some))
    filled (c ∷ cs) e = omega arith

-- the parent of a text is what precedes its last slash byte
pub parents-bytes : (path : List ℕ) (s : ℕ) → IsUtf8 path → s < length path → eqb (get_or path s 0) 47 ≡ true
    → ((j : ℕ) → s + 1 ≤ j → j < length path → eqb (get_or path j 0) 47 ≡ true → ⊥) → get_or path 0 0 ≢ 47
    → parents (chars path) ≡ chars (take s path) ∷ parents (chars (take s path))
unfolding encode
parents-bytes path s utf8 l here after first =
    let is : get_or path s 0 ≡ 47 = eqb-true _ 47 here in
    let before = IsCharBoundary-before_ascii path s l (omega (arith, is)) in
    let past = IsCharBoundary-after_ascii path s utf8 l (omega (arith, is)) in
    let prefix = take s path in
    let rest = drop (s + 1) path in
    let utf8_prefix = IsUtf8-take path s utf8 before in
    let utf8_rest = IsUtf8-drop path (s + 1) utf8 past in
    let utf8_slash = subst (λ (xs : List ℕ). IsUtf8 xs) (drop_more path s 0 l ∙ ap (λ x. x ∷ rest) is) (IsUtf8-drop path s utf8 before) in
    let cut : chars path ≡ chars prefix ++ 47 ∷ chars rest =
    ap chars (cut_at path s l here)
    ∙ (chars-append prefix (47 ∷ rest) utf8_prefix
    ∙ ap (λ x. chars prefix ++ x) (chars_past_char (47 ∷ rest) rest 47 utf8_slash refl)) in
    let none : (k : ℕ) → k < length rest → get_or rest k 0 ≡ 47 → ⊥ =
    λ k h e. after (s + 1 + k) (omega arith) (omega (arith, h, length-drop (s + 1) path))
    (eq-eqb _ 47 (sym (get_or-drop (s + 1) path k 0) ∙ e)) in
    let some : 0 < length prefix = some_byte s first l is in
    ap parents cut ∙ parents-split (chars prefix) (chars rest) (some_char prefix utf8_prefix some) (no_slash rest utf8_rest none)
  where
    some_byte : (n : ℕ) → get_or path 0 0 ≢ 47 → n < length path → get_or path n 0 ≡ 47 → 0 < length (take n path)
    some_byte zero first h e = absurd (first e)
    some_byte (suc n) first h e = omega (arith, h, length-take-le (suc n) path (omega (arith, h)))

pub parents-bare : (path : List ℕ) → IsUtf8 path → 0 < length path → ((j : ℕ) → j < length path → eqb (get_or path j 0) 47 ≡ true → ⊥)
    → parents (chars path) ≡ chars [] ∷ parents (chars [])
parents-bare path utf8 some none =
    parents-none (chars path) (some_char path utf8 some) (no_slash path utf8 (λ k h e. none k h (eq-eqb _ 47 e)))
    ∙ sym (ap (λ cs. cs ∷ parents cs) chars-nil)

-- a match decides, and none leaves it to the others
pub decides : {T U : Type 0} (f : T → U) → (m : Match T) (answer others all : Match U) → match_map f m ≡ answer → is_none m ≡ false
    → all ≡ match_or answer others → match_map f m ≡ all
decides f None answer others all e h a = absurd (false≢true (sym h))
decides f (Ignore x) answer others all e h a = sym (a ∙ ap (λ m. match_or m others) (sym e))
decides f (Whitelist x) answer others all e h a = sym (a ∙ ap (λ m. match_or m others) (sym e))

pub passes_on : {T U : Type 0} (f : T → U) → (m : Match T) (answer others all : Match U) → match_map f m ≡ answer → is_none m ≡ true
    → all ≡ match_or answer others → all ≡ others
passes_on f None answer others all e h a = a ∙ ap (λ m. match_or m others) (sym e)
passes_on f (Ignore x) answer others all e h a = absurd (false≢true h)
passes_on f (Whitelist x) answer others all e h a = absurd (false≢true h)

-- the empty path has no parent
pub parents-over : (rules : List Rule) (bytes : List ℕ) → length bytes ≡ 0 → directories_answer rules (parents (chars bytes)) ≡ None
parents-over rules [] e = ap (λ cs. directories_answer rules (parents cs)) chars-nil
parents-over rules (b ∷ bytes) e = absurd (omega (arith, e))

-- what holds of an answer holds where more is known of it
pub on_ok : {T E : Type 0} (P Q : T → Type 0) → (r : Result T E) → ((x : T) → P x → Q x) → IfOk r P → IfOk r Q
on_ok P Q (Ok x) more h = more x h
on_ok P Q (Err e) more h = h

-- no rules have no match
pub nearest-nil : (rules : List Rule) (text : List ℕ) (is_dir : Bool) → length rules ≡ 0 → None ≡ nearest_answer rules text is_dir
nearest-nil (rule ∷ rules) text is_dir h = absurd (omega (arith, h))
nearest-nil [] text is_dir h = sym (none_of (parents text))
  where
    none_of : (texts : List (List ℕ)) → directories_answer [] texts ≡ None
    none_of [] = refl
    none_of (t ∷ ts) = none_of ts

-- a path that can be matched with its parents leaves no text that begins with a slash
pub no_first_slash : (g : Ruleset) (path bytes : List ℕ) → bytes ≡ strip_of g.root path → is_under_root g path ≡ true
    → eqb (length g.rules) 0 ≡ false → get_or bytes 0 0 ≡ 47 → ⊥
no_first_slash g path bytes same under filled e =
    let absolute = eq-eqb _ 47 (ap (λ b. get_or b 0 0) (sym same) ∙ e) in
    let refused : is_under_root g path ≡ false = ap (λ b. b || not (is_absolute (strip_of g.root path))) filled ∙ ap not absolute in
    false≢true (sym refused ∙ under)
