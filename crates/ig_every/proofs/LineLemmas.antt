-- What is wrong with lines, a line at a time.
use Rattle.std.proofs.Common.{◌≡◌, ℕ, ◌+◌, ◌<◌, ◌↔◌, ◌≤◌, Bool, Bor, true, false, ◌||◌, List, [], ◌∷◌, ◌++◌, length, take, drop, map, get_or, nat_eq}
use Rattle.std.proofs.Common.{◌⊎◌, inl, inr, Option, Some, None, Result, option_map, slice_get, unwrap_or, refl, sym, ap, subst, ◌∙◌, append_assoc, arith}
use Rattle.std.specs.Cmp.Lexicographic.{told_text}
use Rattle.std.specs.List.{starts_with}
use Rattle.std.specs.Str.Iter.{HasSubslice}
use Rattle.std.specs.Str.Lines.{strip_carriage_return}
use Rattle.std.proofs.lemmas.Bool.{false≢true, false_from_ne_true}
use Rattle.std.proofs.lemmas.List.{append-nil, drop_all, drop_more, get_or-map, length-map, take-append-drop}
use Rattle.ignore_base.specs.Text.{Bytes}
use Rattle.ignore_base.specs.declared.fault.Fault.{Fault}
use Rattle.ignore_base.specs.Problem.{Problem, glob, memory}
use Rattle.ignore_rules.specs.RuleFile.{decoded, is_memory, line_content, mark}
use Rattle.ignore_rules.specs.Rules.{AddsLine, Building, GivesProblem, GivesRule, Refuses, Rule, built, unnumbered, with_rule}
use Rattle.ignore_rules.specs.Line.{ParsedLine, parsed_line}
use Rattle.ig_every.specs.Lines.{AddsWrong, AreWrongFrom, IsInvalid, has_mark, is_text, mark_wrong, no_more, not_text, original_in, original_of, return_wrong, rule_text, space_wrong, texts_in, told, wrong_of, wrong_with}
use Rattle.ig_every.specs.Reading.{begun_by}
use Rattle.ig_every.specs.declared.diagnostic.Diagnostic.{Diagnostic}
use Rattle.ig_every.specs.declared.diagnostic.Wrong.{Wrong}
use Rattle.ig_every.specs.declared.diagnostic.Wrong.TheVariants.{Invalid, NotUtf8}
use Rattle.ig_every.specs.declared.reading.HowRead.{HowRead}

-- A byte order mark in a text.

either : (a b : Bool) → b ≡ true → a || b ≡ true
either true b e = refl
either false b e = e

mark_first : (c : ℕ) (t : Bytes) → starts_with nat_eq (c ∷ t) mark ≡ true → HasSubslice (c ∷ t) mark
mark_first c t e =
    let same : mark ≡ take 3 (c ∷ t) = told_text mark (take 3 (c ∷ t)) true (sym e) in (
      [],
      drop 3 (c ∷ t),
      sym (take-append-drop 3 (c ∷ t)) ∙ ap (λ l. l ++ drop 3 (c ∷ t)) (sym same),
    )

mark_by : (c : ℕ) (t : Bytes) (b : Bool) → starts_with nat_eq (c ∷ t) mark ≡ b → (has_mark t ≡ true → HasSubslice t mark) → b || has_mark t ≡ true
    → HasSubslice (c ∷ t) mark
mark_by c t true is rest e = mark_first c t is
mark_by c t false is rest e = let h = rest e in (c ∷ h.0, h.1, ap (λ l. c ∷ l) h.2)

has_from : (t : Bytes) → has_mark t ≡ true → HasSubslice t mark
has_from [] e = absurd (false≢true e)
has_from (c ∷ t) e = mark_by c t (starts_with nat_eq (c ∷ t) mark) refl (λ h. has_from t h) e

has_to : (before t after : Bytes) → t ≡ before ++ (mark ++ after) → has_mark t ≡ true
has_to [] t after e = ap has_mark e
has_to (c ∷ before) t after e =
    ap has_mark e ∙ either (starts_with nat_eq (c ∷ (before ++ (mark ++ after))) mark) _ (has_to before _ after refl)

pub has_mark_is : (r : Bool) (t : Bytes) → (r ≡ true) ↔ HasSubslice t mark → r ≡ has_mark t
has_mark_is true t h = let s = h.0 refl in sym (has_to s.0 t s.1 s.2)
has_mark_is false t h = sym (false_from_ne_true (has_mark t) (λ e. false≢true (h.1 (has_from t e))))

-- What is wrong with a line, added in four parts.

pub four_parts : (old one two three new a b c d : List Diagnostic) → one ≡ old ++ a → two ≡ one ++ b → three ≡ two ++ c → new ≡ three ++ d
    → new ≡ old ++ (a ++ (b ++ (c ++ d)))
four_parts old one two three new a b c d e f g h =
    h ∙ ap (λ l. l ++ d) (g ∙ ap (λ l. l ++ c) (f ∙ ap (λ l. l ++ b) e))
    ∙ (append_assoc ((old ++ a) ++ b) c d ∙ (append_assoc (old ++ a) b (c ++ d) ∙ append_assoc old a (b ++ (c ++ d))))

-- the parts, by what is known of each
pub line_told : (how : HowRead) (number : ℕ) (line content rule : Bytes) (why : Option Bytes) (m r s i : Option Wrong) (old a b c new : List Diagnostic)
    → content ≡ line_content number line → rule ≡ rule_text how.git_trailing_spaces content → IsInvalid how content why
    → m ≡ mark_wrong number line → r ≡ return_wrong line → s ≡ space_wrong content rule → i ≡ option_map Invalid why
    → a ≡ old ++ told number rule m → b ≡ a ++ told number rule r → c ≡ b ++ told number rule s → new ≡ c ++ told number rule i
    → (w : Option Bytes) × IsInvalid how (line_content number line) w × (new ≡ old ++ wrong_with how number line w)
line_told how number line content rule why m r s i old a b c new is named invalid em er es ei ha hb hc hd =
    let parts = λ (x : Option Wrong) (y : Option Wrong) (z : Option Wrong) (u : Option Wrong). told number rule x ++ (told number rule y ++ (told number rule z ++ told number rule u)) in
    let by_parts : parts m r s i ≡ wrong_of number line content rule why =
    ap (λ x. parts x r s i) em ∙ (ap (λ x. parts (mark_wrong number line) x s i) er ∙ (ap (λ x. parts (mark_wrong number line) (return_wrong line) x i) es
    ∙ ap (λ x. parts (mark_wrong number line) (return_wrong line) (space_wrong content rule) x) ei)) in
    let by_rule : wrong_of number line content rule why ≡ wrong_of number line content (rule_text how.git_trailing_spaces content) why =
    ap (λ t. wrong_of number line content t why) named in
    let by_content : wrong_of number line content (rule_text how.git_trailing_spaces content) why ≡ wrong_with how number line why =
    ap (λ t. wrong_of number line t (rule_text how.git_trailing_spaces t) why) is in (
      why,
      subst (λ t. IsInvalid how t why) is invalid,
      four_parts old a b c new _ _ _ _ ha hb hc hd ∙ ap (λ l. old ++ l) (by_parts ∙ (by_rule ∙ by_content)),
    )

-- Lines, one after the other.

-- what is wrong with the lines from a number on, after what was found so far, is what is wrong with all
abbrev pub LeadsTo : HowRead → List (Result Bytes Fault) → ℕ → List (Result Bytes Fault) → List Diagnostic → Type 0
LeadsTo how whole number rest found =
    (after : List Diagnostic) → AreWrongFrom how number rest after → AreWrongFrom how 1 whole (found ++ after)

-- the next of some lines
next_line : (parts : List Bytes) (line : Bytes) (n : ℕ) → n < length parts → line ≡ get_or parts n line
    → texts_in (drop n parts)
    ≡ decoded (strip_carriage_return line) ∷ texts_in (drop (n + 1) parts)
next_line parts line n within is =
    ap texts_in (drop_more parts n line within ∙ ap (λ l. l ∷ drop (n + 1) parts) (sym is))

-- one more that is text
pub text_more : (how : HowRead) (whole : List (Result Bytes Fault)) (parts : List Bytes) (line : Bytes) (n : ℕ) (old new : List Diagnostic)
    → n < length parts → line ≡ get_or parts n line → AddsWrong how (n + 1) (strip_carriage_return line) true old new
    → LeadsTo how whole (n + 1) (texts_in (drop n parts)) old
    → LeadsTo how whole (n + 1 + 1) (texts_in (drop (n + 1) parts)) new
text_more how whole parts line n old new within is (content, decodes, (why, invalid, grown)) leads after more =
    let rest = texts_in (drop (n + 1) parts) in
    let here = next_line parts line n within is ∙ ap (λ r. r ∷ rest) decodes in
    subst (AreWrongFrom how 1 whole) (sym (append_assoc old _ after) ∙ ap (λ l. l ++ after) (sym grown))
    (leads _ (subst (λ ls. AreWrongFrom how (n + 1) ls (wrong_with how (n + 1) content why ++ after)) (sym here)
    (is_text (n + 1) content rest why after invalid more)))

-- one that isn't text
pub no_text_more : (how : HowRead) (whole : List (Result Bytes Fault)) (parts : List Bytes) (line : Bytes) (n : ℕ) (old new : List Diagnostic)
    → n < length parts → line ≡ get_or parts n line → AddsWrong how (n + 1) (strip_carriage_return line) false old new
    → LeadsTo how whole (n + 1) (texts_in (drop n parts)) old
    → AreWrongFrom how 1 whole new
no_text_more how whole parts line n old new within is (fault, undecoded, grown) leads =
    let rest = texts_in (drop (n + 1) parts) in
    let here = next_line parts line n within is ∙ ap (λ r. r ∷ rest) undecoded in
    subst (AreWrongFrom how 1 whole) (sym grown)
    (leads _ (subst (λ ls. AreWrongFrom how (n + 1) ls (told (n + 1) [] (Some NotUtf8))) (sym here) (not_text (n + 1) fault rest)))

-- no more
pub all_lines : (how : HowRead) (whole : List (Result Bytes Fault)) (parts : List Bytes) (n : ℕ) (found : List Diagnostic) → length parts ≤ n
    → LeadsTo how whole (n + 1) (texts_in (drop n parts)) found → AreWrongFrom how 1 whole found
all_lines how whole parts n found all leads =
    let here = ap texts_in (drop_all n parts all) in
    subst (AreWrongFrom how 1 whole) (append-nil found)
    (leads [] (subst (λ ls. AreWrongFrom how (n + 1) ls []) (sym here) (no_more (n + 1))))

-- The rule of a line.

-- the first of the rules of a line is its rule
pub first_is : (how : HowRead) (content : Bytes) (new : Building) → AddsLine (begun_by how) None content new
    → original_in (slice_get (built new).rules 0) ≡ rule_text how.git_trailing_spaces content
first_is how content new (given, gives, is) =
    ap (λ (b : Building). original_in (slice_get (built b).rules 0)) is ∙ by (parsed_line how.git_trailing_spaces content) given gives
  where
    by : (parsed : Option ParsedLine) (given : Option Rule) → GivesRule (begun_by how).options (unnumbered None) parsed given
        → original_in (slice_get (built (with_rule (begun_by how) given)).rules 0) ≡ original_of parsed
    by None given none = ap (λ g. original_in (slice_get (built (with_rule (begun_by how) g)).rules 0)) none
    by (Some w) given (tokens, reads, some) = ap (λ g. original_in (slice_get (built (with_rule (begun_by how) g)).rules 0)) some

-- the name of an invalid glob, and nothing of another problem
abbrev glob_name : Problem → Option Bytes
glob_name (glob name why) = name
glob_name _ = None

-- a line is refused with the problem of an invalid glob: the glob's text is the rule
pub refused_is : (how : HowRead) (content : Bytes) (problem : Problem) (rule why : Bytes) (told : Option Bytes)
    → problem ≡ glob (Some rule) why → told ≡ Some why
    → (problem ≡ memory) ⊎ Refuses (begun_by how).options content problem
    → (rule ≡ rule_text how.git_trailing_spaces content) × IsInvalid how content told
refused_is how content problem rule why told is same (inl out) = absurd (false≢true (ap is_memory (sym is ∙ out)))
refused_is how content problem rule why told is same (inr refuses) =
    let named : rule ≡ rule_text how.git_trailing_spaces content = by (parsed_line how.git_trailing_spaces content) refuses in (
      named,
      subst (IsInvalid how content) (sym same)
          (subst (Refuses (begun_by how).options content) (is ∙ ap (λ (t : Bytes). glob (Some t) why) named) refuses),
    )
  where
    by : (parsed : Option ParsedLine) → GivesProblem (begun_by how).options parsed problem → rule ≡ original_of parsed
    by None h = absurd h
    by (Some w) (f, faulty, gives) = ap (λ (p : Problem). unwrap_or (glob_name p) []) (sym is ∙ gives)

-- The same of lines that are lent.

abbrev now_of : Bor Bytes → Bytes
now_of line = line.now

line_at : (lines : List (Bor Bytes)) (n : ℕ) (d : Bor Bytes) → n < length lines
    → (get_or lines n d).now ≡ get_or (map now_of lines) n (get_or lines n d).now
line_at lines n d h = sym (get_or-map now_of lines n d (get_or lines n d).now h)

within : (lines : List (Bor Bytes)) (n : ℕ) → n < length lines → n < length (map now_of lines)
within lines n h = omega (arith, h, length-map lines now_of)

pub text_more_at : (how : HowRead) (lines : List (Bor Bytes)) (d : Bor Bytes) (n : ℕ) (old new : List Diagnostic) → n < length lines
    → AddsWrong how (n + 1) (strip_carriage_return (get_or lines n d).now) true old new
    → LeadsTo how (texts_in (map (λ l. l.now) lines)) (n + 1) (texts_in (drop n (map (λ l. l.now) lines))) old
    → LeadsTo how (texts_in (map (λ l. l.now) lines)) (n + 1 + 1) (texts_in (drop (n + 1) (map (λ l. l.now) lines))) new
text_more_at how lines d n old new h adds leads =
    text_more how (texts_in (map now_of lines)) (map now_of lines) (get_or lines n d).now n old new (within lines n h) (line_at lines n d h) adds leads

pub no_text_more_at : (how : HowRead) (lines : List (Bor Bytes)) (d : Bor Bytes) (n : ℕ) (old new : List Diagnostic) → n < length lines
    → AddsWrong how (n + 1) (strip_carriage_return (get_or lines n d).now) false old new
    → LeadsTo how (texts_in (map (λ l. l.now) lines)) (n + 1) (texts_in (drop n (map (λ l. l.now) lines))) old
    → AreWrongFrom how 1 (texts_in (map (λ l. l.now) lines)) new
no_text_more_at how lines d n old new h adds leads =
    no_text_more how (texts_in (map now_of lines)) (map now_of lines) (get_or lines n d).now n old new (within lines n h) (line_at lines n d h) adds leads

pub all_lines_at : (how : HowRead) (lines : List (Bor Bytes)) (n : ℕ) (found : List Diagnostic) → length lines ≤ n
    → LeadsTo how (texts_in (map (λ l. l.now) lines)) (n + 1) (texts_in (drop n (map (λ l. l.now) lines))) found
    → AreWrongFrom how 1 (texts_in (map (λ l. l.now) lines)) found
all_lines_at how lines n found h leads =
    all_lines how (texts_in (map now_of lines)) (map now_of lines) n found (omega (arith, h, length-map lines now_of)) leads
