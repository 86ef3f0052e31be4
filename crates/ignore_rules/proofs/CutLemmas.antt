-- Bytes cut into lines, a line at a time.
use Rattle.std.proofs.Common.{◌≡◌, ℕ, zero, suc, ◌+◌, ◌<◌, Bool, true, false, eqb, List, [], ◌∷◌, ◌++◌, length, take, drop, map, get_or}
use Rattle.std.proofs.Common.{Option, Some, None, Result, Ok, Err, refl, sym, ap, subst, ◌∙◌, cond, arith, add-one}
use Rattle.std.specs.List.{slice_split, onto_first}
use Rattle.std.specs.Str.{IsUtf8}
use Rattle.std.proofs.lemmas.Str.{IsUtf8-from_is_utf8, is_utf8-from_IsUtf8}
use Rattle.std.specs.Str.Lines.{lines_of_parts, strip_carriage_return}
use Rattle.std.proofs.lemmas.Bool.{false_from_ne_true}
use Rattle.std.proofs.lemmas.List.{drop-drop, drop_all, length-drop}
use Rattle.std.proofs.lemmas.List.Elements.{All-from_get_or}
use Rattle.std.proofs.lemmas.List.Splits.{slice_split-cons_yes, slice_split-cons_no, slice_split_none}
use Rattle.memchr.specs.Find.{Nowhere, Passes, is_byte, IsFirstByte}
use Rattle.ignore_base.specs.declared.fault.Fault.{Fault}
use Rattle.ignore_base.specs.declared.fault.Fault.TheVariants.{InvalidData}
use Rattle.ignore_rules.specs.RuleFile.{decoded, ended_of_segments, lines_read}
use Rattle.ignore_rules.specs.declared.gitignore.file.Line.{Line}
use Rattle.ignore_rules.specs.declared.gitignore.file.Line.TheVariants.{Text, End}
use Rattle.ignore_rules.specs.declared.gitignore.file.Line.TheVariants.{Fault as Stop}
use Rattle.ignore_rules.specs.RuleSteps.{IsOneSegment, IsLineRead, IsLastLineRead, IsLineAt}

-- there is a first segment
first_segment : (bytes : List ℕ) → (segment : List ℕ) × (segments : List (List ℕ))
    × (slice_split (λ b. eqb b 10) bytes ≡ segment ∷ segments)
first_segment [] = ([], [], refl)
first_segment (x ∷ xs) = cases (eqb x 10) (slice_split (λ b. eqb b 10) xs)
  where
    cases : (b : Bool) (segments : List (List ℕ)) → (segment : List ℕ) × (more : List (List ℕ))
        × (cond b ([] ∷ segments) (onto_first x segments) ≡ segment ∷ more)
    cases true segments = ([], segments, refl)
    cases false [] = (x ∷ [], [], refl)
    cases false (segment ∷ segments) = (x ∷ segment, segments, refl)

-- the first segment ends before the first newline
pub cut_at : (bytes : List ℕ) (k : ℕ) → k < length bytes → eqb (get_or bytes k 0) 10 ≡ true
    → ((i : ℕ) → i < k → eqb (get_or bytes i 0) 10 ≡ false)
    → slice_split (λ b. eqb b 10) bytes ≡ take k bytes ∷ slice_split (λ b. eqb b 10) (drop (suc k) bytes)
cut_at [] k l here before = absurd (omega (arith, l))
cut_at (x ∷ xs) zero l here before = slice_split-cons_yes (λ b. eqb b 10) x xs here
cut_at (x ∷ xs) (suc k) l here before =
    slice_split-cons_no (λ b. eqb b 10) x xs (before 0 (omega arith))
    ∙ ap (onto_first x) (cut_at xs k (omega (arith, l)) here (λ i h. before (suc i) (omega (arith, h))))

-- the lines of segments, as they are read
abbrev lines_read_of : Option Fault → List (List ℕ) → List (Result (List ℕ) Fault)
lines_read_of None segments = map decoded (lines_of_parts segments)
lines_read_of (Some fault) segments = map decoded (ended_of_segments segments) ++ Err fault ∷ []

lines_read-segments : (bytes : List ℕ) (fault : Option Fault)
    → lines_read bytes fault ≡ lines_read_of fault (slice_split (λ b. eqb b 10) bytes)
lines_read-segments bytes None = refl
lines_read-segments bytes (Some fault) = refl

line_before : (line segment : List ℕ) (more : List (List ℕ)) (fault : Option Fault)
    → lines_read_of fault (line ∷ (segment ∷ more)) ≡ decoded (strip_carriage_return line) ∷ lines_read_of fault (segment ∷ more)
line_before line segment more None = refl
line_before line segment more (Some fault) = refl

-- a line that ends with a newline is read before those after it
pub ended_line : (bytes line rest : List ℕ) (fault : Option Fault)
    → slice_split (λ b. eqb b 10) bytes ≡ line ∷ slice_split (λ b. eqb b 10) rest
    → lines_read bytes fault ≡ decoded (strip_carriage_return line) ∷ lines_read rest fault
ended_line bytes line rest fault e =
    let first = first_segment rest in
    let further : lines_read_of fault (first.0 ∷ first.1)
    ≡ lines_read rest fault = sym (lines_read-segments rest fault ∙ ap (lines_read_of fault) first.2) in
    lines_read-segments bytes fault
    ∙ (ap (lines_read_of fault) (e ∙ ap (λ segments. line ∷ segments) first.2)
    ∙ (line_before line first.0 first.1 fault ∙ ap (λ l. decoded (strip_carriage_return line) ∷ l) further))

-- a byte that is the first of its kind is the end of the first line
pub line_before_newline : (bytes : List ℕ) (k : ℕ) (fault : Option Fault) → k < length bytes → Passes (is_byte 10) bytes k
    → Nowhere (Passes (is_byte 10) bytes) 0 k → lines_read bytes fault
    ≡ decoded (strip_carriage_return (take k bytes)) ∷ lines_read (drop (k + 1) bytes) fault
line_before_newline bytes k fault l here before =
    let cut = cut_at bytes k l here (λ i h. false_from_ne_true _ (before i (omega arith) h)) in
    ended_line bytes (take k bytes) (drop (k + 1) bytes) fault
    (cut ∙ ap (λ n. take k bytes ∷ slice_split (λ b. eqb b 10) (drop n bytes)) (sym (add-one k)))

-- bytes without a newline are one segment
pub one_segment : (bytes : List ℕ) → Nowhere (Passes (is_byte 10) bytes) 0 (length bytes) → IsOneSegment bytes
one_segment bytes none =
    slice_split_none (λ b. eqb b 10) bytes (All-from_get_or (λ b. eqb b 10 ≡ false) bytes 0
    (λ i l. false_from_ne_true _ (none i (omega arith) l)))

-- a line that is UTF-8 is read as its text, any other as a fault
pub read_text : (line text : List ℕ) → text ≡ line → IsUtf8 line → decoded line ≡ Ok text
read_text line text same utf8 = ap (λ b. cond b (Ok line) (Err InvalidData)) (is_utf8-from_IsUtf8 line utf8) ∙ ap Ok (sym same)

pub read_other : (line : List ℕ) → ¬ (IsUtf8 line) → decoded line ≡ Err InvalidData
read_other line other = ap (λ b. cond b (Ok line) (Err InvalidData)) (false_from_ne_true _ (λ e. other (IsUtf8-from_is_utf8 line e)))

-- A line at a place in the bytes.

here_then : (bytes : List ℕ) (fault : Option Fault) (at end : ℕ) (rest line : List ℕ) → rest ≡ drop at bytes
    → IsFirstByte (is_byte 10) rest (Some end) → line ≡ strip_carriage_return (take end rest)
    → lines_read (drop at bytes) fault ≡ decoded line ∷ lines_read (drop (at + (end + 1)) bytes) fault
here_then bytes fault at end rest line same found is =
    ap (λ l. lines_read l fault) (sym same)
    ∙ (line_before_newline rest end fault found.0.high found.1 found.0.before
    ∙ (ap (λ l. decoded l ∷ lines_read (drop (end + 1) rest) fault) (sym is)
    ∙ (ap (λ l. decoded line ∷ lines_read (drop (end + 1) l) fault) same
    ∙ ap (λ l. decoded line ∷ lines_read l fault) (drop-drop (end + 1) at bytes))))

-- a line that has an end
pub read_before_end : (bytes : List ℕ) (fault : Option Fault) (at end : ℕ) (rest line : List ℕ) → rest ≡ drop at bytes
    → IsFirstByte (is_byte 10) rest (Some end) → line ≡ strip_carriage_return (take end rest) → (r : Line)
    → IsLineRead line (at + end + 1) r → IsLineAt bytes fault at r
read_before_end bytes fault at end rest line same found is (Text text place) (m, e) =
    let next : at + (end + 1) ≡ place = omega arith in
    let within : end < length (drop at bytes) = subst (λ l. end < length l) same found.0.high in (
      here_then bytes fault at end rest line same found is
          ∙ (ap (λ l. l ∷ lines_read (drop (at + (end + 1)) bytes) fault) m ∙ ap (λ n. Ok text.now ∷ lines_read (drop n bytes) fault) next),
      omega arith,
      omega (arith, length-drop at bytes),
    )
read_before_end bytes fault at end rest line same found is (Stop reported) m = (
  lines_read (drop (at + (end + 1)) bytes) fault,
  here_then bytes fault at end rest line same found is
      ∙ ap (λ l. l ∷ lines_read (drop (at + (end + 1)) bytes) fault) m,
)
read_before_end bytes fault at end rest line same found is End m = absurd m

-- a line that has none
pub read_at_last : (bytes : List ℕ) (fault : Option Fault) (at : ℕ) (rest : List ℕ) → rest ≡ drop at bytes → (r : Line)
    → IsLastLineRead rest fault (length bytes) r → IsLineAt bytes fault at r
read_at_last bytes fault at rest same (Text text place) (m, e, some) =
    let within : 0 < length (drop at bytes) = subst (λ l. 0 < length l) same some in (
      ap (λ l. lines_read l fault) (sym same) ∙ (m ∙ ap (λ l. Ok text.now ∷ lines_read l fault) (sym (drop_all place bytes (omega arith)))),
      omega (arith, length-drop at bytes),
      omega arith,
    )
read_at_last bytes fault at rest same (Stop reported) (more, m) = (more, ap (λ l. lines_read l fault) (sym same) ∙ m)
read_at_last bytes fault at rest same End m = ap (λ l. lines_read l fault) (sym same) ∙ m
