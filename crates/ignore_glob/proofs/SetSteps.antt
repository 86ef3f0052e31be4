-- Sets of positions after a text: they depend on that text alone, and on a character by what the
-- nodes test it for.
use Rattle.std.proofs.Common.{◌≡◌, ◌+◌, ◌<◌, ◌≤◌, ◌↔◌, ℕ, zero, suc, Bool, List, [], ◌∷◌, ◌++◌, length, arith, slice_get, Some, refl, sym}
use Rattle.std.proofs.Common.{subst, ◌∙◌, true, false, ◌&&◌, ◌||◌, cond, IsTrue, Result, Ok, Err, IfOk}
use Rattle.std.specs.Char.{is_ascii_lowercase, to_ascii_uppercase, to_ascii_lowercase}
use Rattle.std.proofs.lemmas.Str.Ascii.{lowercase_is, uppercase_is}
use Rattle.std.specs.Prelude.{nat_lt, nat_le}
use Rattle.std.proofs.lemmas.Bool.Decides.{nat_tests}
use Rattle.ignore_glob.specs.Matches.{in_ranges, is_listed, other_case}
use Rattle.std.proofs.lemmas.List.{length_push}
use Rattle.ignore_base.specs.Text.{Chars}
use Rattle.ignore_glob.specs.Nodes.{Node, class_at, StepsBy, Reached, SteppedTo, Marked}
use Rattle.ignore_glob.specs.Flags.{IsFlagged}
use Rattle.ignore_glob.specs.PositionSets.{AreLastMarks, StepAlike, AllStepAlike, are_even, IsSetAfter}
use Rattle.ignore_glob.specs.Glob.{Tokens}
use Rattle.ignore_glob.specs.NodeLists.{glob_nodes}
use Rattle.ignore_glob.specs.Reading.{Reading, Matches}
use Rattle.ignore_glob.proofs.Closing.{Reached-mono}
use Rattle.ignore_glob.proofs.MatchingMarks.{matching_mark}
use Rattle.ignore_glob.proofs.NodeListLemmas.{glob_nodes-are}
use Rattle.ignore_glob.proofs.MarkSteps.{marked_past}

-- what stands at a place of a text doesn't depend on what follows the text
get_front : (text more : List ℕ) (o : ℕ) → o < length text → slice_get (text ++ more) o ≡ slice_get text o
get_front [] more o h = absurd (omega arith)
get_front (c ∷ cs) more zero h = refl
get_front (c ∷ cs) more (suc o) h = get_front cs more o (omega arith)

pub get_last : (text : List ℕ) (c : ℕ) → slice_get (text ++ c ∷ []) (length text) ≡ Some c
get_last [] c = refl
get_last (d ∷ ds) c = get_last ds c

module _ (fold : Bool) (nodes : List Node) where
  -- marks at an offset depend on what stands before it alone
  pub marked_front : (text more : Chars) (o : ℕ) → o ≤ length text → (q : ℕ) → Marked fold nodes (text ++ more) o q ↔ Marked fold nodes text o q
  marked_front text more zero h q = ((λ m. m), (λ m. m))
  marked_front text more (suc o) h q =
      let at : slice_get (text ++ more) o ≡ slice_get text o = get_front text more o (omega arith) in
      let S : ℕ → Type 0 = λ k. (c : ℕ) × (slice_get (text ++ more) o ≡ Some c) × SteppedTo fold nodes (Marked fold nodes (text ++ more) o) c k in
      let T : ℕ → Type 0 = λ k. (c : ℕ) × (slice_get text o ≡ Some c) × SteppedTo fold nodes (Marked fold nodes text o) c k in
      let to : (k : ℕ) → S k → T k = λ k s. (s.0, sym at ∙ s.1, (s.2.0, s.2.1, (marked_front text more o (omega arith) s.2.0).0 s.2.2, s.2.3, s.2.4)) in
      let back : (k : ℕ) → T k → S k = λ k s. (s.0, at ∙ s.1, (s.2.0, s.2.1, (marked_front text more o (omega arith) s.2.0).1 s.2.2, s.2.3, s.2.4)) in
      (Reached-mono nodes S T to q, Reached-mono nodes T S back q)

  -- the set after one more character
  pub stepped_marks : (text : Chars) (c : ℕ) (flags next : List Bool) → AreLastMarks fold nodes text flags
      → length next ≡ length nodes + 1 → ((q : ℕ) → IsFlagged next q ↔ Reached nodes (SteppedTo fold nodes (IsFlagged flags) c) q)
      → AreLastMarks fold nodes (text ++ c ∷ []) next
  stepped_marks text c flags next now len past =
      let longer : Chars = text ++ c ∷ [] in
      let same : suc (length text) ≡ length longer = omega (arith, length_push text c) in
      let front : (q : ℕ) → IsFlagged flags q ↔ Marked fold nodes longer (length text) q = λ q. (
        λ f. (marked_front text (c ∷ []) (length text) (omega arith) q).1 ((now.flagged q).0 f),
        λ m. (now.flagged q).1 ((marked_front text (c ∷ []) (length text) (omega arith) q).0 m),
      ) in
      let then = marked_past fold nodes longer (IsFlagged flags) (IsFlagged next) (length text) c front (get_last text c) past in
      let P : ℕ → Type 0 = λ o. (q : ℕ) → IsFlagged next q ↔ Marked fold nodes longer o q in
      record { len = len; flagged = subst P same then }

  -- characters that each node steps by alike lead to the same marks
  alike_to : (text : Chars) (c d : ℕ) → AllStepAlike fold nodes c d → (q : ℕ)
      → Marked fold nodes (text ++ c ∷ []) (suc (length text)) q → Marked fold nodes (text ++ d ∷ []) (suc (length text)) q
  alike_to text c d alike q m =
      let i = length text in
      let S : ℕ → Type 0 = λ k. (e : ℕ) × (slice_get (text ++ c ∷ []) i ≡ Some e) × SteppedTo fold nodes (Marked fold nodes (text ++ c ∷ []) i) e k in
      let T : ℕ → Type 0 = λ k. (e : ℕ) × (slice_get (text ++ d ∷ []) i ≡ Some e) × SteppedTo fold nodes (Marked fold nodes (text ++ d ∷ []) i) e k in
      let to : (k : ℕ) → S k → T k = λ k s.
      (let same : s.0 ≡ c = (let last = get_last text c in cc (s.1)) in
      let P : ℕ → Type 0 = λ e. StepsBy fold s.2.1 e s.2.0 k in
      let marked = (marked_front text (d ∷ []) i (omega arith) s.2.0).1 ((marked_front text (c ∷ []) i (omega arith) s.2.0).0 s.2.2) in
      (d, get_last text d, (s.2.0, s.2.1, marked, s.2.3, (alike s.2.0 s.2.1 s.2.3 s.2.0 k).0 (subst P same s.2.4)))) in
      Reached-mono nodes S T to q m

  pub alike_marks : (c d : ℕ) → AllStepAlike fold nodes c d → (text : Chars) (flags : List Bool)
      → AreLastMarks fold nodes (text ++ c ∷ []) flags ↔ AreLastMarks fold nodes (text ++ d ∷ []) flags
  alike_marks c d alike text flags =
      let back : AllStepAlike fold nodes d c = λ p node at a q. ((alike p node at a q).1, (alike p node at a q).0) in
      let there : (q : ℕ) → Marked fold nodes (text ++ c ∷ []) (suc (length text)) q ↔ Marked fold nodes (text ++ d ∷ []) (suc (length text)) q =
      λ q. (alike_to text c d alike q, alike_to text d c back q) in
      let one : suc (length text) ≡ length (text ++ c ∷ []) = omega (arith, length_push text c) in
      let two : suc (length text) ≡ length (text ++ d ∷ []) = omega (arith, length_push text d) in
      let P : ℕ → ℕ → Type 0 = λ m n. (q : ℕ) → Marked fold nodes (text ++ c ∷ []) m q ↔ Marked fold nodes (text ++ d ∷ []) n q in
      let same : (q : ℕ) → Marked fold nodes (text ++ c ∷ []) (length (text ++ c ∷ [])) q ↔ Marked fold nodes (text ++ d ∷ []) (length (text ++ d ∷ [])) q =
      subst (λ m. P m (length (text ++ d ∷ []))) one (subst (λ n. P (suc (length text)) n) two there) in (
        λ f. record { len = f.len; flagged = λ q. ((λ g. (same q).0 ((f.flagged q).0 g)), (λ m. (f.flagged q).1 ((same q).1 m))) },
        λ f. record { len = f.len; flagged = λ q. ((λ g. (same q).1 ((f.flagged q).0 g)), (λ m. (f.flagged q).1 ((same q).0 m))) },
      )

-- what ranges have evenly from one character to another, they have of each character between
pub even_ranges : (from to c : ℕ) (ranges : List (ℕ × ℕ)) → are_even from to ranges ≡ true → from ≤ c → c ≤ to
    → in_ranges ranges c ≡ in_ranges ranges from
even_ranges from to c [] even low high = refl
even_ranges from to c (r ∷ rs) even low high =
    let both = and_true (nat_lt r.1 from || nat_lt to r.0 || (nat_le r.0 from && nat_le to r.1)) (are_even from to rs) even in
    let one : (nat_le r.0 c && nat_le c r.1) ≡ (nat_le r.0 from && nat_le from r.1) = even_range from to c r.0 r.1 both.0 low high in
    let rest = even_ranges from to c rs both.1 low high in
    λ i. one i || rest i
  where
    and_true : (a b : Bool) → (a && b) ≡ true → (a ≡ true) × (b ≡ true)
    and_true true b h = (refl, h)
    and_true false b h = absurd (cc h)

    even_range : (from to c lo hi : ℕ) → (nat_lt hi from || nat_lt to lo || (nat_le lo from && nat_le to hi)) ≡ true → from ≤ c → c ≤ to
        → (nat_le lo c && nat_le c hi) ≡ (nat_le lo from && nat_le from hi)
    even_range from to c lo hi even low high = grind (arith, nat_tests)

same_case : (c : ℕ) → 128 ≤ c → other_case c ≡ c
same_case c h =
    cond_cases (is_ascii_lowercase c) (to_ascii_uppercase c) (to_ascii_lowercase c) c
    (let (_, _, high) = uppercase_is c in high (omega arith)) (let (_, _, high) = lowercase_is c in high (omega arith))
  where
    cond_cases : (b : Bool) (x y z : ℕ) → x ≡ z → y ≡ z → cond b x y ≡ z
    cond_cases true x y z e f = e
    cond_cases false x y z e f = f

-- the same of a class
pub even_member : (fold : Bool) (from to c : ℕ) (ranges : List (ℕ × ℕ)) → 128 ≤ from → are_even from to ranges ≡ true → from ≤ c → c ≤ to
    → is_listed fold ranges c ≡ is_listed fold ranges from
even_member false from to c ranges high even low up = even_ranges from to c ranges even low up
even_member true from to c ranges high even low up =
    let one = even_ranges from to c ranges even low up in
    let left : other_case c ≡ c = same_case c (omega arith) in
    let right : other_case from ≡ from = same_case from high in
    (λ i. in_ranges ranges c || in_ranges ranges (left i)) ∙ ((λ i. one i || one i) ∙ (λ i. in_ranges ranges from || in_ranges ranges (sym right i)))

-- an even class steps evenly
pub even_class : (fold negated : Bool) (from to c next : ℕ) (ranges : List (ℕ × ℕ)) → 128 ≤ from → are_even from to ranges ≡ true → from ≤ c → c ≤ to
    → StepAlike fold (class_at negated ranges next) from c
even_class fold false from to c next ranges high even low up p q =
    let same = even_member fold from to c ranges high even low up in
    let P : Bool → Type 0 = λ b. IsTrue b × (q ≡ next) in
    (subst P (sym same), subst P same)
even_class fold true from to c next ranges high even low up p q =
    let same = even_member fold from to c ranges high even low up in
    let P : Bool → Type 0 = λ b. (IsTrue b → ⊥) × (q ≡ next) in
    (subst P (sym same), subst P same)

-- a character steps as itself
pub alike_itself : (fold : Bool) (nodes : List Node) (c d : ℕ) → c ≡ d → AllStepAlike fold nodes c d
alike_itself fold nodes c d same =
    let P : ℕ → Type 0 = λ e. AllStepAlike fold nodes c e in subst P same (λ p node at a q. ((λ s. s), (λ s. s)))

-- the set after a text, of the nodes of a pattern and of the pattern
pub set_after : (r : Reading) (ts : Tokens) (fold : Bool) (nodes : List Node) → nodes ≡ glob_nodes ts → record { tokens = ts; case_insensitive = fold } ≡ r
    → (text : Chars) (flags : List Bool) → AreLastMarks fold nodes text flags ↔ IsSetAfter r text flags
unfolding IsSetAfter
set_after r ts fold nodes compiled is text flags =
    let P : Reading → Type 0 = λ s. AreLastMarks fold nodes text flags ↔ IsSetAfter s text flags in
    let Q : List Node → Type 0 = λ ns. AreLastMarks fold ns text flags ↔ AreLastMarks fold (glob_nodes ts) text flags in
    subst P is (subst Q (sym compiled) ((λ m. m), (λ m. m)))

-- the end is in the set after a text exactly where the pattern matches it
pub ends_where : (r : Reading) (text : Chars) (flags : List Bool) → IsSetAfter r text flags
    → IsFlagged flags (length (glob_nodes r.tokens)) ↔ Matches r text
unfolding IsSetAfter
ends_where r text flags marks =
    let end = length (glob_nodes r.tokens) in
    let mark = matching_mark r.case_insensitive (glob_nodes r.tokens) text r.tokens (glob_nodes-are r.tokens) in
    ((λ f. mark.1 ((marks.flagged end).0 f)), (λ m. (marks.flagged end).1 (mark.0 m)))

-- how many flags the set after a text has
pub set-length : (r : Reading) (text : Chars) (flags : List Bool) → IsSetAfter r text flags → length flags ≡ length (glob_nodes r.tokens) + 1
unfolding IsSetAfter
set-length r text flags marks = marks.len

-- what follows from a fact of a value
pub ok_then : {T E : Type 0} (r : Result T E) (P Q : T → Type 0) → ((x : T) → P x → Q x) → IfOk r P → IfOk r Q
ok_then (Ok x) P Q follows h = follows x h
ok_then (Err e) P Q follows h = h
