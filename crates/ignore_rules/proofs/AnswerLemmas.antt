-- A list of rules answers by its last rule that applies.
use Rattle.std.proofs.Common.{◌≡◌, ◌⊎◌, ℕ, zero, suc, ◌+◌, ◌<◌, Bool, true, false, not, ◌||◌, List, [], ◌∷◌, length, get_or, drop}
use Rattle.std.proofs.Common.{drop-cons, add-one, Decides, refl, sym, ap, ◌∙◌, inl, inr, cond, arith}
use Rattle.std.proofs.lemmas.Bool.{false≢true}
use Rattle.std.proofs.lemmas.Bool.Decides.{Decides-and, not_from_Decides}
use Rattle.std.proofs.lemmas.List.Elements.{All-cons, All-nil}
use Rattle.std.proofs.lemmas.List.Sums.{sum_by-cons}
use Rattle.ignore_base.specs.declared.match_result.Match.{Match}
use Rattle.ignore_base.specs.declared.match_result.Match.TheVariants.{None, Ignore, Whitelist}
use Rattle.ignore_glob.specs.DoesMatch.{does_match}
use Rattle.ignore_base.specs.Match.{match_or}
use Rattle.ignore_glob.specs.Reading.{Reading, Matches}
use Rattle.ignore_rules.specs.Rules.{Rule, ignore_count, whitelist_count}
use Rattle.ignore_rules.specs.Answer.{does_apply, decision_of, rule_answer, list_answer, Applies, IsLast, IsAnswer}

applies_to_kind : (only_dir is_dir : Bool) → Decides (not only_dir || is_dir) ((only_dir ≡ false) ⊎ (is_dir ≡ true))
applies_to_kind false is_dir = (λ _. inl refl, λ _. refl)
applies_to_kind true is_dir = (λ e. inr e, λ h. elim h [ inl wrong ↦ absurd (false≢true (sym wrong)) | inr e ↦ e ])

-- The law that the test of matching decides matching is handed in.
module _ (decides : (reading : Reading) (text : List ℕ) → Decides (does_match reading text) (Matches reading text)) where
  pub applies_decided : (text : List ℕ) (is_dir : Bool) (rule : Rule) → Decides (does_apply text is_dir rule) (Applies text is_dir rule)
  applies_decided text is_dir rule =
      Decides-and (not rule.is_only_dir || is_dir) (does_match rule.reading text) (applies_to_kind rule.is_only_dir is_dir)
      (decides rule.reading text)

  -- one rule alone
  alone : (text : List ℕ) (is_dir : Bool) (rule : Rule) (rules : List Rule) → IsAnswer rules text is_dir None → (yes : Bool) (flag : Bool)
      → does_apply text is_dir rule ≡ yes → rule.is_whitelist ≡ flag
      → IsAnswer (rule ∷ rules) text is_dir (cond yes (cond flag (Whitelist rule) (Ignore rule)) None)
  alone text is_dir rule rules none true true e f =
      (record { before = []; after = rules; place = refl; applies = (applies_decided text is_dir rule).0 e; last = none }, f)
  alone text is_dir rule rules none true false e f =
      (record { before = []; after = rules; place = refl; applies = (applies_decided text is_dir rule).0 e; last = none }, f)
  alone text is_dir rule rules none false flag e f =
      All-cons (λ r. Applies text is_dir r → ⊥) rule rules (not_from_Decides _ (applies_decided text is_dir rule) e) none

  -- a rule before those that decide changes nothing
  further : (text : List ℕ) (is_dir : Bool) (rule decider : Rule) (rules : List Rule) → IsLast rules text is_dir decider
      → IsLast (rule ∷ rules) text is_dir decider
  further text is_dir rule decider rules h =
      record { before = rule ∷ h.before; after = h.after; place = ap (λ l. rule ∷ l) h.place; applies = h.applies; last = h.last }

  before_all : (text : List ℕ) (is_dir : Bool) (rule : Rule) (rules : List Rule) (m : Match Rule) → IsAnswer rules text is_dir m
      → IsAnswer (rule ∷ rules) text is_dir (match_or m (rule_answer text is_dir rule))
  before_all text is_dir rule rules None h = alone text is_dir rule rules h (does_apply text is_dir rule) rule.is_whitelist refl refl
  before_all text is_dir rule rules (Ignore decider) h = (further text is_dir rule decider rules h.0, h.1)
  before_all text is_dir rule rules (Whitelist decider) h = (further text is_dir rule decider rules h.0, h.1)

  pub answer_by_the_last : (rules : List Rule) (text : List ℕ) (is_dir : Bool) → IsAnswer rules text is_dir (list_answer rules text is_dir)
  answer_by_the_last [] text is_dir = All-nil (λ r. Applies text is_dir r → ⊥)
  answer_by_the_last (rule ∷ rules) text is_dir =
      before_all text is_dir rule rules (list_answer rules text is_dir) (answer_by_the_last rules text is_dir)

-- One rule of a list, the later ones having no answer: how a scan from the end goes on.
module _ (rules : List Rule) (text : List ℕ) (is_dir : Bool) where
  at_rule : (i : ℕ) (rule : Rule) → i < length rules → rule ≡ get_or rules i rule → list_answer (drop (i + 1) rules) text is_dir ≡ None
      → list_answer (drop i rules) text is_dir ≡ rule_answer text is_dir rule
  at_rule i rule fits is none =
      let place : drop i rules ≡ rule ∷ drop (i + 1) rules = rw add-one
      (drop-cons rules i rule fits ∙ ap (λ r. r ∷ drop (suc i) rules) (sym is)) in
      ap (λ rest. list_answer rest text is_dir) place ∙ ap (λ m. match_or m (rule_answer text is_dir rule)) none

or_settled : (m other : Match Rule) → (m ≡ None → ⊥) → match_or m other ≡ m
or_settled None other some = absurd (some refl)
or_settled (Ignore r) other some = refl
or_settled (Whitelist r) other some = refl

settled : (rules : List Rule) (text : List ℕ) (is_dir : Bool) (i : ℕ) → (list_answer (drop i rules) text is_dir ≡ None → ⊥)
    → list_answer rules text is_dir ≡ list_answer (drop i rules) text is_dir
settled rules text is_dir zero some = refl
settled [] text is_dir (suc i) some = refl
settled (rule ∷ rules) text is_dir (suc i) some =
    let later = settled rules text is_dir i some in
    let kept : list_answer rules text is_dir ≡ None → ⊥ = λ e. some (sym later ∙ e) in
    or_settled (list_answer rules text is_dir) (rule_answer text is_dir rule) kept ∙ later

decision_of_some : (rule : Rule) (flag : Bool) → cond flag (Whitelist rule) (Ignore rule) ≡ None → ⊥
decision_of_some rule true e = cc
decision_of_some rule false e = cc

pub decided : (rules : List Rule) (text : List ℕ) (is_dir : Bool) (i : ℕ) (rule : Rule) → i < length rules → rule ≡ get_or rules i rule
    → list_answer (drop (i + 1) rules) text is_dir ≡ None → does_apply text is_dir rule ≡ true
    → list_answer rules text is_dir ≡ decision_of rule
decided rules text is_dir i rule fits is none e =
    let here : list_answer (drop i rules) text is_dir ≡ decision_of rule = at_rule rules text is_dir i rule fits is none
    ∙ ap (λ yes. cond yes (decision_of rule) None) e in
    settled rules text is_dir i (λ f. decision_of_some rule rule.is_whitelist (sym here ∙ f)) ∙ here

one_more : (flag : Bool) (n a b : ℕ) → n ≡ a + b → suc n ≡ (cond (not flag) 1 0 + a) + (cond flag 1 0 + b)
one_more true n a b e = omega arith
one_more false n a b e = omega arith

-- each rule ignores or whitelists
pub length-counts : (rules : List Rule) → length rules ≡ ignore_count rules + whitelist_count rules
length-counts [] = refl
length-counts (rule ∷ rules) =
    rw (sum_by-cons (λ r. cond (not r.is_whitelist) 1 0) rule rules, sum_by-cons (λ r. cond r.is_whitelist 1 0) rule rules)
    (one_more rule.is_whitelist (length rules) (ignore_count rules) (whitelist_count rules) (length-counts rules))
