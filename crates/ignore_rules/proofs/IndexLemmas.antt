-- The last match that an index finds is the rule that decides.
use Rattle.std.proofs.Common.{◌≡◌, ℕ, zero, suc, ◌+◌, ◌<◌, Bool, false, List, [], ◌∷◌, length, map, get_or, drop, All, Decides, cond, refl}
use Rattle.std.proofs.Common.{sym, ap, subst, ◌∙◌, arith}
use Rattle.std.specs.Prelude as option
use Rattle.std.specs.Option.{option_map}
use Rattle.std.proofs.lemmas.Bool.{false_from_ne_true}
use Rattle.std.proofs.lemmas.List.{drop-map, get_or-map, length-map}
use Rattle.std.proofs.lemmas.List.Elements.{All-get_or}
use Rattle.std.proofs.lemmas.Option.{slice_get-map, slice_get-get_or, slice_get_within}
use Rattle.ignore_base.specs.Match.{match_or}
use Rattle.ignore_base.specs.declared.match_result.Match.TheVariants.{None}
use Rattle.ignore_glob.specs.DoesMatch.{does_match}
use Rattle.ignore_glob.specs.Reading.{Reading, Matches}
use Rattle.ignore_set.specs.Sets.{Member, IsLastMatch, IsShort}
use Rattle.ignore_set.specs.Sets.{Applies as MemberApplies}
use Rattle.ignore_rules.specs.Answer.{does_apply, decision_of, rule_answer, list_answer}
use Rattle.ignore_rules.specs.RuleIndex.{AreShortRules, rule_member}
use Rattle.ignore_rules.specs.Rules.{Rule}
use Rattle.ignore_rules.proofs.AnswerLemmas.{applies_decided, decided}

some_one : {A : Type 0} (a b : A) → option.Some a ≡ option.Some b → a ≡ b
some_one a b e = cc

pub last_within : (rules : List Rule) (text : List ℕ) (is_dir : Bool) (i : ℕ)
    → IsLastMatch text is_dir (map rule_member rules) (option.Some i) → i < length rules
last_within rules text is_dir i (m, here, applies, later) =
    subst (λ n. i < n) (length-map rules rule_member) (slice_get_within (map rule_member rules) i m here)

module _ (decides : (reading : Reading) (text : List ℕ) → Decides (does_match reading text) (Matches reading text)) where
  pub none_decides : (rules : List Rule) (text : List ℕ) (is_dir : Bool)
      → All (λ m. MemberApplies text is_dir m → ⊥) (map rule_member rules) → list_answer rules text is_dir ≡ None
  none_decides [] text is_dir h = refl
  none_decides (rule ∷ rules) text is_dir h =
      let later : list_answer rules text is_dir ≡ None = none_decides rules text is_dir (λ k d l. h (suc k) d (omega (arith, l))) in
      let no : does_apply text is_dir rule ≡ false = false_from_ne_true _
      (λ e. h zero (rule_member rule) (omega arith) ((applies_decided decides text is_dir rule).0 e)) in
      ap (λ m. match_or m (rule_answer text is_dir rule)) later ∙ ap (λ b. cond b (decision_of rule) None) no

  pub last_decides : (rules : List Rule) (text : List ℕ) (is_dir : Bool) (i : ℕ) (rule : Rule) → rule ≡ get_or rules i rule
      → IsLastMatch text is_dir (map rule_member rules) (option.Some i) → list_answer rules text is_dir ≡ decision_of rule
  last_decides rules text is_dir i rule is (m, here, applies, later) =
      let fits : i < length rules = last_within rules text is_dir i (m, here, applies, later) in
      let same : m ≡ rule_member rule = some_one _ _ (sym here ∙ slice_get-map rule_member rules i
      ∙ ap (option_map rule_member) (slice_get-get_or rules i rule fits ∙ ap option.Some (sym is))) in
      decided rules text is_dir i rule fits is
      (none_decides (drop (i + 1) rules) text is_dir
      (subst (λ (l : List Member). All (λ x. MemberApplies text is_dir x → ⊥) l) (drop-map rule_member (i + 1) rules) later))
      ((applies_decided decides text is_dir rule).1 (subst (λ (x : Member). MemberApplies text is_dir x) same applies))

-- each of short rules is short
pub short_at : (rules : List Rule) (i : ℕ) (rule : Rule) → AreShortRules rules → i < length rules → rule ≡ get_or rules i rule
    → IsShort rule.reading
short_at rules i rule short fits is =
    subst (λ (m : Member). IsShort m.reading) (get_or-map rule_member rules i rule (rule_member rule) fits ∙ ap rule_member (sym is))
    (All-get_or (λ (m : Member). IsShort m.reading) (map rule_member rules) i (rule_member rule) (rw (length-map rules rule_member) fits) short)
