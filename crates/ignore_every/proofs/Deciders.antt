-- The last rule that applies is the one that the list answers by.
use Rattle.std.proofs.Common.{◌≡◌, ℕ, zero, suc, ◌<◌, Bool, true, false, not, List, [], ◌∷◌, Option, None, Some, length, slice_get, arith, refl, sym, ap, ◌∙◌}
use Rattle.std.proofs.Common.{cond, subst}
use Rattle.std.proofs.lemmas.Option.{slice_get_within}
use Rattle.ignore_base.specs.Text.{Chars}
use Rattle.ignore_base.specs.Match.{match_or}
use Rattle.ignore_base.specs.declared.match_result.Match.{Match}
use Rattle.ignore_base.specs.declared.match_result.Match.TheVariants as M
use Rattle.ignore_rules.specs.Answer.{does_apply, decision_of, rule_answer, list_answer}
use Rattle.ignore_rules.specs.Rules.{Rule}
use Rattle.ignore_every.specs.Agreement.{rule_verdict, verdict_by}
use Rattle.ignore_every.specs.Questions.{IsIgnored}
use Rattle.ignore_every.specs.Verdicts.{verdict_of}
use Rattle.ignore_every.specs.declared.said.Verdict.TheVariants as V
use Rattle.ignore_every.specs.Machines.{IsLastOf, ignores, ignores_at}

-- the rule answers nothing where it doesn't apply, and its decision where it applies
answer_where : (text : Chars) (is_dir : Bool) (rule : Rule) (applies : Bool) → does_apply text is_dir rule ≡ applies
    → rule_answer text is_dir rule ≡ cond applies (decision_of rule) M.None
answer_where text is_dir rule applies e = ap (λ b. cond b (decision_of rule) M.None) e

pub none_answers : (rules : List Rule) (text : Chars) (is_dir : Bool)
    → ((i : ℕ) (rule : Rule) → slice_get rules i ≡ Some rule → does_apply text is_dir rule ≡ false) → list_answer rules text is_dir ≡ M.None
none_answers [] text is_dir none = refl
none_answers (rule ∷ rules) text is_dir none =
    let later = none_answers rules text is_dir (λ i r at. none (suc i) r at) in
    ap (λ m. match_or m (rule_answer text is_dir rule)) later ∙ answer_where text is_dir rule false (none 0 rule refl)

decision_first : (rule : Rule) (m : Match Rule) → match_or (decision_of rule) m ≡ decision_of rule
decision_first rule m = go rule.is_whitelist
  where
    go : (b : Bool) → match_or (cond b (M.Whitelist rule) (M.Ignore rule)) m ≡ cond b (M.Whitelist rule) (M.Ignore rule)
    go true = refl
    go false = refl

-- the list answers by the last rule that applies
pub last_answers : (rules : List Rule) (text : Chars) (is_dir : Bool) (k : ℕ) (rule : Rule) → slice_get rules k ≡ Some rule
    → does_apply text is_dir rule ≡ true
    → ((i : ℕ) (later : Rule) → k < i → slice_get rules i ≡ Some later → does_apply text is_dir later ≡ false)
    → list_answer rules text is_dir ≡ decision_of rule
last_answers [] text is_dir k rule at applies last = absurd (cc at)
last_answers (r ∷ rules) text is_dir zero rule at applies last =
    let same : r ≡ rule = cc at in
    let none = none_answers rules text is_dir (λ i later is. last (suc i) later (omega arith) is) in
    ap (λ m. match_or m (rule_answer text is_dir r)) none
    ∙ (answer_where text is_dir r true (subst (λ x. does_apply text is_dir x ≡ true) (sym same) applies) ∙ ap decision_of same)
last_answers (r ∷ rules) text is_dir (suc k) rule at applies last =
    ap (λ m. match_or m (rule_answer text is_dir r))
    (last_answers rules text is_dir k rule at applies (λ i later less is. last (suc i) later (omega (arith, less)) is))
    ∙ decision_first rule (rule_answer text is_dir r)

-- a known decider that ignores means that the rules ignore
pub ignores_then : (rules : List Rule) (text : Chars) (is_dir : Bool) (k : Option ℕ) → IsLastOf rules 0 (length rules) text is_dir k
    → ignores rules k ≡ true → IsIgnored rules text is_dir
ignores_then rules text is_dir None last known = absurd (cc known)
ignores_then rules text is_dir (Some k) last known = go (slice_get rules k) refl known
  where
    flag : (rule : Rule) (b : Bool) → rule.is_whitelist ≡ b → not b ≡ true → decision_of rule ≡ M.Ignore rule
    flag rule true e wrong = absurd (cc wrong)
    flag rule false e right = ap (λ b. cond b (M.Whitelist rule) (M.Ignore rule)) e

    go : (o : Option Rule) → slice_get rules k ≡ o → ignores_at o ≡ true → IsIgnored rules text is_dir
    go None at wrong = absurd (cc wrong)
    go (Some rule) at right = (
      rule,
      last_answers rules text is_dir k rule at (last.2 rule at)
          (λ i later less is. last.3 i later less (slice_get_within rules i later is) is)
          ∙ flag rule rule.is_whitelist refl right,
    )

-- what is within a list is there
pub slice_is_there : (rules : List Rule) (k : ℕ) → k < length rules → slice_get rules k ≡ None → ⊥
slice_is_there [] k less none = omega (arith, less)
slice_is_there (rule ∷ rules) zero less none = cc none
slice_is_there (rule ∷ rules) (suc k) less none = slice_is_there rules k (omega (arith, less)) none

-- a known decider that doesn't ignore means that the rules don't ignore
pub free_then : (rules : List Rule) (text : Chars) (is_dir : Bool) (k : Option ℕ) → IsLastOf rules 0 (length rules) text is_dir k
    → ignores rules k ≡ false → IsIgnored rules text is_dir → ⊥
free_then rules text is_dir None last known ignored =
    let none = none_answers rules text is_dir (λ i rule at. last i rule (omega arith) (slice_get_within rules i rule at) at) in
    let wrong : M.None ≡ M.Ignore ignored.0 = sym none ∙ ignored.1 in
    absurd (cc wrong)
free_then rules text is_dir (Some k) last known ignored = go (slice_get rules k) refl known
  where
    flag : (rule : Rule) (b : Bool) → rule.is_whitelist ≡ b → not b ≡ false → decision_of rule ≡ M.Ignore ignored.0 → ⊥
    flag rule false e wrong is = cc wrong
    flag rule true e right is =
        let white : decision_of rule ≡ M.Whitelist rule = ap (λ b. cond b (M.Whitelist rule) (M.Ignore rule)) e in
        cc (sym white ∙ is)

    go : (o : Option Rule) → slice_get rules k ≡ o → ignores_at o ≡ false → ⊥
    go None at known = slice_is_there rules k last.1 at
    go (Some rule) at known =
        let answers = last_answers rules text is_dir k rule at (last.2 rule at)
        (λ i later less is. last.3 i later less (slice_get_within rules i later is) is) in
        flag rule rule.is_whitelist refl known (sym answers ∙ ignored.1)

-- the verdict of the answer is that of the known decider
pub verdict_then : (rules : List Rule) (text : Chars) (is_dir : Bool) (k : Option ℕ) → IsLastOf rules 0 (length rules) text is_dir k
    → verdict_by rules k ≡ verdict_of (list_answer rules text is_dir)
verdict_then rules text is_dir None last =
    ap verdict_of (sym (none_answers rules text is_dir (λ i rule at. last i rule (omega arith) (slice_get_within rules i rule at) at)))
verdict_then rules text is_dir (Some k) last = go (slice_get rules k) refl
  where
    flag : (rule : Rule) (b : Bool) → rule.is_whitelist ≡ b → rule_verdict (Some rule) ≡ verdict_of (decision_of rule)
    flag rule true e =
        ap (λ b. cond b V.Whitelist V.Ignore) e ∙ ap verdict_of (sym (ap (λ b. cond b (M.Whitelist rule) (M.Ignore rule)) e))
    flag rule false e =
        ap (λ b. cond b V.Whitelist V.Ignore) e ∙ ap verdict_of (sym (ap (λ b. cond b (M.Whitelist rule) (M.Ignore rule)) e))

    go : (o : Option Rule) → slice_get rules k ≡ o → rule_verdict (slice_get rules k) ≡ verdict_of (list_answer rules text is_dir)
    go None at = absurd (slice_is_there rules k last.1 at)
    go (Some rule) at =
        let answers = last_answers rules text is_dir k rule at (last.2 rule at)
        (λ i later less is. last.3 i later less (slice_get_within rules i later is) is) in
        ap rule_verdict at ∙ (flag rule rule.is_whitelist refl ∙ ap verdict_of (sym answers))
