-- What is said of a question is the verdict of the list, and there is one.
use Rattle.std.proofs.Common.{◌≡◌, ℕ, Bool, true, false, not, List, Some, length, arith, refl, sym, ap, ◌∙◌, cond, inl, inr, string_bytes, subst}
use Rattle.std.specs.Str.{chars}
use Rattle.std.proofs.lemmas.Option.{slice_get_within}
use Rattle.ignore_base.specs.Text.{Chars}
use Rattle.ignore_base.specs.declared.match_result.Match.TheVariants as M
use Rattle.ignore_rules.specs.Answer.{does_apply, list_answer}
use Rattle.ignore_rules.specs.Rules.{Rule}
use Rattle.ignore_every.specs.Machines.{IsLastOf, ignores, ignores_at}
use Rattle.ignore_every.specs.Questions.{Decides}
use Rattle.ignore_every.specs.Verdicts.{IsDifference, IsSaid, SaySame, Says, counted_as, said_verdict, verdict_of}
use Rattle.ignore_every.specs.declared.said.Counted.{Counted}
use Rattle.ignore_every.specs.declared.said.Said.{Said}
use Rattle.ignore_every.specs.declared.said.Said.TheVariants as S
use Rattle.ignore_every.specs.declared.said.Verdict.{Verdict}
use Rattle.ignore_every.specs.declared.said.Verdict.TheVariants as V
use Rattle.ignore_every.proofs.Deciders.{last_answers, none_answers, ignores_then}

-- a rule that decides is the last one that applies
last_of : (rules : List Rule) (path : Chars) (is_dir : Bool) (k : ℕ) → Decides rules k path is_dir → IsLastOf rules 0 (length rules) path is_dir (Some k)
last_of rules path is_dir k decided =
    let within = slice_get_within rules k decided.rule decided.place in (
      omega arith,
      within,
      λ rule at. (let same : decided.rule ≡ rule = cc (at, decided.place) in subst (λ r. does_apply path is_dir r ≡ true) same decided.applies),
      λ i rule less high at. decided.last i rule less at,
    )

-- the flag of the rule that decides is the verdict
by_flag : (rules : List Rule) (path : Chars) (is_dir : Bool) (k : ℕ) (b : Bool) (v : Verdict) → Decides rules k path is_dir
    → ignores rules (Some k) ≡ b → v ≡ cond b V.Ignore V.Whitelist → v ≡ verdict_of (list_answer rules path is_dir)
by_flag rules path is_dir k b v decided flag is =
    let rule = decided.rule in
    let own : not rule.is_whitelist ≡ b = sym (ap ignores_at decided.place) ∙ flag in
    let answers = last_answers rules path is_dir k rule decided.place decided.applies decided.last in
    is ∙ (go rule.is_whitelist b own ∙ ap verdict_of (sym answers))
  where
    go : (white c : Bool) → not white ≡ c → cond c V.Ignore V.Whitelist ≡ verdict_of (cond white (M.Whitelist decided.rule) (M.Ignore decided.rule))
    go true true e = absurd (cc e)
    go true false e = refl
    go false true e = refl
    go false false e = absurd (cc e)

pub said_says : (rules : List Rule) (path : Chars) (is_dir : Bool) (said : Said) → IsSaid rules path is_dir said
    → Says rules path is_dir (said_verdict said)
said_says rules path is_dir S.Nothing is = inl (is.0, ap verdict_of (sym (none_answers rules path is_dir is.1)))
said_says rules path is_dir (S.Ignored k) is = inl (is.0.0, by_flag rules path is_dir k true V.Ignore is.0.1 is.1 refl)
said_says rules path is_dir (S.Whitelisted k) is = inl (is.0.0, by_flag rules path is_dir k false V.Whitelist is.0.1 is.1 refl)
said_says rules path is_dir (S.InFolder folder) is =
    let above = chars (string_bytes folder.path) in
    inr ((above, is.below, is.way, ignores_then rules above true (Some folder.rule) (last_of rules above true folder.rule is.decided) is.ignored), refl)

pub one_verdict : (rules : List Rule) (path : Chars) (is_dir : Bool) (v w : Verdict) → Says rules path is_dir v → Says rules path is_dir w → v ≡ w
one_verdict rules path is_dir v w (inl a) (inl b) = a.1 ∙ sym b.1
one_verdict rules path is_dir v w (inl a) (inr b) = absurd (a.0 b.0.0 b.0.1 b.0.2 b.0.3)
one_verdict rules path is_dir v w (inr a) (inl b) = absurd (b.0 a.0.0 a.0.1 a.0.2 a.0.3)
one_verdict rules path is_dir v w (inr a) (inr b) = a.1 ∙ sym b.1

-- where lists differ at a question, what they say of it doesn't count as the same
pub differ_not_same : (counted : Counted) (old new : List Rule) (path : Chars) (is_dir : Bool) (before after : Said)
    → IsDifference counted old new path is_dir before after → SaySame counted old new → ⊥
differ_not_same counted old new path is_dir before after d same =
    let alike = same path is_dir d.clean in
    let b = one_verdict old path is_dir _ alike.0 (said_says old path is_dir before d.said_before) alike.2 in
    let a = one_verdict new path is_dir _ alike.1 (said_says new path is_dir after d.said_after) alike.3 in
    d.differ (ap (counted_as counted) b ∙ (alike.4 ∙ sym (ap (counted_as counted) a)))
