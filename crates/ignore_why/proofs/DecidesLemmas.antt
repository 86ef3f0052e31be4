-- The rule that decides stands in the first rank that has a match.
use Rattle.std.proofs.Common.{◌≡◌, ◌&&◌, zero, suc, All, Bool, true, false, cond, List, [], ◌∷◌, map, reverse, Option, Some}
use Rattle.std.proofs.Common.{refl, sym, ap, subst, arith}
use Rattle.std.specs.Str.{chars}
use Rattle.ignore_base.specs.Match.{inner, match_map, match_or}
use Rattle.ignore_base.specs.Paths.{file_name_of, strip_of, trim_of}
use Rattle.ignore_base.specs.Text.{Chars, Path}
use Rattle.ignore_base.specs.declared.match_result.Match.{Match}
use Rattle.ignore_base.specs.declared.match_result.Match.TheVariants as m
use Rattle.ignore_types.specs.TypeMatch.{TypeGlob, type_answer}
use Rattle.ignore_rules.specs.Answer.{AnswersByTheLast, IsAnswer, IsLast, does_apply, list_answer, rule_answer}
use Rattle.ignore_rules.specs.Overrides.{override_answer}
use Rattle.ignore_rules.specs.Parents.{first_match}
use Rattle.ignore_rules.specs.Rules.{Rule, Ruleset}
use Rattle.ignore_dir.specs.declared.dir.Rank.{Rank}
use Rattle.ignore_dir.specs.declared.dir.Rank.TheVariants.{Custom, Ignore, Gitignore, Exclude}
use Rattle.ignore_dir.specs.declared.outside.Outside.{Outside}
use Rattle.ignore_dir.specs.declared.settings.Settings.{Settings}
use Rattle.ignore_dir.specs.Above.{path_along}
use Rattle.ignore_dir.specs.Lists.{Asked}
use Rattle.ignore_dir.specs.Ranks.{cut, explicit_answer, has_git, rules_answer}
use Rattle.ignore_dir.specs.Scene.{chain}
use Rattle.ignore_dir.specs.Verdict.{is_dotted}
use Rattle.ignore_levels.specs.Reasons.{Why, file_reason, file_why}
use Rattle.ignore_levels.specs.Reasons.Why.{by_override, by_rule, by_type, by_name}
use Rattle.ignore_levels.specs.Sites.{NearestDecides, Site, Sited, in_directory, in_explicit, in_global, sited}
use Rattle.ignore_levels.specs.Sites.{git_ranks_sited, git_sited, nearest_sited, ranks_sited}
use Rattle.ignore_why.specs.Decides.{AloneDecides, AreNone, Decides, FirstRankDecides, IsLastOf, StandsAt, StandsInFile, matches_before, reach}
use Rattle.ignore_why.specs.QueryWhy.{path_why}

-- Of two matches.

-- the value of the first match, or of the second where the first is none
data Side {T : Type 0} (a b : Match T) (x : T) : Type 0 where
  first : inner a ≡ Some x → Side a b x
  second : a ≡ m.None → inner b ≡ Some x → Side a b x

side : {T : Type 0} (a b : Match T) (x : T) → inner (match_or a b) ≡ Some x → Side a b x
side m.None b x h = second refl h
side (m.Ignore y) b x h = first h
side (m.Whitelist y) b x h = first h

mapped : {T U : Type 0} (f : T → U) (a : Match T) (x : U) → inner (match_map f a) ≡ Some x → (y : T) × (inner a ≡ Some y) × (f y ≡ x)
mapped f m.None x h = absurd (cc (h))
mapped f (m.Ignore y) x h = let same : f y ≡ x = cc (h) in (y, refl, same)
mapped f (m.Whitelist y) x h = let same : f y ≡ x = cc (h) in (y, refl, same)

-- Of one list.

answered : (rules : List Rule) (text : Chars) (is_dir : Bool) (a : Match Rule) (rule : Rule) → IsAnswer rules text is_dir a
    → inner a ≡ Some rule → IsLast rules text is_dir rule
answered rules text is_dir m.None rule is h = absurd (cc (h))
answered rules text is_dir (m.Ignore r) rule is h = let same : r ≡ rule = cc (h) in subst (IsLast rules text is_dir) same is.0
answered rules text is_dir (m.Whitelist r) rule is h = let same : r ≡ rule = cc (h) in subst (IsLast rules text is_dir) same is.0

last-of : AnswersByTheLast → (rules : Ruleset) (path : Path) (is_dir : Bool) (rule : Rule) → inner (rules_answer path is_dir rules) ≡ Some rule
    → IsLastOf rules path is_dir rule
last-of law rules path is_dir rule h =
    let text = chars (strip_of rules.root path) in
    answered rules.rules text is_dir (list_answer rules.rules text is_dir) rule (law rules.rules text is_dir) h

decision : (rule : Rule) (b : Bool) → rule.is_whitelist ≡ b → inner (cond b (m.Whitelist rule) (m.Ignore rule)) ≡ Some rule
decision rule true e = refl
decision rule false e = refl

same-rule : (text : Chars) (is_dir : Bool) (r rule : Rule) (b w : Bool) → does_apply text is_dir r ≡ b → r.is_whitelist ≡ w
    → inner (cond b (cond w (m.Whitelist r) (m.Ignore r)) m.None) ≡ Some rule → r ≡ rule
same-rule text is_dir r rule false w e f h = absurd (cc (h))
same-rule text is_dir r rule true true e f h = cc (h)
same-rule text is_dir r rule true false e f h = cc (h)

alone-step : (text : Chars) (is_dir : Bool) (r rule : Rule) (rest : Match Rule)
    → (inner rest ≡ Some rule → rule_answer text is_dir rule ≡ rest) → inner (match_or rest (rule_answer text is_dir r)) ≡ Some rule
    → rule_answer text is_dir rule ≡ match_or rest (rule_answer text is_dir r)
alone-step text is_dir r rule m.None more h =
    let same = same-rule text is_dir r rule (does_apply text is_dir r) r.is_whitelist refl refl h in
    ap (rule_answer text is_dir) (sym same)
alone-step text is_dir r rule (m.Ignore y) more h = more h
alone-step text is_dir r rule (m.Whitelist y) more h = more h

pub alone-decides : AloneDecides
alone-decides [] text is_dir rule h = absurd (cc (h))
alone-decides (r ∷ rules) text is_dir rule h =
    alone-step text is_dir r rule (list_answer rules text is_dir) (alone-decides rules text is_dir rule) h

-- Of files that were added by name.

nothing_all : {A : Type 0} (P : A → Type 0) → All P []
nothing_all P k d lt = absurd (omega (arith, lt))

cons_all : {A : Type 0} (P : A → Type 0) (x : A) (xs : List A) → P x → All P xs → All P (x ∷ xs)
cons_all P x xs p h zero d lt = p
cons_all P x xs p h (suc k) d lt = h k d (omega (arith, lt))

file-decides : AnswersByTheLast → (files : List Ruleset) (path : Path) (is_dir : Bool) (rule : Rule)
    → inner (first_match (map (rules_answer path is_dir) files)) ≡ Some rule → StandsInFile files path is_dir rule
file-decides law [] path is_dir rule h = absurd (cc (h))
file-decides law (f ∷ files) path is_dir rule h =
    elim (side (rules_answer path is_dir f) (first_match (map (rules_answer path is_dir) files)) rule h)
    as (λ _. StandsInFile (f ∷ files) path is_dir rule) [
      | first e ↦ record {
        later = [];
        file = f;
        earlier = files;
        split = refl;
        none = nothing_all (λ x. rules_answer path is_dir x ≡ m.None);
        last = last-of law f path is_dir rule e;
      }
      | second none e ↦ let r = file-decides law files path is_dir rule e in
          record {
            later = f ∷ r.later;
            file = r.file;
            earlier = r.earlier;
            split = ap (λ (l : List Ruleset). f ∷ l) r.split;
            none = cons_all (λ x. rules_answer path is_dir x ≡ m.None) f r.later none r.none;
            last = r.last;
          }
    ]

-- Of the ranks.

when-git : (b : Bool) (a : Match Sited) (x : Sited) → inner (cond b a m.None) ≡ Some x → inner a ≡ Some x
when-git true a x h = h
when-git false a x h = absurd (cc (h))

module _ (nearest : NearestDecides) (law : AnswersByTheLast) (s : Settings) (o : Outside) (links : List Asked) (path : Path) (is_dir : Bool)
    (x : Sited) where
  abbrev Before : Site → Type 0
  Before site = AreNone (matches_before s o links path is_dir site)

  abbrev At : Site → Type 0
  At site = StandsAt o links path is_dir x site

  placed : (site : Site) → x.site ≡ site → Before site → At site → Decides s o links path is_dir x
  placed site is before at = record { first = subst Before (sym is) before; stands = subst At (sym is) at }

  in_rank : (rank : Rank) → inner (nearest_sited rank (reach rank links) is_dir) ≡ Some x
      → ((link : Asked) → Before (in_directory rank link.1)) → Decides s o links path is_dir x
  in_rank rank h before =
      let stands = nearest rank (reach rank links) is_dir x h in
      placed (in_directory rank stands.link.1) stands.site (before stands.link) stands

  by_explicit : inner (match_map (sited in_explicit) (explicit_answer o.explicit (trim_of path) is_dir)) ≡ Some x → Before in_explicit
      → Decides s o links path is_dir x
  by_explicit h before =
      let r = mapped (sited in_explicit) (explicit_answer o.explicit (trim_of path) is_dir) x h in
      let stands = file-decides law (reverse o.explicit) (trim_of path) is_dir r.0 r.1 in
      placed in_explicit (sym (ap (λ (y : Sited). y.site) r.2)) before
      (subst (λ (y : Rule). StandsInFile (reverse o.explicit) (trim_of path) is_dir y) (ap (λ (y : Sited). y.rule) r.2) stands)

  by_global : inner (match_map (sited in_global) (rules_answer (trim_of path) is_dir o.global)) ≡ Some x → Before in_global
      → Decides s o links path is_dir x
  by_global h before =
      let r = mapped (sited in_global) (rules_answer (trim_of path) is_dir o.global) x h in
      let last = last-of law o.global (trim_of path) is_dir r.0 r.1 in
      placed in_global (sym (ap (λ (y : Sited). y.site) r.2)) before
      (subst (IsLastOf o.global (trim_of path) is_dir) (ap (λ (y : Sited). y.rule) r.2) last)

  by_git : nearest_sited Custom links is_dir ≡ m.None → nearest_sited Ignore links is_dir ≡ m.None
      → inner (git_sited o.global (cut links) (trim_of path) is_dir) ≡ Some x → Decides s o links path is_dir x
  by_git custom ignore h =
      let global = match_map (sited in_global) (rules_answer (trim_of path) is_dir o.global) in
      elim (side (nearest_sited Gitignore (cut links) is_dir) (match_or (nearest_sited Exclude (cut links) is_dir) global) x h)
      as (λ _. Decides s o links path is_dir x) [
        | first e ↦ in_rank Gitignore e (λ link. (custom, (ignore, tt)))
        | second gitignore e ↦ elim (side (nearest_sited Exclude (cut links) is_dir) global x e)
            as (λ _. Decides s o links path is_dir x) [
              | first f ↦ in_rank Exclude f (λ link. (custom, (ignore, (gitignore, tt))))
              | second exclude f ↦ by_global f (custom, (ignore, (gitignore, (exclude, tt))))
            ]
      ]

  pub ranks-decide : inner (ranks_sited s o links path is_dir) ≡ Some x → Decides s o links path is_dir x
  ranks-decide h =
      let named = match_map (sited in_explicit) (explicit_answer o.explicit (trim_of path) is_dir) in
      let git = git_ranks_sited s o.global links (trim_of path) is_dir in
      let rest = match_or (nearest_sited Ignore links is_dir) (match_or git named) in
      elim (side (nearest_sited Custom links is_dir) rest x h) as (λ _. Decides s o links path is_dir x) [
        | first e ↦ in_rank Custom e (λ link. tt)
        | second custom e ↦ elim (side (nearest_sited Ignore links is_dir) (match_or git named) x e)
            as (λ _. Decides s o links path is_dir x) [
              | first f ↦ in_rank Ignore f (λ link. (custom, tt))
              | second ignore f ↦ elim (side git named x f) as (λ _. Decides s o links path is_dir x) [
                | first k ↦ by_git custom ignore
                    (when-git (has_git s links) (git_sited o.global (cut links) (trim_of path) is_dir) x k)
                | second none k ↦ by_explicit k (custom, (ignore, (none, tt)))
              ]
            ]
      ]

-- Of all that may decide.

no-type : (t : Match (Option TypeGlob)) (other : Match Why) (x : Sited) → inner (match_or (match_map by_type t) other) ≡ Some (by_rule x)
    → inner other ≡ Some (by_rule x)
no-type m.None other x h = h
no-type (m.Ignore d) other x h = absurd (cc (h))
no-type (m.Whitelist d) other x h = absurd (cc (h))

no-name : (hides : Bool) (x : Sited) → inner (cond hides (m.Ignore by_name) m.None) ≡ Some (by_rule x) → ⊥
no-name true x h = cc (h)
no-name false x h = cc (h)

ruled-by : (ranks : Match Sited) (types : Match (Option TypeGlob)) (hides : Bool) (x : Sited)
    → inner (file_why ranks types hides) ≡ Some (by_rule x) → inner ranks ≡ Some x
ruled-by m.None types hides x h = absurd (no-name hides x (no-type types (cond hides (m.Ignore by_name) m.None) x h))
ruled-by (m.Ignore y) types hides x h = let same : y ≡ x = cc (h) in ap Some same
ruled-by (m.Whitelist y) types hides x h =
    let only = no-type types (m.Whitelist (by_rule y)) x h in
    let same : y ≡ x = cc (only) in ap Some same

no-override : (a : Match (Option Rule)) (other : Match Why) (x : Sited)
    → inner (match_or (match_map by_override a) other) ≡ Some (by_rule x) → inner other ≡ Some (by_rule x)
no-override m.None other x h = h
no-override (m.Ignore y) other x h = absurd (cc (h))
no-override (m.Whitelist y) other x h = absurd (cc (h))

pub first-rank-decides : NearestDecides → AnswersByTheLast → FirstRankDecides
unfolding path_why
first-rank-decides nearest law g names is_dir x h =
    let s = g.settings in
    let o = g.outside in
    let links = chain g names in
    let path = path_along g.root names in
    let types = type_answer o.types.choices is_dir (file_name_of (trim_of path)) in
    let file = no-override (override_answer o.overrides (trim_of path) is_dir) (file_reason s o links path is_dir) x h in
    ranks-decide nearest law s o links path is_dir x
    (ruled-by (ranks_sited s o links path is_dir) types (s.hidden && is_dotted (file_name_of path)) x file)
