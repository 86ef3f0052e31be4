-- What decides, case by case, and its verdict.
use Rattle.std.proofs.Common.{◌≡◌, ◌&&◌, Bool, true, false, cond, List, [], ◌∷◌, Option, Ok, Err, Result, IfOk, ap, refl, ◌∙◌, sym}
use Rattle.ignore_base.specs.Match.{is_ignore, is_none, match_map, match_or}
use Rattle.ignore_base.specs.Paths.{file_name_of, trim_of}
use Rattle.ignore_base.specs.Text.{Path}
use Rattle.ignore_base.specs.declared.match_result.Match.{Match}
use Rattle.ignore_base.specs.declared.match_result.Match.TheVariants as m
use Rattle.ignore_types.specs.TypeMatch.{TypeGlob, type_answer}
use Rattle.ignore_rules.specs.Overrides.{override_answer}
use Rattle.ignore_rules.specs.Rules.{Rule, Ruleset}
use Rattle.ignore_dir.specs.declared.outside.Outside.{Outside}
use Rattle.ignore_dir.specs.declared.settings.Settings.{Settings}
use Rattle.ignore_dir.specs.declared.dir.Rank.{Rank}
use Rattle.ignore_dir.specs.declared.dir.Rank.TheVariants.{Custom, Ignore, Gitignore, Exclude}
use Rattle.ignore_dir.specs.Lists.{Asked, Placed, asked_in}
use Rattle.ignore_dir.specs.Ranks.{cut, dir_answer, explicit_answer, git_answer, git_ranks, has_git, nearest, ranks_answer, rules_answer}
use Rattle.ignore_dir.specs.Verdict.{is_dotted, or_else, placed_verdict, verdict, verdict_of, without_override}
use Rattle.ignore_levels.specs.declared.ranks.Ruling.{Ruling}
use Rattle.ignore_levels.specs.declared.reason.Reason.{Reason}
use Rattle.ignore_levels.specs.Reasons.{Why, file_why, placed_why, sited_of, why, why_of}
use Rattle.ignore_levels.specs.Sites.{Site, Sited, dir_sited, git_ranks_sited, git_sited, in_directory, in_explicit, in_global, nearest_sited}
use Rattle.ignore_levels.specs.Sites.{ranks_sited, sited}
use Rattle.ignore_levels.specs.Reasons.Why.{by_override, by_rule, by_type, by_name}

-- an override decides
pub overrides : (a b : Match (Option Rule)) (other : Match Why) → a ≡ b → is_none a ≡ false
    → match_map by_override a ≡ match_or (match_map by_override b) other
overrides m.None b other is some = absurd (cc (some))
overrides (m.Ignore x) b other is some = ap (λ r. match_or (match_map by_override r) other) is
overrides (m.Whitelist x) b other is some = ap (λ r. match_or (match_map by_override r) other) is

-- no override leaves what comes after it
pub no_override : (a b : Match (Option Rule)) (other : Match Why) → a ≡ b → is_none a ≡ true
    → other ≡ match_or (match_map by_override b) other
no_override m.None b other is none = ap (λ r. match_or (match_map by_override r) other) is
no_override (m.Ignore x) b other is none = absurd (cc (none))
no_override (m.Whitelist x) b other is none = absurd (cc (none))

module _ (text : Path) (hides : Bool) where
  -- a rule that ignores decides
  pub ignores : (a : Match Ruling) (ranks : Match Sited) (types : Match (Option TypeGlob)) → match_map (sited_of text) a ≡ ranks → is_ignore a ≡ true
      → match_map (λ r. by_rule (sited_of text r)) a ≡ file_why ranks types hides
  ignores m.None ranks types is said = absurd (cc (said))
  ignores (m.Ignore x) ranks types is said = ap (λ r. file_why r types hides) is
  ignores (m.Whitelist x) ranks types is said = absurd (cc (said))

  -- else a type decides
  pub typed : (a : Match Ruling) (ranks : Match Sited) (t types : Match (Option TypeGlob)) → match_map (sited_of text) a ≡ ranks → is_ignore a ≡ false
      → t ≡ types → is_none t ≡ false → match_map by_type t ≡ file_why ranks types hides
  typed (m.Ignore x) ranks t types is denied same some = absurd (cc (denied))
  typed m.None ranks m.None types is denied same some = absurd (cc (some))
  typed m.None ranks (m.Ignore k) types is denied same some = rw (← is, ← same) refl
  typed m.None ranks (m.Whitelist k) types is denied same some = rw (← is, ← same) refl
  typed (m.Whitelist x) ranks m.None types is denied same some = absurd (cc (some))
  typed (m.Whitelist x) ranks (m.Ignore k) types is denied same some = rw (← is, ← same) refl
  typed (m.Whitelist x) ranks (m.Whitelist k) types is denied same some = rw (← is, ← same) refl

  -- else a hidden name, where no rule matches
  pub named : (a : Match Ruling) (ranks : Match Sited) (t types : Match (Option TypeGlob)) → match_map (sited_of text) a ≡ ranks → is_none a ≡ true
      → t ≡ types → is_none t ≡ true → cond hides (m.Ignore by_name) m.None ≡ file_why ranks types hides
  named m.None ranks m.None types is none same none' = rw (← is, ← same) refl
  named m.None ranks (m.Ignore k) types is none same none' = absurd (cc (none'))
  named m.None ranks (m.Whitelist k) types is none same none' = absurd (cc (none'))
  named (m.Ignore x) ranks t types is none same none' = absurd (cc (none))
  named (m.Whitelist x) ranks t types is none same none' = absurd (cc (none))

  -- else a rule that whitelists
  pub whitelists : (a : Match Ruling) (ranks : Match Sited) (t types : Match (Option TypeGlob)) → match_map (sited_of text) a ≡ ranks
      → is_ignore a ≡ false → is_none a ≡ false → t ≡ types → is_none t ≡ true
      → match_map (λ r. by_rule (sited_of text r)) a ≡ file_why ranks types hides
  whitelists (m.Ignore x) ranks t types is denied some same none = absurd (cc (denied))
  whitelists m.None ranks t types is denied some same none = absurd (cc (some))
  whitelists (m.Whitelist x) ranks m.None types is denied some same none = rw (← is, ← same) refl
  whitelists (m.Whitelist x) ranks (m.Ignore k) types is denied some same none = absurd (cc (none))
  whitelists (m.Whitelist x) ranks (m.Whitelist k) types is denied some same none = absurd (cc (none))

pub verdict-map : {T U : Type 0} (f : T → U) (a : Match T) → verdict_of (match_map f a) ≡ verdict_of a
verdict-map f m.None = refl
verdict-map f (m.Ignore x) = refl
verdict-map f (m.Whitelist x) = refl

file-verdict : (ranks : Match Sited) (types : Match (Option TypeGlob)) (hides : Bool)
    → verdict_of (file_why ranks types hides) ≡ without_override (verdict_of ranks) (verdict_of types) hides
file-verdict (m.Ignore x) types hides = refl
file-verdict (m.Whitelist x) m.None hides = refl
file-verdict (m.Whitelist x) (m.Ignore k) hides = refl
file-verdict (m.Whitelist x) (m.Whitelist k) hides = refl
file-verdict m.None m.None true = refl
file-verdict m.None m.None false = refl
file-verdict m.None (m.Ignore k) hides = refl
file-verdict m.None (m.Whitelist k) hides = refl

or-verdict : (a : Match (Option Rule)) (other : Match Why)
    → verdict_of (match_or (match_map by_override a) other) ≡ or_else (verdict_of a) (verdict_of other)
or-verdict m.None other = refl
or-verdict (m.Ignore x) other = refl
or-verdict (m.Whitelist x) other = refl

-- The rule that decides is the one by which the ranks answer.

map-or : {T U : Type 0} (f : T → U) (a b : Match T) → match_map f (match_or a b) ≡ match_or (match_map f a) (match_map f b)
map-or f m.None b = refl
map-or f (m.Ignore x) b = refl
map-or f (m.Whitelist x) b = refl

or-none : {T : Type 0} (a : Match T) → match_or a m.None ≡ a
or-none m.None = refl
or-none (m.Ignore x) = refl
or-none (m.Whitelist x) = refl

abbrev rule_in : Sited → Rule
rule_in s = s.rule

sited-rule : (site : Site) (a : Match Rule) → match_map rule_in (match_map (sited site) a) ≡ a
sited-rule site m.None = refl
sited-rule site (m.Ignore x) = refl
sited-rule site (m.Whitelist x) = refl

nearest-rule : (rank : Rank) (chain : List Asked) (is_dir : Bool)
    → match_map rule_in (nearest_sited rank chain is_dir) ≡ nearest rank chain is_dir
nearest-rule rank [] is_dir = refl
nearest-rule rank (link ∷ chain) is_dir =
    map-or rule_in (dir_sited rank is_dir link) (nearest_sited rank chain is_dir)
    ∙ (ap (λ a. match_or a (match_map rule_in (nearest_sited rank chain is_dir)))
    (sited-rule (in_directory rank link.1) (dir_answer rank is_dir link))
    ∙ ap (match_or (dir_answer rank is_dir link)) (nearest-rule rank chain is_dir))

git-rule : (global : Ruleset) (chain : List Asked) (path : Path) (is_dir : Bool)
    → match_map rule_in (git_sited global chain path is_dir) ≡ git_answer global chain path is_dir
git-rule global chain path is_dir =
    let two = match_map (sited in_global) (rules_answer path is_dir global) in
    let one = match_or (nearest_sited Exclude chain is_dir) two in
    map-or rule_in (nearest_sited Gitignore chain is_dir) one
    ∙ (ap (λ a. match_or a (match_map rule_in one)) (nearest-rule Gitignore chain is_dir)
    ∙ ap (match_or (nearest Gitignore chain is_dir)) (map-or rule_in (nearest_sited Exclude chain is_dir) two
    ∙ (ap (λ a. match_or a (match_map rule_in two)) (nearest-rule Exclude chain is_dir)
    ∙ ap (match_or (nearest Exclude chain is_dir)) (sited-rule in_global (rules_answer path is_dir global)
    ∙ sym (or-none (rules_answer path is_dir global))))))

when-rule : (b : Bool) (a : Match Sited) (other : Match Rule) → match_map rule_in a ≡ other
    → match_map rule_in (cond b a m.None) ≡ cond b other m.None
when-rule true a other is = is
when-rule false a other is = refl

pub ranks-rule : (s : Settings) (o : Outside) (chain : List Asked) (path : Path) (is_dir : Bool)
    → match_map rule_in (ranks_sited s o chain path is_dir) ≡ ranks_answer s o chain path is_dir
ranks-rule s o chain path is_dir =
    let last = explicit_answer o.explicit (trim_of path) is_dir in
    let three = match_map (sited in_explicit) last in
    let git = git_ranks_sited s o.global chain (trim_of path) is_dir in
    let two = match_or git three in
    let one = match_or (nearest_sited Ignore chain is_dir) two in
    map-or rule_in (nearest_sited Custom chain is_dir) one
    ∙ (ap (λ a. match_or a (match_map rule_in one)) (nearest-rule Custom chain is_dir)
    ∙ ap (match_or (nearest Custom chain is_dir)) (map-or rule_in (nearest_sited Ignore chain is_dir) two
    ∙ (ap (λ a. match_or a (match_map rule_in two)) (nearest-rule Ignore chain is_dir)
    ∙ ap (match_or (nearest Ignore chain is_dir)) (map-or rule_in git three
    ∙ (ap (λ a. match_or a (match_map rule_in three))
    (when-rule (has_git s chain) (git_sited o.global (cut chain) (trim_of path) is_dir) _ (git-rule o.global (cut chain) (trim_of path) is_dir))
    ∙ ap (match_or (git_ranks s o.global chain (trim_of path) is_dir)) (sited-rule in_explicit last ∙ sym (or-none last)))))))

ranks_sited-verdict : (s : Settings) (o : Outside) (chain : List Asked) (path : Path) (is_dir : Bool)
    → verdict_of (ranks_sited s o chain path is_dir) ≡ verdict_of (ranks_answer s o chain path is_dir)
ranks_sited-verdict s o chain path is_dir =
    sym (verdict-map rule_in (ranks_sited s o chain path is_dir)) ∙ ap verdict_of (ranks-rule s o chain path is_dir)

-- the verdict is that of what decides
pub whole-verdict : (s : Settings) (o : Outside) (chain : List Asked) (path : Path) (is_dir : Bool)
    → verdict_of (why s o chain path is_dir) ≡ verdict s o chain path is_dir
whole-verdict s o chain path is_dir =
    let overridden = override_answer o.overrides (trim_of path) is_dir in
    let ranks = ranks_sited s o chain path is_dir in
    let types = type_answer o.types.choices is_dir (file_name_of (trim_of path)) in
    let hides = s.hidden && is_dotted (file_name_of path) in
    or-verdict overridden (file_why ranks types hides)
    ∙ ap (or_else (verdict_of overridden)) (file-verdict ranks types hides
    ∙ ap (λ v. without_override v (verdict_of types) hides) (ranks_sited-verdict s o chain path is_dir))

-- the same over a chain by offsets
pub why-verdict : (s : Settings) (o : Outside) (chain : List Placed) (text path : Path) (is_dir : Bool)
    → verdict_of (placed_why s o chain text path is_dir) ≡ placed_verdict s o chain text path is_dir
unfolding placed_why placed_verdict
why-verdict s o chain text path is_dir = whole-verdict s o (asked_in text chain) path is_dir

-- what decides has the verdict
pub decided : (s : Settings) (o : Outside) (chain : List Placed) (text path : Path) (is_dir : Bool) (a : Match Reason)
    → match_map (why_of text) a ≡ placed_why s o chain text path is_dir → verdict_of a ≡ placed_verdict s o chain text path is_dir
decided s o chain text path is_dir a is =
    sym (verdict-map (why_of text) a) ∙ (ap verdict_of is ∙ why-verdict s o chain text path is_dir)

pub if_ok-map : {T E : Type 0} (P Q : T → Type 0) (r : Result T E) → ((x : T) → P x → Q x) → IfOk r P → IfOk r Q
if_ok-map P Q (Ok x) to h = to x h
if_ok-map P Q (Err e) to h = h
