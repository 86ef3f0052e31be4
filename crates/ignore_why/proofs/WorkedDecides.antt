-- Worked: which rules decide on `/t/a`. Two rules `a` stand in one list, on the lines 1 and 2; the
-- second whitelists, and is the last that applies.
use Rattle.std.proofs.Common.{◌≡◌, ℕ, true, false, Bool, All, List, [], ◌∷◌, ◌++◌, codes, Option, None, Some, inl, inr, refl, sym, subst, ap, ◌∙◌, arith}
use Rattle.std.specs.Str.{chars}
use Rattle.ignore_base.specs.Match.{inner}
use Rattle.ignore_base.specs.Paths.{below, strip_prefix_of, trim_of}
use Rattle.ignore_base.specs.Text.{Bytes, Chars}
use Rattle.ignore_base.specs.declared.match_result.Match.{Match}
use Rattle.ignore_base.specs.declared.match_result.Match.TheVariants as m
use Rattle.ignore_glob.specs.DoesMatch.{does_match}
use Rattle.ignore_types.specs.TypeMatch.{no_types}
use Rattle.ignore_rules.specs.Answer.{Applies, IsLast, list_answer}
use Rattle.ignore_rules.specs.Rules.{Rule, Ruleset, empty}
use Rattle.ignore_dir.specs.declared.dir.Dir.{Dir}
use Rattle.ignore_dir.specs.declared.dir.Rank.{Rank}
use Rattle.ignore_dir.specs.declared.dir.Rank.TheVariants.{Custom, Ignore, Gitignore, Exclude}
use Rattle.ignore_dir.specs.declared.outside.Outside.{Outside}
use Rattle.ignore_dir.specs.Above.{path_along}
use Rattle.ignore_dir.specs.Lists.{Asked, list_of}
use Rattle.ignore_dir.specs.Ranks.{rules_answer}
use Rattle.ignore_dir.specs.Scene.{QueryScene, chain}
use Rattle.ignore_levels.specs.Reasons.Why.{by_rule}
use Rattle.ignore_levels.specs.Sites.{Site, Sited, in_directory, in_explicit, in_global, nearest_sited, sited}
use Rattle.ignore_why.specs.Decides.{AloneDecides, Decides, FirstRankDecides, IsLastOf, StandsInFile, reach}
use Rattle.ignore_why.specs.QueryWhy.{path_why}
use Rattle.ignore_why.proofs.WorkedWhy.{only, rule, rules, settings}

abbrev one : Rule
one = rule (only 97) 97 1 false

abbrev two : Rule
two = rule (only 97) 97 2 true

abbrev both : Ruleset
both = rules (one ∷ two ∷ [])

-- a directory at which a repository begins, with both rules in the list of a rank
abbrev listed : Rank → Dir
listed Custom = record { custom = both; ignore = empty; gitignore = empty; exclude = empty; mark = true }
listed Ignore = record { custom = empty; ignore = both; gitignore = empty; exclude = empty; mark = true }
listed Gitignore = record { custom = empty; ignore = empty; gitignore = both; exclude = empty; mark = true }
listed Exclude = record { custom = empty; ignore = empty; gitignore = empty; exclude = both; mark = true }

abbrev of : Rank → List Asked
of rank = (listed rank, codes "a") ∷ []

-- a repository without rules
abbrev bare : Dir
bare = record { custom = empty; ignore = empty; gitignore = empty; exclude = empty; mark = true }

abbrev around : Ruleset → List Ruleset → Outside
around global files = record { overrides = empty; types = no_types; global = global; explicit = files }

-- a rule at a site decides on `/t/a`, by the rules from outside and a chain
abbrev On : Outside → List Asked → Site → Rule → Type 0
On o links site r = Decides (settings None None) o links (codes "/t/a") false (sited site r)

-- a rule of the list of a rank in `/t`
abbrev at : Rank → Site
at rank = in_directory rank (codes "a")

none_matches : (x : Sited) → let a : Match Sited = m.Whitelist x in a ≡ m.None → ⊥
none_matches x h = cc (h)

-- where a custom file has a match, no rule of a later rank decides; nor after a match of `.ignore`,
-- of `.gitignore`, of the exclude file and of the global file

pub custom_first : let o = around empty [] in (r : Rule) → (On o (of Custom) (at Ignore) r → ⊥) × (On o (of Custom) (at Gitignore) r → ⊥)
    × (On o (of Custom) (at Exclude) r → ⊥) × (On o (of Custom) in_global r → ⊥) × (On o (of Custom) in_explicit r → ⊥)
unfolding does_match chars
custom_first r = (
  λ d. none_matches _ d.first.0,
  λ d. none_matches _ d.first.0,
  λ d. none_matches _ d.first.0,
  λ d. none_matches _ d.first.0,
  λ d. none_matches _ d.first.0,
)

pub ignore_second : let o = around empty [] in (r : Rule) → (On o (of Ignore) (at Gitignore) r → ⊥) × (On o (of Ignore) (at Exclude) r → ⊥)
    × (On o (of Ignore) in_global r → ⊥) × (On o (of Ignore) in_explicit r → ⊥)
unfolding does_match chars
ignore_second r = (
  λ d. none_matches _ d.first.1.0,
  λ d. none_matches _ d.first.1.0,
  λ d. none_matches _ d.first.1.0,
  λ d. none_matches _ d.first.1.0,
)

pub git_third : let o = around empty [] in (r : Rule) → (On o (of Gitignore) (at Exclude) r → ⊥) × (On o (of Gitignore) in_global r → ⊥)
    × (On o (of Exclude) in_global r → ⊥) × (On o (of Gitignore) in_explicit r → ⊥) × (On o (of Exclude) in_explicit r → ⊥)
unfolding does_match chars
git_third r = (
  λ d. none_matches _ d.first.1.1.0,
  λ d. none_matches _ d.first.1.1.0,
  λ d. none_matches _ d.first.1.1.1.0,
  λ d. none_matches _ d.first.1.1.0,
  λ d. none_matches _ d.first.1.1.0,
)

pub global_before_named : (r : Rule) → On (around both []) ((bare, codes "a") ∷ []) in_explicit r → ⊥
unfolding does_match chars below strip_prefix_of
global_before_named r d = none_matches _ d.first.1.1.0

-- in a list the last rule that applies decides, and not one before it

applies : Applies (codes "a") false two
applies = (inl refl, inr (codes "a", [], refl, (97, refl, refl), refl))

nothing_after : All (λ later. Applies (codes "a") false later → ⊥) []
nothing_after k d short = absurd (omega (arith, short))

other_line : one ≡ two → ⊥
other_line h = numbers (ap (λ (r : Rule). r.line) h)
  where
    numbers : let l : Option ℕ = Some 1 in l ≡ Some 2 → ⊥
    numbers e = cc (e)

tail_of : {X : Type 0} (x y : X) (xs ys : List X) → x ∷ xs ≡ y ∷ ys → xs ≡ ys
tail_of x y xs ys h = cc (h)

head_of : {X : Type 0} (x y : X) (xs ys : List X) → x ∷ xs ≡ y ∷ ys → x ≡ y
head_of x y xs ys h = cc (h)

not_empty : {X : Type 0} (y : X) (front back : List X) → [] ≡ front ++ y ∷ back → ⊥
not_empty y [] back h = cc (h)
not_empty y (f ∷ front) back h = cc (h)

not_the_first : (front back : List Rule) → one ∷ two ∷ [] ≡ front ++ one ∷ back → All (λ later. Applies (codes "a") false later → ⊥) back → ⊥
not_the_first [] back place last =
    let after = sym (tail_of one one (two ∷ []) back place) in
    subst (λ (l : List Rule). All (λ later. Applies (codes "a") false later → ⊥) l) after last 0 one (omega arith) applies
not_the_first (f ∷ []) back place last =
    other_line (sym (head_of two one [] back (tail_of one f (two ∷ []) (one ∷ back) place)))
not_the_first (f ∷ (k ∷ front)) back place last =
    not_empty one front back (tail_of two k [] (front ++ one ∷ back) (tail_of one f (two ∷ []) (k ∷ (front ++ one ∷ back)) place))

pub last_of_both : (IsLastOf both (codes "/t/a") false two) × (IsLastOf both (codes "/t/a") false one → ⊥)
unfolding chars below strip_prefix_of
last_of_both = (
  record { before = one ∷ []; after = []; place = refl; applies = applies; last = nothing_after },
  λ h. not_the_first h.before h.after h.place h.last,
)

-- the same in the global file, where no directory has a match
pub in_the_global_file : (On (around both []) [] in_global two) × (On (around both []) [] in_global one → ⊥)
in_the_global_file = (record { first = (refl, (refl, (refl, (refl, tt)))); stands = last_of_both.0 }, λ d. last_of_both.1 d.stands)

-- of two files that were added by name, a rule of the later one decides, and none of the earlier one

abbrev files : List Ruleset
files = rules (one ∷ []) ∷ rules (two ∷ []) ∷ []

alone : IsLastOf (rules (two ∷ [])) (codes "/t/a") false two
unfolding chars below strip_prefix_of
alone = record { before = []; after = []; place = refl; applies = applies; last = nothing_after }

not_alone : (front back : List Rule) → two ∷ [] ≡ front ++ one ∷ back → ⊥
not_alone [] back place = other_line (sym (head_of two one [] back place))
not_alone (f ∷ front) back place = not_empty one front back (tail_of two f [] (front ++ one ∷ back) place)

later_file : (h : StandsInFile (rules (two ∷ []) ∷ rules (one ∷ []) ∷ []) (codes "/t/a") false one) (later : List Ruleset) → h.later ≡ later → ⊥
unfolding does_match chars below strip_prefix_of
later_file h [] is =
    let first = head_of (rules (two ∷ [])) h.file (rules (one ∷ []) ∷ []) h.earlier
    (h.split ∙ ap (λ (l : List Ruleset). l ++ h.file ∷ h.earlier) is) in
    let place = ap (λ (f : Ruleset). f.rules) first ∙ h.last.place in
    not_alone h.last.before h.last.after place
later_file h (f ∷ later) is =
    let first = head_of (rules (two ∷ [])) f (rules (one ∷ []) ∷ []) (later ++ h.file ∷ h.earlier)
    (h.split ∙ ap (λ (l : List Ruleset). l ++ h.file ∷ h.earlier) is) in
    let none = subst (λ (l : List Ruleset). All (λ x. rules_answer (codes "/t/a") false x ≡ m.None) l) is h.none 0 f (omega arith) in
    answered (ap (rules_answer (codes "/t/a") false) first ∙ none)
  where
    answered : rules_answer (codes "/t/a") false (rules (two ∷ [])) ≡ m.None → ⊥
    answered h = cc (h)

pub in_named_files : (On (around empty files) [] in_explicit two) × (On (around empty files) [] in_explicit one → ⊥)
unfolding does_match chars below strip_prefix_of
in_named_files = (
  record {
    first = (refl, (refl, (refl, tt)));
    stands = record {
      later = [];
      file = rules (two ∷ []);
      earlier = rules (one ∷ []) ∷ [];
      split = refl;
      none = λ k d short. absurd (omega (arith, short));
      last = alone;
    };
  },
  λ d. later_file d.stands d.stands.later refl,
)

-- git's ranks reach to the nearest mark, and the other ranks beyond it
pub reaches : let links = (bare, codes "a") ∷ of Gitignore in (reach Gitignore links ≡ (bare, codes "a") ∷ [])
    × (reach Exclude links ≡ (bare, codes "a") ∷ []) × (reach Custom links ≡ links) × (reach Ignore links ≡ links)
reaches = (refl, refl, refl, refl)

-- so no rule of a `.gitignore` above a mark decides

bare_alone : (link : Asked) (near far : List Asked) → (bare, codes "a") ∷ [] ≡ near ++ link ∷ far → (r : Rule)
    → IsLast (list_of Gitignore link.0).rules (chars link.1) false r → ⊥
bare_alone link [] far split r last =
    let is = head_of (bare, codes "a") link [] far split in
    not_empty r last.before last.after (ap (λ (l : Asked). l.0.gitignore.rules) is ∙ last.place)
bare_alone link (n ∷ near) far split r last = absurd (not_empty link near far (tail_of (bare, codes "a") n [] (near ++ link ∷ far) split))

pub not_above_a_mark : (r : Rule) → On (around empty []) ((bare, codes "a") ∷ of Gitignore) (at Gitignore) r → ⊥
not_above_a_mark r d = bare_alone d.stands.link d.stands.nearer d.stands.farther d.stands.split r d.stands.last

-- what the laws say: where a rule of the global file decides, no directory has a match for a custom
-- file, and it is the last that applies; and a rule that decides gives its list's answer alone

pub of_the_global_file : FirstRankDecides → (g : QueryScene) (names : List Bytes) (is_dir : Bool) (r : Rule)
    → path_why g names is_dir ≡ m.Ignore (by_rule (sited in_global r))
    → (nearest_sited Custom (chain g names) is_dir ≡ m.None) × IsLastOf g.outside.global (trim_of (path_along g.root names)) is_dir r
of_the_global_file law g names is_dir r h =
    let d = law g names is_dir (sited in_global r) (ap inner h) in
    (d.first.0, d.stands)

pub answers_alone : AloneDecides → (list : List Rule) (text : Chars) (is_dir : Bool) (r : Rule) → list_answer list text is_dir ≡ m.Whitelist r
    → list_answer (r ∷ []) text is_dir ≡ m.Whitelist r
answers_alone law list text is_dir r h = law list text is_dir r (ap inner h) ∙ h
