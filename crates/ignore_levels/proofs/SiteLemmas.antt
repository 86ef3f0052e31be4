-- The rule that a site names is the one that decides.
use Rattle.std.proofs.Common.{◌≡◌, zero, suc, Bool, List, [], ◌∷◌, All, Some, refl, sym, ap, subst, arith}
use Rattle.std.specs.Str.{chars}
use Rattle.ignore_base.specs.Match.{inner, match_map, match_or}
use Rattle.ignore_base.specs.declared.match_result.Match.{Match}
use Rattle.ignore_base.specs.declared.match_result.Match.TheVariants as m
use Rattle.ignore_rules.specs.Answer.{AnswersByTheLast, IsAnswer, IsLast}
use Rattle.ignore_rules.specs.Rules.{Rule}
use Rattle.ignore_dir.specs.declared.dir.Rank.{Rank}
use Rattle.ignore_dir.specs.Lists.{Asked, list_of}
use Rattle.ignore_dir.specs.Ranks.{dir_answer}
use Rattle.ignore_levels.specs.Sites.{NearestDecides, Sited, StandsIn, in_directory, nearest_sited, sited}

cons_all : {A : Type 0} (P : A → Type 0) (x : A) (xs : List A) → P x → All P xs → All P (x ∷ xs)
cons_all P x xs p h zero d lt = p
cons_all P x xs p h (suc k) d lt = h k d (omega (arith, lt))

nothing_all : {A : Type 0} (P : A → Type 0) → All P []
nothing_all P k d lt = absurd (omega (arith, lt))

here : (rank : Rank) (l : Asked) (chain : List Asked) (is_dir : Bool) (s : Sited) (r : Rule) → sited (in_directory rank l.1) r ≡ s
    → IsLast (list_of rank l.0).rules (chars l.1) is_dir r → StandsIn rank (l ∷ chain) is_dir s
here rank l chain is_dir s r is last = record {
  nearer = [];
  link = l;
  farther = chain;
  split = refl;
  none = nothing_all (λ x. dir_answer rank is_dir x ≡ m.None);
  site = sym (ap (λ (x : Sited). x.site) is);
  last = subst (λ (x : Sited). IsLast (list_of rank l.0).rules (chars l.1) is_dir x.rule) is last;
}

step : AnswersByTheLast → (rank : Rank) (l : Asked) (chain : List Asked) (is_dir : Bool) (s : Sited) (a : Match Rule)
    → dir_answer rank is_dir l ≡ a
    → inner (match_or (match_map (sited (in_directory rank l.1)) a) (nearest_sited rank chain is_dir)) ≡ Some s
    → (inner (nearest_sited rank chain is_dir) ≡ Some s → StandsIn rank chain is_dir s) → StandsIn rank (l ∷ chain) is_dir s
step law rank l chain is_dir s m.None is h more =
    let r = more h in
    record {
      nearer = l ∷ r.nearer;
      link = r.link;
      farther = r.farther;
      split = ap (λ (c : List Asked). l ∷ c) r.split;
      none = cons_all (λ x. dir_answer rank is_dir x ≡ m.None) l r.nearer is r.none;
      site = r.site;
      last = r.last;
    }
step law rank l chain is_dir s (m.Ignore r) is h more =
    let same : sited (in_directory rank l.1) r ≡ s = cc (h) in
    here rank l chain is_dir s r same
    (subst (IsAnswer (list_of rank l.0).rules (chars l.1) is_dir) is (law (list_of rank l.0).rules (chars l.1) is_dir)).0
step law rank l chain is_dir s (m.Whitelist r) is h more =
    let same : sited (in_directory rank l.1) r ≡ s = cc (h) in
    here rank l chain is_dir s r same
    (subst (IsAnswer (list_of rank l.0).rules (chars l.1) is_dir) is (law (list_of rank l.0).rules (chars l.1) is_dir)).0

pub nearest-decides : AnswersByTheLast → NearestDecides
nearest-decides law rank [] is_dir s h = absurd (cc (h))
nearest-decides law rank (l ∷ chain) is_dir s h =
    step law rank l chain is_dir s (dir_answer rank is_dir l) refl h (nearest-decides law rank chain is_dir s)
