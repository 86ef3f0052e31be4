-- The rules of kept directories are those of their loads.
use Rattle.std.proofs.Common.{◌≡◌, ℕ, ◌+◌, ◌<◌, ◌==◌, Bool, true, false, not, cond, All, List, [], ◌∷◌, ◌++◌, Option, Some, None}
use Rattle.std.proofs.Common.{length, map, string_bytes, eqb-true, eq-eqb, refl, sym, ◌∙◌, ap, subst, arith}
use Rattle.std.proofs.lemmas.Bool.{false_from_ne_true, not-false, or_parts}
use Rattle.std.proofs.lemmas.List.{nil_from_length}
use Rattle.std.proofs.lemmas.List.Elements.{All-head, All-tail}
use Rattle.std.proofs.lemmas.Map.Views.{All-found}
use Rattle.std.specs.BTreeMap.{IsOrdered, get, get_by_text}
use Rattle.std.specs.List.{flat_map}
use Rattle.std.specs.String.{string_cmp, string_cmp_total}
use Rattle.ignore_base.specs.Paths.{IsName}
use Rattle.ignore_rules.specs.Rules.{Rule}
use Rattle.ignore_dir.specs.declared.dir.Dir.{Dir}
use Rattle.ignore_dir.specs.Above.{names_above, path_along}
use Rattle.ignore_dir.specs.Chains.{slashed}
use Rattle.ignore_dir.specs.Lists.{Placed}
use Rattle.ignore_dir.specs.Scene.{QueryScene, names_to}
use Rattle.ignore_levels.specs.Levels.{IsBelow, IsChain, counting, counts, has_rules, level_at, slots_of}
use Rattle.ignore_levels.specs.Levels.IsChain.{no_level, a_level}
use Rattle.ignore_levels.specs.declared.list.Level.{Level}
use Rattle.ignore_levels.specs.declared.list.Place.{Place}
use Rattle.ignore_levels.specs.declared.list.Slot.{Slot}
use Rattle.ignore_why.specs.Cited.{Named}
use Rattle.ignore_why.specs.declared.cause.RuleRank.TheVariants.{Custom, Ignore, Gitignore, Exclude}
use Rattle.ignore_query.specs.declared.kept.Cache.{Cache}
use Rattle.ignore_query.specs.declared.kept.Kept.{Kept}
use Rattle.ignore_query.specs.declared.kept.Kept.TheVariants.{Ignored, Loaded}
use Rattle.ignore_query.specs.Agrees.{Agrees, IsNext}
use Rattle.ignore_query.specs.Forget.{kept_dirs}
use Rattle.ignore_query.specs.KeptRules.{kept_rules, level_from, named_in, own_level, rules_at, rules_in, rules_kept, rules_of}
use Rattle.ignore_query.specs.Keys.{IsKey, names_in}
use Rattle.ignore_query.specs.Listed.{kept_at}
use Rattle.ignore_query.proofs.ChainLemmas.{slashed-append, text-length}
use Rattle.ignore_query.proofs.CountLemmas.{keys_sure, names_are}
use Rattle.ignore_query.proofs.EntryLemmas.{Entry}
use Rattle.ignore_query.proofs.GrowLemmas.{EntryLaw, Parent, RootLaw, here, parent_of}
use Rattle.ignore_query.proofs.KeepLemmas.{Ends, ends, last, none}
use Rattle.ignore_query.proofs.WayLemmas.{no_last}
use Rattle.ignore_query.proofs.WhyLemmas.{parent_next}

-- A directory that doesn't count has no rules.

no_rules : (rules : List Rule) → not (length rules == 0) ≡ false → rules ≡ []
no_rules rules h = nil_from_length rules (eqb-true (length rules) 0 (not-false (length rules == 0) h))

none_in : (path : List ℕ) (dir : Dir) → counts dir ≡ false → rules_in path dir ≡ []
none_in path dir h =
    let a = or_parts (not (length dir.custom.rules == 0)) _ (or_parts (has_rules dir) dir.mark h).0 in
    let b = or_parts (not (length dir.ignore.rules == 0)) _ a.1 in
    let d = or_parts (not (length dir.gitignore.rules == 0)) _ b.1 in
    let name = named_in path in
    ap (λ (l : List Rule). map (name Custom) l ++ (map (name Ignore) dir.ignore.rules ++ (map (name Gitignore) dir.gitignore.rules
    ++ map (name Exclude) dir.exclude.rules))) (no_rules dir.custom.rules a.0)
    ∙ (ap (λ (l : List Rule). map (name Ignore) l ++ (map (name Gitignore) dir.gitignore.rules ++ map (name Exclude) dir.exclude.rules))
    (no_rules dir.ignore.rules b.0)
    ∙ (ap (λ (l : List Rule). map (name Gitignore) l ++ map (name Exclude) dir.exclude.rules) (no_rules dir.gitignore.rules d.0)
    ∙ ap (λ (l : List Rule). map (name Exclude) l) (no_rules dir.exclude.rules d.1)))

-- The level at the place of a chain.

record FirstLevel (slots : List Slot) (place : Option Place) (p : Placed) : Type 0 where
  at : Place
  level : Level
  is : place ≡ Some at
  found : level_at slots at ≡ Some level
  dir : level.dir ≡ p.0
  offset : level.offset ≡ p.1

first_level : (slots : List Slot) (place : Option Place) (chain : List Placed) → IsChain slots place chain → (p : Placed) (rest : List Placed)
    → chain ≡ p ∷ rest → FirstLevel slots place p
first_level slots _ _ no_level p rest is = absurd (cc (is))
first_level slots _ _ (a_level {place} {level} e below ruled mark more) p rest is =
    let same : (level.dir, level.offset) ≡ p = cc (is) in
    record { at = place; level = level; is = refl; found = e; dir = ap (λ x. x.0) same; offset = ap (λ x. x.1) same }

own : (c : Cache) (key : List ℕ) (place : Option Place) (p : Placed) (f : FirstLevel (slots_of c.levels) place p)
    → p.1 ≡ length (string_bytes c.base) + length key → own_level c key (Loaded place) ≡ Some f.level
own c key place p f e =
    let n = length (string_bytes c.base) + length key in
    ap (λ x. own_level c key (Loaded x)) f.is
    ∙ (ap (level_from n) f.found ∙ ap (λ b. cond b (Some f.level) None) (eq-eqb f.level.offset n (f.offset ∙ e)))

lesser : (level : Level) (n : ℕ) → level.offset < n → level_from n (Some level) ≡ None
lesser level n lt = ap (λ b. cond b (Some level) None) (false_from_ne_true (level.offset == n) (λ h. let e = eqb-true level.offset n h in omega (arith, e, lt)))

not_own : (c : Cache) (key : List ℕ) (place : Option Place) (chain : List Placed) → IsChain (slots_of c.levels) place chain
    → IsBelow (length (string_bytes c.base) + length key) chain → own_level c key (Loaded place) ≡ None
not_own c key _ _ no_level below = refl
not_own c key _ _ (a_level {place} {level} e under ruled mark more) below =
    let n = length (string_bytes c.base) + length key in ap (level_from n) e ∙ lesser level n below

-- One kept directory.

next_of : (g : QueryScene) (c : Cache) (names : List (List ℕ)) (k : Kept) → Agrees g c → All IsName names → kept_at c names ≡ Some k → Ends names
    → (place : Option Place) × IsNext c names place
next_of g c names k a named kept (none e) = (
  c.above,
  record {
    rooted = a.first names k kept;
    top = λ _. refl;
    inside = λ front name is. absurd (no_last front name (sym e ∙ is));
  },
)
next_of g c names k a named kept (last front name e) =
    let p = a.inside names k named kept front name e in
    (p.0, parent_next g c names front name (Loaded p.0) p.0 a e p.1 refl)

module _ (g : QueryScene) (c : Cache) (root : RootLaw g) (entry : EntryLaw g) (a : Agrees g c) where
  one_loaded : (names : List (List ℕ)) (k : Kept) → All IsName names → kept_at c names ≡ Some k → rules_kept c (slashed names) k ≡ rules_of g names
  one_loaded names Ignored named kept =
      let dir = (g.loads (path_along g.root names)).0 in
      sym (ap (λ b. cond b [] (rules_in (47 ∷ slashed (names_to g names)) dir)) (a.right names Ignored named kept))
  one_loaded names (Loaded place) named kept =
      let dir = (g.loads (path_along g.root names)).0 in
      let path = string_bytes c.base ++ slashed names in
      let top = 47 ∷ slashed (names_to g names) in
      let right = a.right names (Loaded place) named kept in
      let has = a.first names (Loaded place) kept in
      let next = next_of g c names (Loaded place) a named kept (ends names) in
      let p : Parent g c names next.0 = parent_of g c names next.0 root entry a named next.1 (ends names) in
      let size = text-length g c names a has in
      let same : path ≡ top = ap (λ t. t ++ slashed names) (a.above has).base
      ∙ ap (λ (t : List ℕ). 47 ∷ t) (sym (slashed-append (names_above g.tree g.settings g.root) names)) in
      let chain : IsChain (slots_of c.levels) place (counting (here g names ∷ p.chain)) =
      subst (IsChain (slots_of c.levels) place) (sym (ap counting p.whole)) right.1 in
      let by : (b : Bool) → counts dir ≡ b → IsChain (slots_of c.levels) place (cond b (here g names ∷ counting p.chain) (counting p.chain))
      → rules_at path (own_level c (slashed names) (Loaded place)) ≡ rules_in top dir =
      λ x. elim x as (λ b. counts dir ≡ b → IsChain (slots_of c.levels) place (cond b (here g names ∷ counting p.chain) (counting p.chain))
      → rules_at path (own_level c (slashed names) (Loaded place)) ≡ rules_in top dir) [
        | true ↦ λ e ch.
            let f = first_level (slots_of c.levels) place _ ch (here g names) (counting p.chain) refl in
            ap (rules_at path) (own c (slashed names) place (here g names) f (sym size))
            ∙ (ap (rules_in path) f.dir ∙ ap (λ t. rules_in t dir) same)
        | false ↦ λ e ch.
            ap (rules_at path) (not_own c (slashed names) place (counting p.chain) ch (subst (λ n. IsBelow n (counting p.chain)) (sym size) p.below))
            ∙ sym (none_in top dir e)
      ] in
      by (counts dir) refl chain ∙ sym (ap (λ b. cond b [] (rules_in top dir)) right.0)

  entry_loaded : (e : Entry) → IsKey (string_bytes e.0) → get_by_text c.dirs.map (string_bytes e.0) ≡ Some e.1
      → rules_kept c (string_bytes e.0) e.1 ≡ rules_of g (names_in (string_bytes e.0))
  entry_loaded e k found =
      ap (λ t. rules_kept c t e.1) k.2
      ∙ (one_loaded k.0 e.1 k.1 (ap (λ t. get_by_text c.dirs.map t) (sym k.2) ∙ found) ∙ ap (rules_of g) (sym (names_are (string_bytes e.0) k)))

  entries_loaded : (es : List Entry) → All (λ e. IsKey (string_bytes e.0)) es
      → All (λ e. get string_cmp c.dirs.map e.0 ≡ Some e.1) es
      → flat_map (λ e. rules_kept c (string_bytes e.0) e.1) es ≡ flat_map (rules_of g) (map (λ e. names_in (string_bytes e.0)) es)
  entries_loaded [] keys found = refl
  entries_loaded (e ∷ es) keys found =
      let K : Entry → Type 0 = λ x. IsKey (string_bytes x.0) in
      let F : Entry → Type 0 = λ x. get string_cmp c.dirs.map x.0 ≡ Some x.1 in
      ap (λ (l : List Named). l ++ flat_map (λ x. rules_kept c (string_bytes x.0) x.1) es)
      (entry_loaded e (All-head K e es keys) (All-head F e es found))
      ∙ ap (λ (l : List Named). rules_of g (names_in (string_bytes e.0)) ++ l) (entries_loaded es (All-tail K e es keys) (All-tail F e es found))

  pub all_loaded : IsOrdered string_cmp c.dirs.map → kept_rules c ≡ flat_map (rules_of g) (kept_dirs c)
  all_loaded ordered = entries_loaded c.dirs.map.entries (keys_sure c ordered) (All-found string_cmp_total c.dirs.map ordered)
