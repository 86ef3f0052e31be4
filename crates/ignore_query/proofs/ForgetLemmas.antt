-- What is kept after some directories were forgotten, also for another tree.
use Rattle.std.proofs.Common.{◌≡◌, ◌≢◌, ℕ, zero, suc, ◌-◌, ◌<◌, ◌≤◌, take, Bool, true, false, not, ◌&&◌, ◌||◌, All, List, [], ◌∷◌, ◌++◌, length}
use Rattle.std.proofs.Common.{get_or, cond, filter, reverse, Option, Some, None, refl, sym, ◌∙◌, ap, subst, append_assoc}
use Rattle.std.proofs.Common.{string_bytes, nat_eq, eqb, eqb-true, eq-eqb, arith}
use Rattle.std.proofs.lemmas.List.{append-nil}
use Rattle.std.proofs.lemmas.List.Splits.{join_with_byte-slice_split}
use Rattle.std.proofs.Math.Dec.{eqb-suc-zero}
use Rattle.std.proofs.Math.Logic.{∥∥₁_elim}
use Rattle.std.specs.Cmp.{both_ways}
use Rattle.std.specs.List.{list_all, starts_with}
use Rattle.std.specs.Map.{lookup}
use Rattle.std.specs.Str.{bytes_eq}
use Rattle.std.specs.BTreeMap.{get_by_text}
use mathlib.Core.HLevel.{⊥_prop}
use Rattle.std.proofs.lemmas.Map.Text.{is_eq-slice_cmp}
use Rattle.std.proofs.lemmas.Slice.Eq.{bytes_eq-Decides}
use Rattle.ignore_base.specs.Paths.{IsName, components, is_proper, join_of, joined}
use Rattle.ignore_base.proofs.CleanLemmas.{names-components}
use Rattle.ignore_dir.proofs.ChainLemmas.{slashed-more}
use Rattle.ignore_dir.specs.declared.dir.Dir.{Dir}
use Rattle.ignore_dir.specs.Above.{canonical_names, directories_along, dirs_above, names_above, needs_above, path_along, paths_above}
use Rattle.ignore_dir.specs.Chains.{placed_along, slashed}
use Rattle.ignore_dir.specs.Query.{is_clean, is_ignored, names_of}
use Rattle.ignore_dir.specs.Load.{Loaded as Load}
use Rattle.ignore_dir.specs.Scene.{QueryScene, asked_along, dirs_at, dirs_to, names_to, path_verdict}
use Rattle.ignore_dir.specs.Verdict.{is_ignore, verdict}
use Rattle.ignore_query.specs.declared.asked.Asked.{Asked as Shared}
use Rattle.ignore_query.specs.declared.kept.Cache.{Cache}
use Rattle.ignore_query.specs.declared.kept.Kept.{Kept}
use Rattle.ignore_query.specs.declared.kept.Kept.TheVariants.{Ignored, Loaded}
use Rattle.ignore_dir.specs.Lists.{Placed}
use Rattle.ignore_dir.specs.Steps.{reached_in}
use Rattle.ignore_levels.specs.Levels.{IsChain, Keeps, Passes, counting, floor_at, floor_of, slots_of}
use Rattle.ignore_levels.specs.Levels.Passes.{itself}
use Rattle.ignore_levels.specs.declared.list.Place.{Place}
use Rattle.ignore_levels.proofs.PassLemmas.{passed-level, passes-kept}
use Rattle.ignore_query.specs.Agrees.{Agrees, IsLoaded, IsRight, StandsFor, chain_above}
use Rattle.ignore_query.specs.Listed.{PassesAt, kept_at, key_down_to}
use Rattle.ignore_query.specs.Reached.{scene_of}
use Rattle.ignore_files.specs.Tree.{Tree}
use Rattle.ignore_query.specs.Forget.{IsOwn, IsSameKept, is_at_or_below, is_key_in, key_of}
use Rattle.ignore_query.proofs.ChainLemmas.{counting-most, front_names, loaded_front, path_along-more}
use Rattle.ignore_query.proofs.EntryLemmas.{Entry, at_text}
use Rattle.ignore_query.proofs.KeyLemmas.{Map}
use Rattle.ignore_query.proofs.KeepLemmas.{Ends, SameAbove, Whole, ends, head_whole, last, none, tail_names}
use Rattle.ignore_query.proofs.ListLemmas.{above-passed}

-- Keys that begin with a key.

and_true : (b : Bool) → (b && true) ≡ b
and_true true = refl
and_true false = refl

and_assoc : (a b d : Bool) → ((a && b) && d) ≡ (a && (b && d))
and_assoc true b d = refl
and_assoc false b d = refl

slash_test : (x : ℕ) → (nat_eq 47 x && true) ≡ eqb x 47
slash_test x = and_true (nat_eq 47 x)
    ∙ both_ways (nat_eq 47 x) (eqb x 47) (λ e. eq-eqb x 47 (sym (eqb-true 47 x e))) (λ e. eq-eqb 47 x (sym (eqb-true x 47 e)))

pub key_longer : (key dir : List ℕ) → length dir < length key
    → starts_with nat_eq key (dir ++ 47 ∷ []) ≡ (starts_with nat_eq key dir && eqb (get_or key (length dir) 0) 47)
key_longer [] dir lt = absurd (omega arith)
key_longer (x ∷ xs) [] lt = slash_test x
key_longer (x ∷ xs) (q ∷ ps) lt =
    ap (λ b. nat_eq q x && b) (key_longer xs ps (omega arith))
    ∙ sym (and_assoc (nat_eq q x) (starts_with nat_eq xs ps) (eqb (get_or xs (length ps) 0) 47))

pub key_in : (dir key : List ℕ) → length dir ≢ 0 → length dir < length key
    → (starts_with nat_eq key dir && eqb (get_or key (length dir) 0) 47) ≡ is_key_in dir key
key_in [] key ne lt = absurd (ne refl)
key_in (b ∷ bs) key ne lt = sym (key_longer key (b ∷ bs) lt)

-- Names that begin with names.

not_slash : (b : ℕ) → b ≢ 47 → nat_eq 47 b ≡ false
not_slash b ne = both_ways (nat_eq 47 b) false (λ e. absurd (ne (sym (eqb-true 47 b e)))) (λ e. absurd (cc))

not_slash' : (b : ℕ) → b ≢ 47 → nat_eq b 47 ≡ false
not_slash' b ne = both_ways (nat_eq b 47) false (λ e. absurd (ne (eqb-true b 47 e))) (λ e. absurd (cc))

first_names : (n f a b : List ℕ) → Whole n → Whole f
    → starts_with nat_eq (n ++ 47 ∷ a) (f ++ 47 ∷ b) ≡ (bytes_eq f n && starts_with nat_eq a b)
first_names [] [] a b p q = refl
first_names [] (c ∷ cs) a b p q = ap (λ t. t && starts_with nat_eq a (cs ++ 47 ∷ b)) (not_slash' c q.0)
first_names (x ∷ xs) [] a b p q = ap (λ t. t && starts_with nat_eq (xs ++ 47 ∷ a) b) (not_slash x p.0)
first_names (x ∷ xs) (c ∷ cs) a b p q =
    ap (λ t. nat_eq c x && t) (first_names xs cs a b p.1 q.1) ∙ sym (and_assoc (nat_eq c x) (bytes_eq cs xs) (starts_with nat_eq a b))

no_key : (f b : List ℕ) → starts_with nat_eq [] (f ++ 47 ∷ b) ≡ false
no_key [] b = refl
no_key (c ∷ cs) b = refl

names_first : (names front : List (List ℕ)) → All IsName names → All IsName front
    → starts_with nat_eq (slashed names) (slashed front) ≡ is_at_or_below front names
names_first names [] p q = refl
names_first [] (f ∷ fs) p q = no_key f (slashed fs)
names_first (n ∷ ns) (f ∷ fs) p q =
    first_names n f (slashed ns) (slashed fs) (head_whole n ns p) (head_whole f fs q)
    ∙ ap (λ b. bytes_eq f n && b) (names_first ns fs (tail_names n ns p) (tail_names f fs q))

pub joined-all : (name : List ℕ) (names : List (List ℕ)) → slashed (name ∷ names) ≡ joined (name ∷ names) ++ 47 ∷ []
joined-all name [] = refl
joined-all name (m ∷ ms) = ap (λ t. name ++ 47 ∷ t) (joined-all m ms) ∙ sym (append_assoc name (47 ∷ joined (m ∷ ms)) (47 ∷ []))

some_joined : (path : List ℕ) (names : List (List ℕ)) → path ≢ [] → joined names ≡ path → slashed names ≡ path ++ 47 ∷ []
some_joined path [] ne e = absurd (ne (sym e))
some_joined path (n ∷ ns) ne e = joined-all n ns ∙ ap (λ t. t ++ 47 ∷ []) e

key_is : (dir : List ℕ) → key_of dir ≡ slashed (names_of dir)
key_is [] = refl
key_is (b ∷ bs) = sym (some_joined (b ∷ bs) (components (b ∷ bs)) (λ e. cc) (join_with_byte-slice_split 47 (b ∷ bs)))

clean_of : (dir : List ℕ) → is_clean dir ≡ true → All IsName (names_of dir)
clean_of [] h = λ k d l. absurd (omega (arith, l))
clean_of (b ∷ bs) h = names-components (b ∷ bs) (sym (ap (λ t. t || list_all is_proper (components (b ∷ bs))) (eqb-suc-zero
    (length bs))) ∙ h)

-- a key at or below a clean path, by names
pub key_by_names : (dir : List ℕ) (names : List (List ℕ)) → is_clean dir ≡ true → All IsName names
    → is_key_in dir (slashed names) ≡ is_at_or_below (names_of dir) names
key_by_names dir names h clean = ap (starts_with nat_eq (slashed names)) (key_is dir)
    ∙ names_first names (names_of dir) clean (clean_of dir h)

-- Entries that are left.

nothing : (b : Bool) (o : Option Kept) → o ≡ None → o ≡ cond b o None
nothing true o h = refl
nothing false o h = h

lookup_filter : (p : List ℕ → Bool) (cs : List ℕ) (es : List Entry)
    → lookup (at_text cs) (filter (λ e. p (string_bytes e.0)) es) ≡ cond (p cs) (lookup (at_text cs) es) None
lookup_filter p cs [] = nothing (p cs) None refl
lookup_filter p cs (e ∷ es) =
    let rest = lookup_filter p cs es in
    let P : (a b : Bool) → at_text cs e.0 ≡ a → p (string_bytes e.0) ≡ b
    → lookup (at_text cs) (cond b (e ∷ filter (λ e. p (string_bytes e.0)) es) (filter (λ e. p (string_bytes e.0)) es))
    ≡ cond (p cs) (cond a (Some e.1) (lookup (at_text cs) es)) None =
    λ x y. elim x as (λ a. at_text cs e.0 ≡ a → p (string_bytes e.0) ≡ y
    → lookup (at_text cs) (cond y (e ∷ filter (λ e. p (string_bytes e.0)) es) (filter (λ e. p (string_bytes e.0)) es))
    ≡ cond (p cs) (cond a (Some e.1) (lookup (at_text cs) es)) None) [
      | true ↦ λ h. let same : cs ≡ string_bytes e.0 = (bytes_eq-Decides cs (string_bytes e.0)).0 (sym (is_eq-slice_cmp cs
          (string_bytes e.0)) ∙ h) in
          elim y as (λ b. p (string_bytes e.0) ≡ b
          → lookup (at_text cs) (cond b (e ∷ filter (λ e. p (string_bytes e.0)) es) (filter (λ e. p (string_bytes e.0)) es))
          ≡ cond (p cs) (Some e.1) None) [
            | true ↦ λ k. let on : p cs ≡ true = ap p same ∙ k in rw (h, on) refl
            | false ↦ λ k. let off : p cs ≡ false = ap p same ∙ k in rest ∙ rw off refl
          ]
      | false ↦ λ h. elim y as (λ b. p (string_bytes e.0) ≡ b
          → lookup (at_text cs) (cond b (e ∷ filter (λ e. p (string_bytes e.0)) es) (filter (λ e. p (string_bytes e.0)) es))
          ≡ cond (p cs) (lookup (at_text cs) es) None) [
            | true ↦ λ k. rw h rest
            | false ↦ λ k. rest
          ]
    ] in
    P (at_text cs e.0) (p (string_bytes e.0)) refl refl

turned : (b : Bool) (o : Option Kept) → cond (not b) o None ≡ cond b None o
turned true o = refl
turned false o = refl

pub still : (m m' : Map) (dir : List ℕ) → m'.entries ≡ filter (λ e. not (is_key_in dir (string_bytes e.0))) m.entries
    → (cs : List ℕ) → get_by_text m' cs ≡ cond (is_key_in dir cs) None (get_by_text m cs)
still m m' dir e cs =
    ap (λ es. lookup (at_text cs) es) e ∙ (lookup_filter (λ t. not (is_key_in dir t)) cs m.entries
    ∙ turned (is_key_in dir cs) (get_by_text m cs))

-- What is left agrees.

starts_more : (p xs ys : List ℕ) → starts_with nat_eq xs p ≡ true → starts_with nat_eq (xs ++ ys) p ≡ true
starts_more [] xs ys h = refl
starts_more (q ∷ ps) [] ys h = absurd (cc)
starts_more (q ∷ ps) (x ∷ xs) ys h = and_more (nat_eq q x) (starts_with nat_eq xs ps) (starts_with nat_eq (xs ++ ys) ps)
    (starts_more ps xs ys) h
  where
    and_more : (b x y : Bool) → (x ≡ true → y ≡ true) → (b && x) ≡ true → (b && y) ≡ true
    and_more true x y f h = f h
    and_more false x y f h = h

was : (b : Bool) (o : Option Kept) (k : Kept) → cond b None o ≡ Some k → (b ≡ false) × (o ≡ Some k)
was true o k h = absurd (cc)
was false o k h = (refl, h)

stays_false : (a b : Bool) → (a ≡ true → b ≡ true) → b ≡ false → a ≡ false
stays_false true b f h = let t : b ≡ true = f refl in absurd (cc)
stays_false false b f h = refl

starts-take : (m : ℕ) (xs p : List ℕ) → length p ≤ m → starts_with nat_eq (take m xs) p ≡ starts_with nat_eq xs p
starts-take zero [] [] le = refl
starts-take zero (x ∷ xs) [] le = refl
starts-take zero xs (q ∷ ps) le = absurd (omega arith)
starts-take (suc m) [] p le = refl
starts-take (suc m) (x ∷ xs) [] le = refl
starts-take (suc m) (x ∷ xs) (q ∷ ps) le = ap (λ b. nat_eq q x && b) (starts-take m xs ps (omega arith))

-- what was forgotten: the keys below one, and the levels of their directories
pub record Forgets (c c' : Cache) (dir : List ℕ) : Type 0 where
  pub same : SameAbove c c'
  pub look : (cs : List ℕ) → get_by_text c'.dirs.map cs ≡ cond (is_key_in dir cs) None (get_by_text c.dirs.map cs)
  pub keeps : Keeps (slots_of c'.levels) (slots_of c.levels)
  pub chains : (place : Option Place) (chain : List Placed) → IsChain (slots_of c.levels) place chain
      → ((key : List ℕ) (at : Place) → is_key_in dir key ≡ true → IsOwn c dir key at → ¬ Passes (slots_of c.levels) place at)
      → IsChain (slots_of c'.levels) place chain

module _ (g : QueryScene) (c c' : Cache) (dir : List ℕ) (old : Agrees g c) (f : Forgets c c' dir) where
  before : (q : List (List ℕ)) (k : Kept) → kept_at c' q ≡ Some k → (is_key_in dir (slashed q) ≡ false) × (kept_at c q ≡ Some k)
  before q k h = was (is_key_in dir (slashed q)) (kept_at c q) k (sym (f.look (slashed q)) ∙ h)

  -- the chain of a directory that is left passes no level of a forgotten one
  apart : (q : List (List ℕ)) (place : Option Place) → All IsName q → is_key_in dir (slashed q) ≡ false → kept_at c q ≡ Some (Loaded place)
      → (key : List ℕ) (at : Place) → is_key_in dir key ≡ true → IsOwn c dir key at → ¬ Passes (slots_of c.levels) place at
  apart q place clean out kept key at in' own passes = ∥∥₁_elim c.dirs.keys ⊥_prop
      (λ are.
      let named = are key own.0 own.1 in
      let b = named.0 in
      let there : PassesAt c b at = (
        Some at,
        ap (λ t. get_by_text c.dirs.map t) (sym named.2) ∙ (own.1 ∙ ap Some own.2.0),
        itself,
      ) in
      let same = old.shared q b at clean named.1 (place, kept, passes) there in
      let m = floor_at (slots_of c.levels) (Some at) - length (string_bytes c.base) in
      let le : length (key_of dir) ≤ m = omega (arith, own.2.1) in
      let one : is_key_in dir (slashed q) ≡ true =
      sym (starts-take m (slashed q) (key_of dir) le)
      ∙ (ap (λ t. starts_with nat_eq t (key_of dir)) same
      ∙ (starts-take m (slashed b) (key_of dir) le ∙ (ap (is_key_in dir) (sym named.2) ∙ in'))) in
      cc)

  -- nor does the chain above the root
  apart_above : c.has_above ≡ true → (key : List ℕ) (at : Place) → is_key_in dir key ≡ true → IsOwn c dir key at
      → ¬ Passes (slots_of c.levels) c.above at
  apart_above h key at in' own passes =
      let l = above-passed g c at old h passes in
      let base : length (string_bytes c.base) ≡ suc (length (slashed (names_above g.tree g.settings g.root))) =
      ap (λ (t : List ℕ). length t) (old.above h).base in
      omega (arith, l.within, base, own.2.1)

  stands : (q : List (List ℕ)) (k : Kept) → All IsName q → is_key_in dir (slashed q) ≡ false → kept_at c q ≡ Some k → IsRight g c q k
      → IsRight g c' q k
  stands q Ignored clean out kept r = r
  stands q (Loaded place) clean out kept r = (r.0, f.chains place _ r.1 (apart q place clean out kept))

  -- a level that is passed was passed before, at its offset
  passed_before : (q : List (List ℕ)) (at : Place) → All IsName q → PassesAt c' q at
      → PassesAt c q at × (floor_at (slots_of c'.levels) (Some at) ≡ floor_at (slots_of c.levels) (Some at))
  passed_before q at clean p =
      let b = before q (Loaded p.0) p.1 in
      let r = stands q (Loaded p.0) clean b.0 b.1 (old.right q (Loaded p.0) clean b.1) in
      let has = old.first q (Loaded p.0) b.1 in
      let l = passed-level (slots_of c'.levels) p.0 (counting (reached_in g q).chain) at (length (reached_in g q).text) r.1
      (counting-most g q (length (reached_in g q).text) refl) p.2 in
      ((p.0, b.1, passes-kept f.keeps p.2), ap floor_of (l.is ∙ sym (f.keeps at l.level l.is)))

  shared_still : (a b : List (List ℕ)) (at : Place) → All IsName a → All IsName b → PassesAt c' a at → PassesAt c' b at
      → key_down_to c' at (slashed a) ≡ key_down_to c' at (slashed b)
  shared_still a b at ca cb p q =
      let pa = passed_before a at ca p in
      let pb = passed_before b at cb q in
      let down : (key : List ℕ) → key_down_to c' at key ≡ key_down_to c at key =
      λ key. ap (λ n. take (n - length (string_bytes c'.base)) key) pa.1
      ∙ ap (λ t. take (floor_at (slots_of c.levels) (Some at) - length (string_bytes t)) key) f.same.1.1 in
      down (slashed a) ∙ (old.shared a b at ca cb pa.0 pb.0 ∙ sym (down (slashed b)))

  pub left_agrees : Agrees g c'
  left_agrees = record {
    above = λ h.
        let has = sym f.same.0 ∙ h in
        let a = old.above has in
        record {
          root = a.root;
          chain = subst (λ p. StandsFor c' p (chain_above g)) (sym f.same.1.0) (f.chains c.above _ a.chain (apart_above has));
          base = ap (λ t. string_bytes t) f.same.1.1 ∙ a.base;
        };
    first = λ q k h. f.same.0 ∙ old.first q k (before q k h).1;
    right = λ q k clean h.
        let b = before q k h in stands q k clean b.0 b.1 (old.right q k clean b.1);
    inside = λ q k clean h front name is.
        let b = before q k h in
        let p = old.inside q k clean b.1 front name is in
        let grown : slashed q ≡ slashed front ++ (name ++ 47 ∷ []) = ap slashed is ∙ slashed-more front name in
        let kept : is_key_in dir (slashed front) ≡ false = stays_false (is_key_in dir (slashed front)) (is_key_in dir (slashed q))
        (λ e. ap (is_key_in dir) grown ∙ starts_more (key_of dir) (slashed front) (name ++ 47 ∷ []) e) b.0 in
        (p.0, f.look (slashed front) ∙ (ap (λ b. cond b None (kept_at c front)) kept ∙ p.1));
    shared = shared_still;
  }

-- Another tree.

same_dirs : (g h : QueryScene) (c : Cache) → h.root ≡ g.root → Agrees g c → IsSameKept g h c → (done rest : List (List ℕ))
    → All IsName (done ++ rest) → IsLoaded c (done ++ rest)
    → dirs_at h.loads (directories_along (path_along h.root done) rest ++ path_along (path_along h.root done) rest ∷ [])
    ≡ dirs_at g.loads (directories_along (path_along g.root done) rest ++ path_along (path_along g.root done) rest ∷ [])
same_dirs g h c root a same done [] clean kept =
    let front = loaded_front g c done [] a clean kept in
    ap (λ d. d ∷ []) (same.dirs done front.0 (subst (All IsName) (append-nil done) clean) front.1)
same_dirs g h c root a same done (n ∷ rest) clean kept =
    let front = loaded_front g c done (n ∷ rest) a clean kept in
    let move : (done ++ n ∷ []) ++ rest ≡ done ++ n ∷ rest = append_assoc done (n ∷ []) rest in
    let next = same_dirs g h c root a same (done ++ n ∷ []) rest (subst (All IsName) (sym move) clean) (subst (IsLoaded c)
    (sym move) kept) in
    let at : QueryScene → List ℕ → List Dir = λ s d. dirs_at s.loads (directories_along d rest ++ path_along d rest ∷ []) in
    let next' : at h (join_of (path_along h.root done) n) ≡ at g (join_of (path_along g.root done) n) =
    ap (at h) (sym (path_along-more h.root done n)) ∙ (next ∙ ap (at g) (path_along-more g.root done n)) in
    ap (λ (d : Dir). d ∷ at h (join_of (path_along h.root done) n)) (same.dirs done front.0 (front_names done (n ∷ rest) clean) front.1)
    ∙ ap (λ (l : List Dir). (g.loads (path_along g.root done)).0 ∷ l) next'

directories_along-more : (dir : List ℕ) (names : List (List ℕ)) (name : List ℕ)
    → directories_along dir (names ++ name ∷ []) ≡ directories_along dir names ++ path_along dir names ∷ []
directories_along-more dir [] name = refl
directories_along-more dir (n ∷ names) name = ap (λ l. dir ∷ l) (directories_along-more (join_of dir n) names name)

-- the verdict is that over the same directories
same_verdict : (a : Shared) (before after : Tree) (loads later : List ℕ → Load) (names : List (List ℕ)) (is_dir : Bool)
    → dirs_to (scene_of a after later) names ≡ dirs_to (scene_of a before loads) names
    → names_to (scene_of a after later) names ≡ names_to (scene_of a before loads) names
    → path_verdict (scene_of a after later) names is_dir ≡ path_verdict (scene_of a before loads) names is_dir
unfolding path_verdict
same_verdict a before after loads later names is_dir d n =
    let path = path_along (string_bytes a.root) names in
    ap (λ (l : List Dir). verdict a.settings a.outside (reverse (asked_along l (names_to (scene_of a after later) names))) path is_dir) d
    ∙ ap (λ (l : List (List ℕ)). verdict a.settings a.outside (reverse (asked_along (dirs_to
    (scene_of a before loads) names) l)) path is_dir) n

root_ignored : (g h : QueryScene) → is_ignored h [] ≡ is_ignored g []
unfolding is_ignored
root_ignored g h = refl

ignored_is : (g : QueryScene) (front : List (List ℕ)) (n : List ℕ)
    → is_ignored g (front ++ n ∷ []) ≡ is_ignore (path_verdict g (front ++ n ∷ []) true)
unfolding is_ignored
ignored_is g [] n = refl
ignored_is g (x ∷ xs) n = refl

same_names : (a : Shared) (before after : Tree) → after.canonical (string_bytes a.root) ≡ before.canonical (string_bytes a.root)
    → names_above after a.settings (string_bytes a.root) ≡ names_above before a.settings (string_bytes a.root)
same_names a before after e = ap (λ r. cond (needs_above a.settings) (canonical_names r) []) e

-- a directory in a kept one is ignored by both trees or by none
same_ignored : (a : Shared) (before after : Tree) (loads later : List ℕ → Load) (c : Cache) → Agrees (scene_of a before loads) c
    → IsSameKept (scene_of a before loads) (scene_of a after later) c → (names : List (List ℕ)) (k : Kept) → All IsName names
    → kept_at c names ≡ Some k → Ends names
    → is_ignored (scene_of a after later) names ≡ is_ignored (scene_of a before loads) names
same_ignored a before after loads later c old same names k clean kept (none e) = rw e (root_ignored (scene_of a before loads) (scene_of a after later))
same_ignored a before after loads later c old same names k clean kept (last front n e) =
    let g = scene_of a before loads in
    let h = scene_of a after later in
    let root = string_bytes a.root in
    let has = old.first names k kept in
    let parent = old.inside names k clean kept front n e in
    let clean1 : All IsName front = front_names front (n ∷ []) (subst (All IsName) e clean) in
    let below = ap (dirs_at later) (directories_along-more root front n)
    ∙ (same_dirs g h c refl old same [] front clean1 parent ∙ ap (dirs_at loads) (sym (directories_along-more root front n))) in
    let dirs = ap (λ (l : List Dir). l ++ dirs_at later (directories_along root (front ++ n ∷ []))) (same.above has)
    ∙ ap (λ (l : List Dir). dirs_above loads a.settings (paths_above before a.settings root) ++ l) below in
    let names' = ap (λ (l : List (List ℕ)). l ++ (front ++ n ∷ [])) (same_names a before after (same.canonical has)) in
    ap (is_ignored h) e
    ∙ (ignored_is h front n
    ∙ (ap is_ignore (same_verdict a before after loads later (front ++ n ∷ []) true dirs names')
    ∙ (sym (ignored_is g front n) ∙ ap (is_ignored g) (sym e))))

right_later : (g h : QueryScene) (c : Cache) (names : List (List ℕ)) (k : Kept) → is_ignored h names ≡ is_ignored g names
    → ((place : Option Place) → k ≡ Loaded place → (reached_in h names).chain ≡ (reached_in g names).chain)
    → IsRight g c names k → IsRight h c names k
right_later g h c names Ignored e f r = e ∙ r
right_later g h c names (Loaded place) e f r = (e ∙ r.0, subst (StandsFor c place) (sym (f place refl)) r.1)

-- the chain of a kept directory is the same
same_chain : (a : Shared) (before after : Tree) (loads later : List ℕ → Load) (c : Cache) → Agrees (scene_of a before loads) c
    → IsSameKept (scene_of a before loads) (scene_of a after later) c → (names : List (List ℕ)) (place : Option Place) → All IsName names
    → kept_at c names ≡ Some (Loaded place)
    → (reached_in (scene_of a after later) names).chain ≡ (reached_in (scene_of a before loads) names).chain
same_chain a before after loads later c old same names place clean kept =
    let g = scene_of a before loads in
    let h = scene_of a after later in
    let root = string_bytes a.root in
    let has = old.first names (Loaded place) kept in
    let below = same_dirs g h c refl old same [] names clean (place, kept) in
    let dirs = ap (λ (l : List Dir). l ++ dirs_at later (directories_along root names ++ path_along root names ∷ [])) (same.above has)
    ∙ ap (λ (l : List Dir). dirs_above loads a.settings (paths_above before a.settings root) ++ l) below in
    let names' = ap (λ (l : List (List ℕ)). l ++ names) (same_names a before after (same.canonical has)) in
    ap (λ (l : List Dir). reverse (placed_along 1 l (names_to h names))) dirs
    ∙ ap (λ (l : List (List ℕ)). reverse (placed_along 1 (dirs_above loads a.settings (paths_above before a.settings root)
    ++ dirs_at loads (directories_along root names ++ path_along root names ∷ [])) l)) names'

pub later_agrees : (a : Shared) (before after : Tree) (loads later : List ℕ → Load) (c : Cache) → Agrees (scene_of a before loads) c
    → IsSameKept (scene_of a before loads) (scene_of a after later) c → Agrees (scene_of a after later) c
later_agrees a before after loads later c old same =
    let g = scene_of a before loads in
    let h = scene_of a after later in
    record {
      above = λ has.
          let o = old.above has in
          let names = same_names a before after (same.canonical has) in
          record {
            root = same.root has ∙ o.root;
            chain = subst (StandsFor c c.above) (ap (λ (l : List Dir). reverse (placed_along 1 l (names_above before a.settings
                (string_bytes a.root)))) (sym (same.above has))
                ∙ ap (λ (l : List (List ℕ)). reverse (placed_along 1 (dirs_above later a.settings (paths_above after a.settings
                (string_bytes a.root))) l)) (sym names)) o.chain;
            base = o.base ∙ ap (λ (l : List (List ℕ)). 47 ∷ slashed l) (sym names);
          };
      first = old.first;
      right = λ q k clean kept.
          right_later g h c q k (same_ignored a before after loads later c old same q k clean kept (ends q))
          (λ place e. same_chain a before after loads later c old same q place clean (kept ∙ ap Some e)) (old.right q k clean kept);
      inside = old.inside;
      shared = old.shared;
    }
