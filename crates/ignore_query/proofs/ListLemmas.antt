-- Which levels the chains of kept directories pass, with one directory more.
use Rattle.std.proofs.Common.{◌≡◌, ℕ, suc, zero, ◌+◌, ◌-◌, ◌<◌, ◌≤◌, All, List, [], ◌∷◌, ◌++◌, length, reverse, take, Option, Some}
use Rattle.std.proofs.Common.{None, string_bytes, refl, sym, ◌∙◌, ap, subst, inl, inr, true, false, arith}
use Rattle.std.proofs.lemmas.List.{length-append, length-map}
use Rattle.std.proofs.lemmas.List.Elements.{All-cons, All-filter, All-nil}
use Rattle.std.specs.BTreeMap.{get_by_text}
use Rattle.ignore_base.specs.Paths.{IsName, join_of}
use Rattle.ignore_dir.specs.declared.dir.Dir.{Dir}
use Rattle.ignore_dir.specs.Above.{directories_along, dirs_above, names_above, paths_above}
use Rattle.ignore_dir.specs.Chains.{placed_along, slashed}
use Rattle.ignore_dir.specs.Lists.{Placed}
use Rattle.ignore_dir.specs.Scene.{QueryScene}
use Rattle.ignore_dir.specs.Steps.{reached_in}
use Rattle.ignore_dir.proofs.ChainLemmas.{slashed-more}
use Rattle.ignore_dir.specs.Query.{is_dir_there}
use Rattle.ignore_levels.specs.Levels.{IsChain, IsRising, Keeps, Passes, counting, counts, floor_at, floor_of, level_at, slots_of}
use Rattle.ignore_levels.specs.declared.list.Place.{Place}
use Rattle.ignore_levels.proofs.PassLemmas.{PassedLevel, passed-level, passes-back}
use Rattle.ignore_query.specs.declared.kept.Cache.{Cache}
use Rattle.ignore_query.specs.declared.kept.Kept.{Kept}
use Rattle.ignore_query.specs.declared.kept.Kept.TheVariants.{Loaded}
use Rattle.ignore_query.specs.Agrees.{Agrees, chain_above}
use Rattle.ignore_query.specs.Listed.{IsBelow, SharesLevels, PassesAt, kept_at, key_down_to}
use Rattle.ignore_query.proofs.BoundaryLemmas.{All-reverse}
use Rattle.ignore_query.proofs.ChainLemmas.{counting-most, front_names, text-length}
use Rattle.ignore_query.proofs.KeepLemmas.{AddsOne, Ends, SameAbove, above_kept, ends, last, none, put_cases, right_kept}

-- Offsets.

-- the offset of each directory with a name after it is less than the length of the text
placed-within : (offset : ℕ) (dirs : List Dir) (names : List (List ℕ)) (most : ℕ) → length dirs ≤ length names
    → offset + length (slashed names) ≤ most + 1 → All (λ p. p.1 ≤ most) (placed_along offset dirs names)
placed-within offset [] names most le lt = All-nil (λ (p : Placed). p.1 ≤ most)
placed-within offset (d ∷ dirs) [] most le lt = absurd (omega arith)
placed-within offset (d ∷ dirs) (n ∷ names) most le lt =
    let size : length (n ++ 47 ∷ slashed names) ≡ length n + length (47 ∷ slashed names) = length-append n (47 ∷ slashed names) in
    All-cons (λ (p : Placed). p.1 ≤ most) (d, offset) (placed_along (offset + length n + 1) dirs names) (omega (arith, lt, size))
    (placed-within (offset + length n + 1) dirs names most (omega (arith, le)) (omega (arith, lt, size)))

pub along-length : (dir : List ℕ) (names : List (List ℕ)) → length (directories_along dir names) ≡ length names
along-length dir [] = refl
along-length dir (n ∷ names) = ap suc (along-length (join_of dir n) names)

-- no directory above the root has an offset beyond the names there
pub above-within : (g : QueryScene) → All (λ p. p.1 ≤ length (slashed (names_above g.tree g.settings g.root))) (counting (chain_above g))
above-within g =
    let names = names_above g.tree g.settings g.root in
    let paths = paths_above g.tree g.settings g.root in
    let dirs = dirs_above g.loads g.settings paths in
    let size : length dirs ≡ length names = length-map paths _ ∙ along-length _ names in
    let P : Placed → Type 0 = λ p. p.1 ≤ length (slashed names) in
    All-filter (λ (p : Placed). counts p.0) P (chain_above g) (All-reverse P (placed_along 1 dirs names)
    (placed-within 1 dirs names (length (slashed names)) (omega (arith, size)) (omega arith)))

-- a level that the chain above the root passes
pub above-passed : (g : QueryScene) (c : Cache) (at : Place) → Agrees g c → c.has_above ≡ true → Passes (slots_of c.levels) c.above at
    → PassedLevel (slots_of c.levels) at (length (slashed (names_above g.tree g.settings g.root)))
above-passed g c at a h passes =
    let most = length (slashed (names_above g.tree g.settings g.root)) in
    passed-level (slots_of c.levels) c.above (counting (chain_above g)) at most (a.above h).chain (above-within g) passes

-- a level that the chain of a kept directory passes
pub passed : (g : QueryScene) (c : Cache) (names : List (List ℕ)) (place : Option Place) (at : Place) → Agrees g c → All IsName names
    → kept_at c names ≡ Some (Loaded place) → Passes (slots_of c.levels) place at
    → PassedLevel (slots_of c.levels) at (length (string_bytes c.base) + length (slashed names))
passed g c names place at a clean kept passes =
    let most = length (string_bytes c.base) + length (slashed names) in
    passed-level (slots_of c.levels) place (counting (reached_in g names).chain) at most (a.right names (Loaded place) clean kept).1
    (counting-most g names most (text-length g c names a (a.first names (Loaded place) kept)))
    passes

-- Fronts of keys.

take-front : (n : ℕ) (xs ys : List ℕ) → n ≤ length xs → take n (xs ++ ys) ≡ take n xs
take-front zero xs ys le = refl
take-front (suc n) [] ys le = absurd (omega arith)
take-front (suc n) (x ∷ xs) ys le = ap (λ l. x ∷ l) (take-front n xs ys (omega arith))

-- an offset within the text above the root leaves nothing of a key
nothing-down : (c : Cache) (at : Place) (a b : List ℕ) → floor_at (slots_of c.levels) (Some at) ≤ length (string_bytes c.base)
    → key_down_to c at a ≡ key_down_to c at b
nothing-down c at a b le =
    let none : floor_at (slots_of c.levels) (Some at) - length (string_bytes c.base) ≡ 0 = omega (arith, le) in
    ap (λ n. take n a) none ∙ ap (λ n. take n b) (sym none)

-- What was kept, in a list that has grown.

module _ (g : QueryScene) (c c' : Cache) (old : Agrees g c) (same : SameAbove c c') (keeps : Keeps (slots_of c.levels) (slots_of c'.levels)) where
  -- a level that was there
  abbrev pub Stood : Place → Type 0
  Stood at = (floor_at (slots_of c'.levels) (Some at) ≡ floor_at (slots_of c.levels) (Some at)) × (level_at (slots_of c.levels) at ≡ None → ⊥)

  stood : (at : Place) (most : ℕ) → PassedLevel (slots_of c.levels) at most → Stood at
  stood at most p = (ap floor_of (keeps at p.level p.is ∙ sym p.is), λ e. let q = p.is in cc (q, e))

  pub down-same : (at : Place) (key : List ℕ) → Stood at → key_down_to c' at key ≡ key_down_to c at key
  down-same at key s =
      ap (λ n. take (n - length (string_bytes c'.base)) key) s.0
      ∙ ap (λ t. take (floor_at (slots_of c.levels) (Some at) - length (string_bytes t)) key) same.1.1

  -- what an old directory passes, it passed before
  pub was : (q : List (List ℕ)) (place : Option Place) (at : Place) → All IsName q → kept_at c q ≡ Some (Loaded place)
      → Passes (slots_of c'.levels) place at → PassesAt c q at × Stood at
  was q place at clean kept passes =
      let back = passes-back (slots_of c.levels) (slots_of c'.levels) keeps place (counting (reached_in g q).chain) at
      (old.right q (Loaded place) clean kept).1 passes in
      ((place, kept, back), stood at _ (passed g c q place at old clean kept back))

  -- levels that no kept directory stands at change nothing
  pub grown_agrees : ((key : List ℕ) → get_by_text c'.dirs.map key ≡ get_by_text c.dirs.map key) → Agrees g c'
  grown_agrees before =
      record {
        above = above_kept g c c' same keeps old.above;
        first = λ q r h. same.0 ∙ old.first q r (sym (before (slashed q)) ∙ h);
        right = λ q r clean h. right_kept g c c' q r keeps (old.right q r clean (sym (before (slashed q)) ∙ h));
        inside = λ q r clean h front name is.
            let p = old.inside q r clean (sym (before (slashed q)) ∙ h) front name is in (p.0, before (slashed front) ∙ p.1);
        shared = λ a b at ca cb p q.
            let x = was a p.0 at ca (sym (before (slashed a)) ∙ p.1) p.2 in
            let y = was b q.0 at cb (sym (before (slashed b)) ∙ q.1) q.2 in
            down-same at (slashed a) x.1 ∙ (old.shared a b at ca cb x.0 y.0 ∙ sym (down-same at (slashed b) x.1));
      }

-- What is above the root, where nothing was kept.

-- what counts of the directories above the root, from `/` down
abbrev pub placed_above : QueryScene → List Placed
placed_above g =
    placed_along 1 (dirs_above g.loads g.settings (paths_above g.tree g.settings g.root)) (names_above g.tree g.settings g.root)

pub rising-along : (floor offset : ℕ) (dirs : List Dir) (names : List (List ℕ)) → floor < offset → length dirs ≤ length names
    → IsRising floor (placed_along offset dirs names)
rising-along floor offset [] names lt le = tt
rising-along floor offset (d ∷ dirs) [] lt le = absurd (omega arith)
rising-along floor offset (d ∷ dirs) (n ∷ names) lt le =
    (lt, rising-along offset (offset + length n + 1) dirs names (omega arith) (omega (arith, le)))

pub above-rising : (g : QueryScene) → IsRising 0 (placed_above g)
above-rising g =
    let names = names_above g.tree g.settings g.root in
    let paths = paths_above g.tree g.settings g.root in
    let dirs = dirs_above g.loads g.settings paths in
    let size : length dirs ≡ length names = length-map paths _ ∙ along-length _ names in
    rising-along 0 1 dirs names (omega arith) (omega (arith, size))

pub first_agrees : (g : QueryScene) (c c' : Cache) → Agrees g c → c.has_above ≡ false → c'.dirs ≡ c.dirs
    → is_dir_there (g.tree.stat g.root true) ≡ true → IsChain (slots_of c'.levels) c'.above (counting (reverse (placed_above g)))
    → string_bytes c'.base ≡ 47 ∷ slashed (names_above g.tree g.settings g.root) → c'.has_above ≡ true → Agrees g c'
first_agrees g c c' a off dirs root chain base has =
    let none_kept : (q : List (List ℕ)) (k : Kept) → kept_at c' q ≡ Some k → ⊥ =
    λ q k h. let yes = a.first q k (ap (λ d. get_by_text d.map (slashed q)) (sym dirs) ∙ h) in cc (yes, off) in
    record {
      above = λ h. record { root = root; chain = chain; base = base };
      first = λ q k h. has;
      right = λ q k clean h. absurd (none_kept q k h);
      inside = λ q k clean h. absurd (none_kept q k h);
      shared = λ x y at cx cy p q. absurd (none_kept x (Loaded p.0) p.1);
    }

-- One directory more.

module _ (g : QueryScene) (c c' : Cache) (names : List (List ℕ)) (parent : Option Place) (k : Kept) (old : Agrees g c)
    (adds : AddsOne g c c' names parent k) where
  abbrev StoodAt : Place → Type 0
  StoodAt at = Stood g c c' old adds.same adds.keeps at

  downs : (at : Place) (key : List ℕ) → StoodAt at → key_down_to c' at key ≡ key_down_to c at key
  downs at key s = down-same g c c' old adds.same adds.keeps at key s

  passed_old : (q : List (List ℕ)) (place : Option Place) (at : Place) → All IsName q → kept_at c q ≡ Some (Loaded place)
      → Passes (slots_of c'.levels) place at → PassesAt c q at × StoodAt at
  passed_old q place at clean kept passes = was g c c' old adds.same adds.keeps q place at clean kept passes

  -- what the parent passes is passed by each directory that is at or below the one whose level it is
  from_parent : (q : List (List ℕ)) (at : Place) → All IsName q → PassesAt c q at → Passes (slots_of c'.levels) parent at → Ends names
      → key_down_to c at (slashed names) ≡ key_down_to c at (slashed q)
  unfolding passed_old was
  from_parent q at clean p passes (none e) =
      let rooted = adds.next.rooted in
      let top = adds.next.top e in
      let above = old.above rooted in
      let back = passes-back (slots_of c.levels) (slots_of c'.levels) adds.keeps c.above (counting (chain_above g)) at above.chain
      (subst (λ (x : Option Place). Passes (slots_of c'.levels) x at) top passes) in
      let l = above-passed g c at old rooted back in
      let base : length (string_bytes c.base) ≡ suc (length (slashed (names_above g.tree g.settings g.root))) =
      ap (λ (t : List ℕ). length t) above.base in
      nothing-down c at (slashed names) (slashed q) (omega (arith, l.within, base))
  from_parent q at clean p passes (last front name e) =
      let kept = adds.next.inside front name e in
      let clean1 = front_names front (name ∷ []) (subst (All IsName) e adds.clean) in
      let w = passed_old front parent at clean1 kept passes in
      let l = passed g c front parent at old clean1 kept w.0.2 in
      let grown : slashed names ≡ slashed front ++ (name ++ 47 ∷ []) = ap slashed e ∙ slashed-more front name in
      let n = floor_at (slots_of c.levels) (Some at) - length (string_bytes c.base) in
      ap (take n) grown
      ∙ (take-front n (slashed front) (name ++ 47 ∷ []) (omega (arith, l.within))
      ∙ old.shared front q at clean1 clean w.0 p)

  -- the new directory and an old one
  new_old : (q : List (List ℕ)) (place : Option Place) (at : Place) → All IsName q → PassesAt c q at → StoodAt at → k ≡ Loaded place
      → Passes (slots_of c'.levels) place at → key_down_to c at (slashed names) ≡ key_down_to c at (slashed q)
  new_old q place at clean p s is passes =
      let below : IsBelow (slots_of c.levels) (slots_of c'.levels) parent (Loaded place) =
      subst (IsBelow (slots_of c.levels) (slots_of c'.levels) parent) is adds.below in
      elim (below at passes) as (λ _. key_down_to c at (slashed names) ≡ key_down_to c at (slashed q)) [
        | inl e ↦ absurd (s.1 e)
        | inr more ↦ from_parent q at clean p more (ends names)
      ]

  -- a directory of the second that passes a level: it did so before, or is the new one
  data Side (q : List (List ℕ)) (at : Place) : Type 0 where
    before : PassesAt c q at → StoodAt at → Side q at
    here : q ≡ names → (place : Option Place) → k ≡ Loaded place → Passes (slots_of c'.levels) place at → Side q at

  side : (q : List (List ℕ)) (at : Place) → All IsName q → PassesAt c' q at → Side q at
  side q at clean p =
      elim (put_cases c c' names k adds.puts adds.clean q (Loaded p.0) clean p.1) as (λ _. Side q at) [
        | inl e ↦ here e.0 p.0 (sym e.1) p.2
        | inr kept ↦ let w = passed_old q p.0 at clean kept p.2 in before w.0 w.1
      ]

  both : (a b : List (List ℕ)) (at : Place) → All IsName a → All IsName b → Side a at → Side b at
      → key_down_to c' at (slashed a) ≡ key_down_to c' at (slashed b)
  both a b at ca cb (before p s) (before q t) =
      downs at (slashed a) s ∙ (old.shared a b at ca cb p q ∙ sym (downs at (slashed b) s))
  both a b at ca cb (before p s) (here e place is passes) =
      downs at (slashed a) s
      ∙ (sym (new_old a place at ca p s is passes)
      ∙ (ap (λ l. key_down_to c at (slashed l)) (sym e) ∙ sym (downs at (slashed b) s)))
  both a b at ca cb (here e place is passes) (before q t) =
      downs at (slashed a) t
      ∙ (ap (λ l. key_down_to c at (slashed l)) e
      ∙ (new_old b place at cb q t is passes ∙ sym (downs at (slashed b) t)))
  both a b at ca cb (here e place is passes) (here f place' is' passes') = ap (λ l. key_down_to c' at (slashed l)) (e ∙ sym f)

  pub put_shared : SharesLevels c'
  put_shared a b at ca cb p q = both a b at ca cb (side a at ca p) (side b at cb q)
