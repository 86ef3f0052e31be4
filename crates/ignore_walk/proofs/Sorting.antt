-- A listing that is sorted with its paths is arranged by them.
use Rattle.std.proofs.Common.{◌≡◌, ℕ, zero, suc, ◌+◌, Bool, true, false, cond, List, [], ◌∷◌, length, get_or, map, filter, IsSortedBy, All, refl, sym, ◌∙◌, ap, subst, arith}
use Rattle.std.proofs.lemmas.List.{get_or-map, length-map}
use Rattle.std.proofs.lemmas.List.Sorted.{All-permutation, IsPermutation-map}
use Rattle.std.specs.Cmp.{IsStrictWeakOrder}
use Rattle.std.specs.List.Sorted.{IsPermutation, IsStableBy, ties}
use Rattle.std.specs.Ordering.{is_lt}
use Rattle.std.specs.declared.cmp.Ordering.{Ordering}
use Rattle.ignore_base.specs.Paths.{join_of}
use Rattle.ignore_files.specs.declared.types.Listed.{Listed}
use Rattle.ignore_files.specs.declared.types.Listed.TheVariants as thing
use Rattle.ignore_walk.specs.declared.arrange.PathListed.{PathListed}
use Rattle.ignore_walk.specs.declared.callbacks.Order.TheVariants.{ByPath}
use Rattle.ignore_walk.specs.Keyed.{comes_first, key_of}
use Rattle.ignore_walk.specs.Suits.{order_by}
use Rattle.ignore_walk.specs.Walked.{comes_before, IsArranged}

-- an order of what a function gives
pub order_of : {X Y : Type 0} (lt : Y → Y → Bool) (f : X → Y) → IsStrictWeakOrder lt → IsStrictWeakOrder (λ a b. lt (f a) (f b))
order_of lt f o = record { one_way = λ x y. o.one_way (f x) (f y); chain = λ x y z. o.chain (f x) (f y) (f z) }

-- things with their paths, without these
things : (dir : List ℕ) (xs : List Listed) → map (λ (p : PathListed). p.listed) (map (key_of dir) xs) ≡ xs
things dir [] = refl
things dir (x ∷ xs) = ap (λ (l : List Listed). x ∷ l) (things dir xs)

module _ (cmp : List ℕ → List ℕ → Ordering) (dir : List ℕ) where
  abbrev by_path : List ℕ → List ℕ → Bool
  by_path a b = is_lt (cmp (join_of dir a) (join_of dir b))

  -- things with their paths compare as the things do
  first-before : (x y : Listed) → comes_first cmp (key_of dir x) (key_of dir y) ≡ comes_before by_path x y
  first-before (thing.Fault f) (thing.Fault g) = refl
  first-before (thing.Fault f) (thing.Entry b k) = refl
  first-before (thing.Entry a k) (thing.Fault g) = refl
  first-before (thing.Entry a k) (thing.Entry b l) = refl

  ties-before : (x y : Listed) → ties (comes_first cmp) (key_of dir x) (key_of dir y) ≡ ties (comes_before by_path) x y
  ties-before x y = rw (first-before x y, first-before y x) refl

  -- each has its path
  abbrev Keyed : PathListed → Type 0
  Keyed p = p ≡ key_of dir p.listed

  all_keyed : (xs : List Listed) → All Keyed (map (key_of dir) xs)
  all_keyed [] k d lt = absurd (omega arith)
  all_keyed (x ∷ xs) zero d lt = refl
  all_keyed (x ∷ xs) (suc k) d lt = all_keyed xs k d (omega arith)

  keys-again : (ps : List PathListed) → All Keyed ps → ps ≡ map (key_of dir) (map (λ (p : PathListed). p.listed) ps)
  keys-again [] h = refl
  keys-again (p ∷ ps) h =
      let one : p ≡ key_of dir p.listed = h 0 p (omega arith) in
      let rest = keys-again ps (λ k d lt. h (suc k) d (omega arith)) in
      cc (one, rest)

  picked : (y : Listed) (b : Bool) (ps : List PathListed) (xs : List Listed) → ps ≡ map (key_of dir) xs
      → cond b (key_of dir y ∷ ps) ps ≡ map (key_of dir) (cond b (y ∷ xs) xs)
  picked y true ps xs h = ap (λ (l : List PathListed). key_of dir y ∷ l) h
  picked y false ps xs h = h

  filter-keyed : (x : Listed) (ys : List Listed)
      → filter (ties (comes_first cmp) (key_of dir x)) (map (key_of dir) ys) ≡ map (key_of dir) (filter (ties (comes_before by_path) x) ys)
  filter-keyed x [] = refl
  filter-keyed x (y ∷ ys) =
      let ps = filter (ties (comes_first cmp) (key_of dir x)) (map (key_of dir) ys) in
      ap (λ (b : Bool). cond b (key_of dir y ∷ ps) ps) (ties-before x y)
      ∙ picked y (ties (comes_before by_path) x y) ps (filter (ties (comes_before by_path) x) ys) (filter-keyed x ys)

  sorted-things : (ys : List Listed) → IsSortedBy (comes_first cmp) (map (key_of dir) ys) → IsSortedBy (comes_before by_path) ys
  sorted-things ys h k d a b =
      let size : length (map (key_of dir) ys) ≡ length ys = length-map ys (key_of dir) in
      let e = h k (key_of dir d) a (omega arith) in
      let one = get_or-map (key_of dir) ys (k + 1) d (key_of dir d) (omega arith) in
      let other = get_or-map (key_of dir) ys k d (key_of dir d) (omega arith) in
      sym (first-before (get_or ys (k + 1) d) (get_or ys k d))
      ∙ (ap (λ (p : PathListed). comes_first cmp p (key_of dir (get_or ys k d))) (sym one)
      ∙ (ap (λ (p : PathListed). comes_first cmp (get_or (map (key_of dir) ys) (k + 1) (key_of dir d)) p) (sym other) ∙ e))

  stable-things : (xs ys : List Listed) → IsStableBy (comes_first cmp) (map (key_of dir) xs) (map (key_of dir) ys)
      → IsStableBy (comes_before by_path) xs ys
  stable-things xs ys h x =
      let t = ties (comes_before by_path) x in
      sym (things dir (filter t ys))
      ∙ (ap (map (λ (p : PathListed). p.listed)) (sym (filter-keyed x ys) ∙ (h (key_of dir x) ∙ filter-keyed x xs)) ∙ things dir (filter t xs))

  pub arranged-by_path : (xs zs : List Listed) (ks ps : List PathListed) → ks ≡ map (key_of dir) xs → zs ≡ map (λ (p : PathListed). p.listed) ps
      → IsPermutation ks ps × IsSortedBy (comes_first cmp) ps × IsStableBy (comes_first cmp) ks ps
      → IsArranged (order_by ByPath cmp) dir xs zs
  arranged-by_path xs zs ks ps keys are h =
      let all : All Keyed ps = All-permutation Keyed ks ps h.0 (subst (All Keyed) (sym keys) (all_keyed xs)) in
      let again : ps ≡ map (key_of dir) zs = keys-again ps all ∙ ap (map (key_of dir)) (sym are) in
      let first : map (λ (p : PathListed). p.listed) ks ≡ xs = ap (map (λ (p : PathListed). p.listed)) keys ∙ things dir xs in
      let shuffled : IsPermutation xs (map (λ (p : PathListed). p.listed) ps) =
      subst (λ (l : List Listed). IsPermutation l (map (λ (p : PathListed). p.listed) ps)) first (IsPermutation-map (λ (p : PathListed). p.listed) ks ps h.0) in (
        subst (λ (l : List Listed). IsPermutation xs l) (sym are) shuffled,
        sorted-things zs (subst (IsSortedBy (comes_first cmp)) again h.1),
        stable-things xs zs (subst (λ (l : List PathListed). IsStableBy (comes_first cmp) l (map (key_of dir) zs)) keys
            (subst (IsStableBy (comes_first cmp) ks) again h.2)),
      )

-- by any comparison
pub permuted-by_path : (dir : List ℕ) (xs zs : List Listed) (ks ps : List PathListed) → ks ≡ map (key_of dir) xs
    → zs ≡ map (λ (p : PathListed). p.listed) ps → IsPermutation ks ps → IsPermutation xs zs
permuted-by_path dir xs zs ks ps keys are h =
    let first : map (λ (p : PathListed). p.listed) ks ≡ xs = ap (map (λ (p : PathListed). p.listed)) keys ∙ things dir xs in
    subst (λ (l : List Listed). IsPermutation xs l) (sym are)
    (subst (λ (l : List Listed). IsPermutation l (map (λ (p : PathListed). p.listed) ps)) first (IsPermutation-map (λ (p : PathListed). p.listed) ks ps h))
