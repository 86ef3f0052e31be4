-- Matching is a mark at the end, and how many marks there are at least and at most.
use Rattle.std.proofs.Common.{◌≡◌, ◌≤◌, ◌+◌, ◌*◌, ◌↔◌, inl, inr, ℕ, zero, suc, Bool, List, [], ◌∷◌, ◌++◌, length, map, arith, refl, sym, ap}
use Rattle.std.proofs.Common.{subst, length-append}
use Rattle.std.specs.Prelude.{Contains}
use Rattle.std.proofs.lemmas.List.{length-map}
use Rattle.std.proofs.lemmas.List.Elements.{Contains-append_left, Contains-append_right}
use Rattle.std.proofs.Math.Nat.{eq-or-lt_of_le, mul-suc}
use Rattle.ignore_glob.specs.Glob.{Tokens}
use Rattle.ignore_glob.specs.Matches.{glob_matches}
use Rattle.ignore_glob.specs.Positions.{first, Position, the_end, entrance, positions, IsMarked, begins, by_nothing, by_character}
use Rattle.ignore_glob.specs.Positions.{HasNoDuplicates, CountsMarks}
use Rattle.ignore_glob.specs.NodeLists.{glob_nodes}
use Rattle.ignore_glob.proofs.MatchingMarks.{matching_mark}
use Rattle.ignore_glob.proofs.NodeListLemmas.{glob_nodes-are}
use Rattle.ignore_glob.proofs.Once.{at_contains, contains_map, no_longer}
use Rattle.ignore_glob.proofs.Places.{all}
use Rattle.ignore_glob.proofs.PositionMarks.{marks_back, end_marks}
use Rattle.ignore_glob.proofs.MarkCounts.{all_length, marked_within}

-- all pairs of one of these positions and an offset up to this one
abbrev grid : List Position → ℕ → List (Position × ℕ)
grid ps zero = map (λ (p : Position). (p, 0)) ps
grid ps (suc o) = map (λ (p : Position). (p, suc o)) ps ++ grid ps o

grid_length : (ps : List Position) (o : ℕ) → length (grid ps o) ≡ length ps * (o + 1)
grid_length ps zero = let e = length-map {B = Position × ℕ} ps (λ (p : Position). (p, 0)) in omega (arith, e)
grid_length ps (suc o) =
    let more = grid_length ps o in
    let e = length-map {B = Position × ℕ} ps (λ (p : Position). (p, suc o)) in
    let f = length-append (map {B = Position × ℕ} (λ (p : Position). (p, suc o)) ps) (grid ps o) in
    let next : suc o + 1 ≡ suc (o + 1) = omega arith in
    let product : length ps * (suc o + 1) ≡ length ps * suc (o + 1) = ap (λ (k : ℕ). length ps * k) next in
    let m = mul-suc (length ps) (o + 1) in
    omega (arith, e, f, more, product, m)

grid_has : (ps : List Position) (l o : ℕ) (p : Position) → Contains ps p → o ≤ l → Contains (grid ps l) (p, o)
grid_has ps zero o p has h =
    let e : 0 ≡ o = omega arith in
    let P : ℕ → Type 0 = λ n. Contains (grid ps zero) (p, n) in
    subst P e (contains_map (λ (x : Position). (x, 0)) ps p has)
grid_has ps (suc l) o p has h = elim (eq-or-lt_of_le h) [
  | inl e ↦ let P : ℕ → Type 0 = λ n. Contains (grid ps (suc l)) (p, n) in
      subst P (sym e) (Contains-append_left (map (λ (x : Position). (x, suc l)) ps) (grid ps l) (p, suc l)
      (contains_map (λ (x : Position). (x, suc l)) ps p has))
  | inr k ↦ Contains-append_right (map (λ (x : Position). (x, suc l)) ps) (grid ps l) (p, o) (grid_has ps l o p has (omega (arith, k)))
]

module _ (fold : Bool) (ts : Tokens) (text : List ℕ) where
  -- a glob matches a text exactly where the end is marked at the end of the text
  pub matches_mark : glob_matches fold ts text ↔ IsMarked fold ts text the_end (length text)
  matches_mark =
      let a = matching_mark fold (glob_nodes ts) text ts (glob_nodes-are ts) in
      let b = end_marks ts (glob_nodes ts) (glob_nodes-are ts) fold text (length text) in
      ((λ h. b.0 (a.0 h)), (λ m. a.1 (b.1 m)))

  -- a marked position is one of the glob's
  marked_known : (p : Position) (o : ℕ) → IsMarked fold ts text p o → Contains (all ts) p
  marked_known p o m =
      let number = marks_back ts (glob_nodes ts) (glob_nodes-are ts) fold text p o m in
      at_contains (all ts) number.0 p number.1

  pub counts_within : (n : ℕ) → CountsMarks fold ts text n → n ≤ (positions ts + 1) * (length text + 1)
  counts_within n c =
      let l = no_longer c.marks (grid (all ts) (length text)) c.once (λ x has.
      let m = (c.each x.0 x.1).0 has in
      grid_has (all ts) (length text) x.1 x.0 (marked_known x.0 x.1 m) (marked_within fold ts text x.0 x.1 m)) in
      let g = grid_length (all ts) (length text) in
      let a = all_length ts in
      let same : length (all ts) * (length text + 1) ≡ (positions ts + 1) * (length text + 1) = ap (λ (k : ℕ). k * (length text + 1)) a in
      let number = c.number in
      omega (arith, l, g, same, number)

  pub counts_some : (n : ℕ) → CountsMarks fold ts text n → 1 ≤ n
  counts_some n c =
      let has = (c.each (entrance ts first the_end) 0).1 begins in
      let l = has.1 in
      let number = c.number in
      omega (arith, l, number)

  pub counts_one : (n m : ℕ) → CountsMarks fold ts text n → CountsMarks fold ts text m → n ≡ m
  counts_one n m c d =
      let a = no_longer c.marks d.marks c.once (λ x has. (d.each x.0 x.1).1 ((c.each x.0 x.1).0 has)) in
      let b = no_longer d.marks c.marks d.once (λ x has. (c.each x.0 x.1).1 ((d.each x.0 x.1).0 has)) in
      let e = c.number in
      let f = d.number in
      omega (arith, a, b, e, f)

  -- a mark at a later offset comes from one at the offset before
  earlier : (p : Position) (o i : ℕ) → IsMarked fold ts text p o → o ≡ suc i → (q : Position) × IsMarked fold ts text q i
  earlier p o i begins e = absurd (omega (arith, e))
  earlier p o i (by_nothing q r j m s) e = earlier q j i m e
  earlier p o i (by_character q r j c m is s) e =
      let same : j ≡ i = omega (arith, e) in
      let P : ℕ → Type 0 = λ n. IsMarked fold ts text q n in
      (q, subst P same m)

  -- one mark at each offset up to this one
  record Trail (o : ℕ) : Type 0 where
    pub marks : List (Position × ℕ)
    pub each : (x : Position × ℕ) → Contains marks x → (x.1 ≤ o) × IsMarked fold ts text x.0 x.1
    pub once : HasNoDuplicates marks
    pub number : length marks ≡ o + 1

  -- a mark more, at an offset within the same bound
  more_each : (l o : ℕ) (p : Position) (ms : List (Position × ℕ)) → o ≤ l → IsMarked fold ts text p o
      → ((x : Position × ℕ) → Contains ms x → (x.1 ≤ l) × IsMarked fold ts text x.0 x.1) → (x : Position × ℕ) → Contains ((p, o) ∷ ms) x
      → (x.1 ≤ l) × IsMarked fold ts text x.0 x.1
  more_each l o p ms h m each x (zero, lt, e) =
      let P : Position × ℕ → Type 0 = λ y. (y.1 ≤ l) × IsMarked fold ts text y.0 y.1 in
      subst P e (h, m)
  more_each l o p ms h m each x (suc k, lt, e) = each x (k, omega (arith, lt), e)

  trail : (o : ℕ) (p : Position) → IsMarked fold ts text p o → Trail o
  trail zero p m = record {
    marks = (p, 0) ∷ [];
    each = λ x has. more_each 0 0 p [] (omega arith) m (λ y none. absurd (omega (arith, none.1))) x has;
    once = ((λ h. absurd (omega (arith, h.1))), tt);
    number = refl;
  }
  trail (suc o) p m =
      let before = earlier p (suc o) o m refl in
      let more = trail o before.0 before.1 in
      record {
        marks = (p, suc o) ∷ more.marks;
        each = λ x has. more_each (suc o) (suc o) p more.marks (omega arith) m
            (λ y h. let both = more.each y h in let l : y.1 ≤ o = both.0 in (omega (arith, l), both.1)) x has;
        once = ((λ h. let both = more.each (p, suc o) h in let l : suc o ≤ o = both.0 in absurd (omega (arith, l))), more.once);
        number = let e = more.number in omega (arith, e);
      }

  pub counts_matched : (n : ℕ) → CountsMarks fold ts text n → glob_matches fold ts text → length text + 1 ≤ n
  counts_matched n c h =
      let t = trail (length text) the_end (matches_mark.0 h) in
      let l = no_longer t.marks c.marks t.once (λ x has. (c.each x.0 x.1).1 (t.each x has).1) in
      let e = t.number in
      let f = c.number in
      omega (arith, l, e, f)
