-- The number of marks that flags count is the length of a list that has each mark once.
use Rattle.std.proofs.Common.{◌≡◌, ◌≤◌, ◌+◌, ◌↔◌, inl, inr, ℕ, zero, suc, Bool, true, false, List, [], ◌∷◌, ◌++◌, length, map, arith}
use Rattle.std.proofs.Common.{slice_get, Some, refl, sym, ◌∙◌, ap, subst, count_by, length-append}
use Rattle.std.specs.Prelude.{Contains, cond}
use Rattle.std.proofs.lemmas.List.{length-map}
use Rattle.std.proofs.lemmas.List.Sums.{sum_by-cons}
use Rattle.std.proofs.lemmas.List.Elements.{Contains-append_cases, Contains-append_left, Contains-append_right}
use Rattle.std.proofs.lemmas.Option.{slice_get_within}
use Rattle.std.proofs.Math.Nat.{eq-or-lt_of_le}
use Rattle.ignore_glob.specs.Glob.{Tokens}
use Rattle.ignore_glob.specs.Nodes.{Node, AreGlobNodes}
use Rattle.ignore_glob.specs.Flags.{CountAt, Count}
use Rattle.ignore_glob.specs.Positions.{first, Position, the_end, Entry, table, positions, IsMarked, begins, by_nothing, by_character}
use Rattle.ignore_glob.specs.Positions.{HasNoDuplicates, CountsMarks}
use Rattle.ignore_glob.proofs.Once.{contains_at, at_contains, append_once, map_contains, contains_map, map_once}
use Rattle.ignore_glob.proofs.Places.{own, all, all_once}
use Rattle.ignore_glob.proofs.Numbering.{positions_length}
use Rattle.ignore_glob.proofs.PositionMarks.{marks_back, same_marks}

-- the positions whose flags are set
abbrev flagged : List Bool → List Position → List Position
flagged [] ps = []
flagged (b ∷ fs) [] = []
flagged (true ∷ fs) (p ∷ ps) = p ∷ flagged fs ps
flagged (false ∷ fs) (p ∷ ps) = flagged fs ps

flagged_length : (fs : List Bool) (ps : List Position) → length fs ≡ length ps → length (flagged fs ps) ≡ count_by (λ b. b) fs
flagged_length [] ps e = refl
flagged_length (b ∷ fs) [] e = absurd (omega (arith, e))
flagged_length (true ∷ fs) (p ∷ ps) e =
    let more = flagged_length fs ps (omega (arith, e)) in
    let sum : count_by (λ b. b) (true ∷ fs) ≡ 1 + count_by (λ b. b) fs = sum_by-cons (λ b. cond b 1 0) true fs in
    omega (arith, more, sum)
flagged_length (false ∷ fs) (p ∷ ps) e =
    let more = flagged_length fs ps (omega (arith, e)) in
    let sum : count_by (λ b. b) (false ∷ fs) ≡ 0 + count_by (λ b. b) fs = sum_by-cons (λ b. cond b 1 0) false fs in
    omega (arith, more, sum)

flagged_from : (fs : List Bool) (ps : List Position) (x : Position) → Contains (flagged fs ps) x
    → (k : ℕ) × (slice_get fs k ≡ Some true) × (slice_get ps k ≡ Some x)
flagged_from [] ps x h = absurd (omega (arith, h.1))
flagged_from (b ∷ fs) [] x h = absurd (omega (arith, h.1))
flagged_from (true ∷ fs) (p ∷ ps) x (zero, l, e) = (0, refl, ap (λ y. Some y) e)
flagged_from (true ∷ fs) (p ∷ ps) x (suc i, l, e) = let more = flagged_from fs ps x (i, omega (arith, l), e) in (suc more.0, more.1, more.2)
flagged_from (false ∷ fs) (p ∷ ps) x h = let more = flagged_from fs ps x h in (suc more.0, more.1, more.2)

flagged_has : (fs : List Bool) (ps : List Position) (k : ℕ) (x : Position) → slice_get fs k ≡ Some true → slice_get ps k ≡ Some x
    → Contains (flagged fs ps) x
flagged_has [] ps k x f a = absurd (cc f)
flagged_has (b ∷ fs) [] k x f a = absurd (cc a)
flagged_has (true ∷ fs) (p ∷ ps) zero x f a = (0, omega arith, cc a)
flagged_has (false ∷ fs) (p ∷ ps) zero x f a = absurd (cc f)
flagged_has (true ∷ fs) (p ∷ ps) (suc k) x f a =
    let more = contains_at (flagged fs ps) x (flagged_has fs ps k x f a) in at_contains (p ∷ flagged fs ps) (suc more.0) x more.1
flagged_has (false ∷ fs) (p ∷ ps) (suc k) x f a = flagged_has fs ps k x f a

flagged_once : (fs : List Bool) (ps : List Position) → HasNoDuplicates ps → HasNoDuplicates (flagged fs ps)
flagged_once [] ps h = tt
flagged_once (b ∷ fs) [] h = tt
flagged_once (true ∷ fs) (p ∷ ps) h =
    ((λ has. let found = flagged_from fs ps p has in h.0 (at_contains ps found.0 p found.2)), flagged_once fs ps h.1)
flagged_once (false ∷ fs) (p ∷ ps) h = flagged_once fs ps h.1

pub all_length : (ts : Tokens) → length (all ts) ≡ positions ts + 1
all_length ts =
    let a = length-append (own (table ts first the_end)) (the_end ∷ []) in
    let b = length-map (table ts first the_end) (λ (r : Entry). r.0) in
    omega (arith, a, b)

-- a mark's offset is within the text
pub marked_within : (fold : Bool) (ts : Tokens) (text : List ℕ) (p : Position) (o : ℕ) → IsMarked fold ts text p o → o ≤ length text
marked_within fold ts text p o begins = omega arith
marked_within fold ts text p o (by_nothing q r i m s) = marked_within fold ts text q i m
marked_within fold ts text p o (by_character q r i c m is s) = let l = slice_get_within text i c is in omega (arith, l)

module _ (whole : Tokens) (nodes : List Node) (at : AreGlobNodes nodes whole) (fold : Bool) (text : List ℕ) where
  -- a list has the marks of one offset once each; of the offsets up to one
  record HereOnce (o n : ℕ) : Type 0 where
    pub marks : List (Position × ℕ)
    pub each : (p : Position) (i : ℕ) → Contains marks (p, i) ↔ ((i ≡ o) × IsMarked fold whole text p i)
    pub once : HasNoDuplicates marks
    pub number : length marks ≡ n

  record UpToOnce (o n : ℕ) : Type 0 where
    pub marks : List (Position × ℕ)
    pub each : (p : Position) (i : ℕ) → Contains marks (p, i) ↔ ((i ≤ o) × IsMarked fold whole text p i)
    pub once : HasNoDuplicates marks
    pub number : length marks ≡ n

  here_once : (o n : ℕ) → CountAt fold nodes text o n → HereOnce o n
  here_once o n (flags, are, count) =
      let known : List Position = flagged flags (all whole) in
      let pair : Position → Position × ℕ = λ x. (x, o) in
      let len : length flags ≡ length (all whole) = let a = are.len in let b = all_length whole in
      let c = positions_length nodes whole at in omega (arith, a, b, c) in
      record {
        marks = map pair known;
        each = λ p i. (
          (λ h. let found = map_contains pair known (p, i) h in
              let from = flagged_from flags (all whole) found.0 found.1 in
              let same : found.0 ≡ p = ap (λ (y : Position × ℕ). y.0) found.2 in
              let offset : o ≡ i = ap (λ (y : Position × ℕ). y.1) found.2 in
              let m = (same_marks whole nodes at fold text from.0 o found.0 from.2).0 ((are.flagged from.0).0 from.1) in
              let P : Position → Type 0 = λ x. IsMarked fold whole text x o in
              let Q : ℕ → Type 0 = λ j. IsMarked fold whole text p j in
              (sym offset, subst Q offset (subst P same m))),
          (λ h. let e : i ≡ o = h.0 in
              let Q : ℕ → Type 0 = λ j. IsMarked fold whole text p j in
              let found = marks_back whole nodes at fold text p o (subst Q e h.1) in
              let has = flagged_has flags (all whole) found.0 p ((are.flagged found.0).1 found.2) found.1 in
              let R : ℕ → Type 0 = λ j. Contains (map pair known) (p, j) in
              subst R (sym e) (contains_map pair known p has)),
        );
        once = map_once pair (λ a b e. ap (λ (y : Position × ℕ). y.0) e) known (flagged_once flags (all whole) (all_once whole));
        number = let a = length-map known pair in let b = flagged_length flags (all whole) len in a ∙ b ∙ sym count;
      }

  up_to_once : (o n : ℕ) → Count fold nodes text o n → UpToOnce o n
  up_to_once zero n c =
      let h = here_once 0 n c in
      record {
        marks = h.marks;
        each = λ p i. (
          (λ has. let both = (h.each p i).0 has in ((let e : i ≡ 0 = both.0 in omega (arith, e)), both.1)),
          (λ both. (h.each p i).1 ((let l : i ≤ 0 = both.0 in omega (arith, l)), both.1)),
        );
        once = h.once;
        number = h.number;
      }
  up_to_once (suc o) n (before, now, earlier, last, sum) =
      let a = up_to_once o before earlier in
      let b = here_once (suc o) now last in
      record {
        marks = a.marks ++ b.marks;
        each = λ p i. (
          (λ has. elim (Contains-append_cases a.marks b.marks (p, i) has) [
            | inl l ↦ let both = (a.each p i).0 l in ((let k : i ≤ o = both.0 in omega (arith, k)), both.1)
            | inr r ↦ let both = (b.each p i).0 r in ((let k : i ≡ suc o = both.0 in omega (arith, k)), both.1)
          ]),
          (λ both. let k : i ≤ suc o = both.0 in
              elim (eq-or-lt_of_le k) [
                | inl e ↦ Contains-append_right a.marks b.marks (p, i) ((b.each p i).1 (e, both.1))
                | inr l ↦ Contains-append_left a.marks b.marks (p, i) ((a.each p i).1 (omega (arith, l), both.1))
              ]),
        );
        once = append_once a.marks b.marks a.once b.once (λ x l r.
            let low : x.1 ≤ o = ((a.each x.0 x.1).0 l).0 in
            let high : x.1 ≡ suc o = ((b.each x.0 x.1).0 r).0 in
            omega (arith, low, high));
        number = let c = length-append a.marks b.marks in let d = a.number in let e = b.number in omega (arith, c, d, e, sum);
      }

  pub count_marks : (n : ℕ) → Count fold nodes text (length text) n → CountsMarks fold whole text n
  count_marks n c =
      let a = up_to_once (length text) n c in
      record {
        marks = a.marks;
        each = λ p i. ((λ has. ((a.each p i).0 has).1), (λ m. (a.each p i).1 (marked_within fold whole text p i m, m)));
        once = a.once;
        number = a.number;
      }
