-- The marks of literals, alone or after `**/` or `**/*`: a run of them from each place in the text
-- where the literals may begin, as long as both are alike.
use Rattle.std.proofs.Common.{◌≡◌, ◌≤◌, ◌<◌, ◌+◌, ◌⊎◌, inl, inr, ℕ, zero, suc, Bool, true, false, List, [], ◌∷◌, ◌++◌, length, drop, arith}
use Rattle.std.proofs.Common.{slice_get, Some, refl, sym, ◌∙◌, ap, subst, length-append, cond, map}
use Rattle.std.specs.Prelude.{Contains, nat_eq}
use Rattle.std.proofs.lemmas.Bool.{eqb-true, eq-eqb}
use Rattle.std.proofs.lemmas.Bool.Decides.{eqb_tells}
use Rattle.std.proofs.lemmas.List.{length-map}
use Rattle.std.proofs.lemmas.List.Elements.{Contains-append_cases, Contains-append_left, Contains-append_right}
use Rattle.std.proofs.lemmas.Option.{slice_get_within, slice_get-get_or}
use Rattle.std.proofs.Math.Nat.{eq-or-lt_of_le}
use Rattle.ignore_glob.specs.Exact.{common, may_begin, front_marks, later_marks, exact_marks, front_nodes, kind_tokens}
use Rattle.ignore_glob.specs.Glob.{Tokens}
use Rattle.ignore_glob.specs.Nodes.{Node, literal_at, start_at, star_at, until_slash, StepsByNothing, StepsBy, Reached, here, on, SteppedTo}
use Rattle.ignore_glob.specs.Nodes.{Marked, AreGlobNodes}
use Rattle.ignore_glob.specs.Positions.{Position, the_end, IsMarked, HasNoDuplicates, CountsMarks}
use Rattle.ignore_glob.specs.declared.glob.kind.Kind.{Kind}
use Rattle.ignore_glob.specs.declared.glob.kind.Kind.TheVariants.{Whole, Name, End}
use Rattle.ignore_glob.proofs.ExactLemmas.{kind_width, numbered, exact_nodes, front-length}
use Rattle.ignore_glob.proofs.MatchingMarks.{marked_on}
use Rattle.ignore_glob.proofs.NodeListLemmas.{glob_nodes-are}
use Rattle.ignore_glob.proofs.Once.{at_contains, contains_at, append_once, unique_at, map_contains, contains_map}
use Rattle.ignore_glob.proofs.Places.{all, all_once}
use Rattle.ignore_glob.proofs.PositionMarks.{marks_back, same_marks, marks_forward}

-- Lists that are there or not.

abbrev pub Pair : Type 0
Pair = ℕ × ℕ

if_has : (b : Bool) (xs : List Pair) (x : Pair) → Contains (cond b xs []) x → (b ≡ true) × Contains xs x
if_has true xs x h = (refl, h)
if_has false xs x h = absurd (omega (arith, h.1))

has_if : (b : Bool) (xs : List Pair) (x : Pair) → b ≡ true → Contains xs x → Contains (cond b xs []) x
has_if true xs x e h = h
has_if false xs x e h = absurd (cc e)

if_once : (b : Bool) (xs : List Pair) → HasNoDuplicates xs → HasNoDuplicates (cond b xs [])
if_once true xs h = h
if_once false xs h = tt

if_length : (b : Bool) (xs : List Pair) (n : ℕ) → length xs ≡ n → length (cond b xs []) ≡ cond b n 0
if_length true xs n e = e
if_length false xs n e = refl

if_more : (b : Bool) (n k : ℕ) → suc k ≤ cond b (1 + n) 0 → (b ≡ true) × (k ≤ n)
if_more true n k l = (refl, omega (arith, l))
if_more false n k l = absurd (omega (arith, l))

more_if : (b : Bool) (n k : ℕ) → b ≡ true → k ≤ n → suc k ≤ cond b (1 + n) 0
more_if true n k e l = omega (arith, l)
more_if false n k e l = absurd (cc e)

first_has : (x y : Pair) (xs : List Pair) → Contains (x ∷ xs) y → (x ≡ y) ⊎ Contains xs y
first_has x y xs (zero, l, e) = inl e
first_has x y xs (suc k, l, e) = inr (k, omega (arith, l), e)

has_first : (x : Pair) (xs : List Pair) → Contains (x ∷ xs) x
has_first x xs = (0, omega arith, refl)

has_rest : (x y : Pair) (xs : List Pair) → Contains xs y → Contains (x ∷ xs) y
has_rest x y xs h = let at = contains_at xs y h in at_contains (x ∷ xs) (suc at.0) y at.1

abbrev to_pair : ℕ → ℕ → Pair
to_pair a b = (a, b)

both : (a b c d : ℕ) → to_pair a b ≡ to_pair c d → (a ≡ c) × (b ≡ d)
both a b c d e = (ap (λ (x : Pair). x.0) e, ap (λ (x : Pair). x.1) e)

pair : (a b c d : ℕ) → a ≡ c → b ≡ d → to_pair a b ≡ to_pair c d
pair a b c d e f = ap (λ x. to_pair x b) e ∙ ap (λ x. to_pair c x) f

-- The run from one place.

-- the marks of literals that begin at an offset, the first of them at a position
abbrev run : List ℕ → List ℕ → ℕ → ℕ → List Pair
run [] text p o = (p, o) ∷ []
run (c ∷ cs) [] p o = (p, o) ∷ []
run (c ∷ cs) (d ∷ text) p o = (p, o) ∷ cond (nat_eq c d) (run cs text (p + 1) (o + 1)) []

run_length : (cs text : List ℕ) (p o : ℕ) → length (run cs text p o) ≡ 1 + common cs text
run_length [] text p o = omega arith
run_length (c ∷ cs) [] p o = omega arith
run_length (c ∷ cs) (d ∷ text) p o =
    let more = if_length (nat_eq c d) (run cs text (p + 1) (o + 1)) (1 + common cs text) (run_length cs text (p + 1) (o + 1)) in
    omega (arith, more)

-- the pair is so many literals past the first
abbrev pub Past : List ℕ → List ℕ → ℕ → ℕ → ℕ → ℕ → Type 0
Past cs text p o q i = (k : ℕ) × (k ≤ common cs text) × (q ≡ p + k) × (i ≡ o + k)

run_has : (cs text : List ℕ) (p o q i : ℕ) → Contains (run cs text p o) (q, i) → Past cs text p o q i
run_has [] text p o q i h = elim (first_has (p, o) (q, i) [] h) [
  | inl e ↦ let s = both p o q i e in (0, omega arith, omega (arith, s.0), omega (arith, s.1))
  | inr n ↦ absurd (omega (arith, n.1))
]
run_has (c ∷ cs) [] p o q i h = elim (first_has (p, o) (q, i) [] h) [
  | inl e ↦ let s = both p o q i e in (0, omega arith, omega (arith, s.0), omega (arith, s.1))
  | inr n ↦ absurd (omega (arith, n.1))
]
run_has (c ∷ cs) (d ∷ text) p o q i h =
    let more = run cs text (p + 1) (o + 1) in
    elim (first_has (p, o) (q, i) (cond (nat_eq c d) more []) h) [
      | inl e ↦ let s = both p o q i e in (0, omega arith, omega (arith, s.0), omega (arith, s.1))
      | inr n ↦ let there = if_has (nat_eq c d) more (q, i) n in
          let f = run_has cs text (p + 1) (o + 1) q i there.1 in
          (suc f.0, more_if (nat_eq c d) (common cs text) f.0 there.0 f.1, omega (arith, f.2), omega (arith, f.3))
    ]

has_run : (cs text : List ℕ) (p o k q i : ℕ) → k ≤ common cs text → q ≡ p + k → i ≡ o + k → Contains (run cs text p o) (q, i)
has_run [] text p o zero q i l e f =
    let P : Pair → Type 0 = λ x. Contains ((p, o) ∷ []) x in
    subst P (pair p o q i (omega (arith, e)) (omega (arith, f))) (has_first (p, o) [])
has_run [] text p o (suc k) q i l e f = absurd (omega (arith, l))
has_run (c ∷ cs) [] p o zero q i l e f =
    let P : Pair → Type 0 = λ x. Contains ((p, o) ∷ []) x in
    subst P (pair p o q i (omega (arith, e)) (omega (arith, f))) (has_first (p, o) [])
has_run (c ∷ cs) [] p o (suc k) q i l e f = absurd (omega (arith, l))
has_run (c ∷ cs) (d ∷ text) p o zero q i l e f =
    let more = cond (nat_eq c d) (run cs text (p + 1) (o + 1)) [] in
    let P : Pair → Type 0 = λ x. Contains ((p, o) ∷ more) x in
    subst P (pair p o q i (omega (arith, e)) (omega (arith, f))) (has_first (p, o) more)
has_run (c ∷ cs) (d ∷ text) p o (suc k) q i l e f =
    let more = run cs text (p + 1) (o + 1) in
    let s = if_more (nat_eq c d) (common cs text) k l in
    has_rest (p, o) (q, i) (cond (nat_eq c d) more [])
    (has_if (nat_eq c d) more (q, i) s.0 (has_run cs text (p + 1) (o + 1) k q i s.1 (omega (arith, e)) (omega (arith, f))))

run_once : (cs text : List ℕ) (p o : ℕ) → HasNoDuplicates (run cs text p o)
run_once [] text p o = ((λ h. omega (arith, h.1)), tt)
run_once (c ∷ cs) [] p o = ((λ h. omega (arith, h.1)), tt)
run_once (c ∷ cs) (d ∷ text) p o =
    let more = run cs text (p + 1) (o + 1) in (
      (λ h. let f = run_has cs text (p + 1) (o + 1) p o (if_has (nat_eq c d) more (p, o) h).1 in omega (arith, f.2)),
      if_once (nat_eq c d) more (run_once cs text (p + 1) (o + 1)),
    )

-- one literal more where the next one is the next character
run_on : (cs text : List ℕ) (k c : ℕ) → k ≤ common cs text → slice_get cs k ≡ Some c → slice_get text k ≡ Some c → suc k ≤ common cs text
run_on [] text k c l a b = absurd (cc a)
run_on (e ∷ cs) [] k c l a b = absurd (cc b)
run_on (e ∷ cs) (d ∷ text) zero c l a b =
    let same : e ≡ d = cc (a, b) in more_if (nat_eq e d) (common cs text) 0 (eq-eqb e d same) (omega arith)
run_on (e ∷ cs) (d ∷ text) (suc k) c l a b =
    let s = if_more (nat_eq e d) (common cs text) k l in
    more_if (nat_eq e d) (common cs text) (suc k) s.0 (run_on cs text k c s.1 a b)

run_back : (cs text : List ℕ) (k : ℕ) → suc k ≤ common cs text → (c : ℕ) × (slice_get cs k ≡ Some c) × (slice_get text k ≡ Some c)
run_back [] text k l = absurd (omega (arith, l))
run_back (e ∷ cs) [] k l = absurd (omega (arith, l))
run_back (e ∷ cs) (d ∷ text) zero l =
    let s = if_more (nat_eq e d) (common cs text) 0 l in (e, refl, ap (λ x. Some x) (sym (eqb-true e d s.0)))
run_back (e ∷ cs) (d ∷ text) (suc k) l =
    let s = if_more (nat_eq e d) (common cs text) (suc k) l in run_back cs text k s.1

-- The runs that begin after a character.

abbrev later : Kind → List ℕ → List ℕ → ℕ → List Pair
later kind cs [] o = []
later kind cs (d ∷ text) o = cond (may_begin kind d) (run cs text (kind_width kind) (o + 1)) [] ++ later kind cs text (o + 1)

-- literals alone begin nowhere else
pub none_later : (cs text : List ℕ) → later_marks Whole cs text ≡ 0
none_later cs [] = refl
none_later cs (d ∷ text) = let more = none_later cs text in omega (arith, more)

later_length : (kind : Kind) (cs text : List ℕ) (o : ℕ) → length (later kind cs text o) ≡ later_marks kind cs text
later_length kind cs [] o = refl
later_length kind cs (d ∷ text) o =
    let here = run cs text (kind_width kind) (o + 1) in
    let a = if_length (may_begin kind d) here (1 + common cs text) (run_length cs text (kind_width kind) (o + 1)) in
    let b = later_length kind cs text (o + 1) in
    let c = length-append (cond (may_begin kind d) here []) (later kind cs text (o + 1)) in
    omega (arith, a, b, c)

-- the pair is of a run that begins after the character of an index
record Later (kind : Kind) (cs text : List ℕ) (o q i : ℕ) : Type 0 where
  pub at : ℕ
  pub d : ℕ
  pub is : slice_get text at ≡ Some d
  pub may : may_begin kind d ≡ true
  pub past : Past cs (drop (suc at) text) (kind_width kind) (o + suc at) q i

later_has : (kind : Kind) (cs text : List ℕ) (o q i : ℕ) → Contains (later kind cs text o) (q, i) → Later kind cs text o q i
later_has kind cs [] o q i h = absurd (omega (arith, h.1))
later_has kind cs (d ∷ text) o q i h =
    let w = kind_width kind in
    let here = run cs text w (o + 1) in
    elim (Contains-append_cases (cond (may_begin kind d) here []) (later kind cs text (o + 1)) (q, i) h) [
      | inl l ↦ let there = if_has (may_begin kind d) here (q, i) l in
          record { at = 0; d = d; is = refl; may = there.0; past = run_has cs text w (o + 1) q i there.1 }
      | inr r ↦ let f = later_has kind cs text (o + 1) q i r in
          record {
            at = suc f.at;
            d = f.d;
            is = f.is;
            may = f.may;
            past = (f.past.0, f.past.1, f.past.2, let e = f.past.3 in omega (arith, e));
          }
    ]

has_later : (kind : Kind) (cs text : List ℕ) (o at d q i : ℕ) → slice_get text at ≡ Some d → may_begin kind d ≡ true
    → Past cs (drop (suc at) text) (kind_width kind) (o + suc at) q i → Contains (later kind cs text o) (q, i)
has_later kind cs [] o at d q i is may past = absurd (cc is)
has_later kind cs (e ∷ text) o zero d q i is may past =
    let w = kind_width kind in
    let here = run cs text w (o + 1) in
    let same : d ≡ e = cc is in
    let P : ℕ → Type 0 = λ x. may_begin kind x ≡ true in
    Contains-append_left (cond (may_begin kind e) here []) (later kind cs text (o + 1)) (q, i)
    (has_if (may_begin kind e) here (q, i) (subst P same may) (has_run cs text w (o + 1) past.0 q i past.1 past.2 past.3))
has_later kind cs (e ∷ text) o (suc at) d q i is may past =
    let w = kind_width kind in
    let here = run cs text w (o + 1) in
    Contains-append_right (cond (may_begin kind e) here []) (later kind cs text (o + 1)) (q, i)
    (has_later kind cs text (o + 1) at d q i is may (past.0, past.1, past.2, let f = past.3 in omega (arith, f)))

later_once : (kind : Kind) (cs text : List ℕ) (o : ℕ) → HasNoDuplicates (later kind cs text o)
later_once kind cs [] o = tt
later_once kind cs (d ∷ text) o =
    let w = kind_width kind in
    let here = run cs text w (o + 1) in
    append_once (cond (may_begin kind d) here []) (later kind cs text (o + 1))
    (if_once (may_begin kind d) here (run_once cs text w (o + 1)))
    (later_once kind cs text (o + 1))
    (λ x a b. let f = run_has cs text w (o + 1) x.0 x.1 (if_has (may_begin kind d) here x a).1 in
    let g = later_has kind cs text (o + 1) x.0 x.1 b in
    let m = g.past.2 in let n = g.past.3 in
    omega (arith, f.2, f.3, m, n))

-- The positions before the literals.

-- a position at each offset up to one
abbrev line : ℕ → ℕ → List Pair
line p zero = (p, 0) ∷ []
line p (suc o) = (p, suc o) ∷ line p o

line_length : (p o : ℕ) → length (line p o) ≡ o + 1
line_length p zero = omega arith
line_length p (suc o) = let e = line_length p o in omega (arith, e)

line_has : (p o q i : ℕ) → Contains (line p o) (q, i) → (q ≡ p) × (i ≤ o)
line_has p zero q i h = elim (first_has (p, 0) (q, i) [] h) [
  | inl e ↦ let s = both p 0 q i e in (omega (arith, s.0), omega (arith, s.1))
  | inr n ↦ absurd (omega (arith, n.1))
]
line_has p (suc o) q i h = elim (first_has (p, suc o) (q, i) (line p o) h) [
  | inl e ↦ let s = both p (suc o) q i e in (omega (arith, s.0), omega (arith, s.1))
  | inr n ↦ let f = line_has p o q i n in (f.0, omega (arith, f.1))
]

has_line : (p o q i : ℕ) → q ≡ p → i ≤ o → Contains (line p o) (q, i)
has_line p zero q i e l =
    let P : Pair → Type 0 = λ x. Contains ((p, 0) ∷ []) x in
    subst P (pair p 0 q i (sym e) (omega (arith, l))) (has_first (p, 0) [])
has_line p (suc o) q i e l = elim (eq-or-lt_of_le l) [
  | inl same ↦ let P : Pair → Type 0 = λ x. Contains ((p, suc o) ∷ line p o) x in
      subst P (pair p (suc o) q i (sym e) (sym same)) (has_first (p, suc o) (line p o))
  | inr less ↦ has_rest (p, suc o) (q, i) (line p o) (has_line p o q i e (omega (arith, less)))
]

line_once : (p o : ℕ) → HasNoDuplicates (line p o)
line_once p zero = ((λ h. omega (arith, h.1)), tt)
line_once p (suc o) = ((λ h. let f = line_has p o p (suc o) h in omega (arith, f.1)), line_once p o)

abbrev front : Kind → ℕ → List Pair
front Whole o = []
front Name o = (0, 0) ∷ line 1 o
front End o = (0, 0) ∷ (line 1 o ++ line 2 o)

front_length : (kind : Kind) (text : List ℕ) → length (front kind (length text)) ≡ front_marks kind text
front_length Whole text = refl
front_length Name text = let a = line_length 1 (length text) in omega (arith, a)
front_length End text =
    let o = length text in
    let a = line_length 1 o in let b = line_length 2 o in let c = length-append (line 1 o) (line 2 o) in omega (arith, a, b, c)

-- the first at the start; its inside and the star at each offset
abbrev pub Before : Kind → ℕ → ℕ → ℕ → Type 0
Before Whole o q i = ⊥
Before Name o q i = ((q ≡ 0) × (i ≡ 0)) ⊎ ((q ≡ 1) × (i ≤ o))
Before End o q i = ((q ≡ 0) × (i ≡ 0)) ⊎ (((q ≡ 1) × (i ≤ o)) ⊎ ((q ≡ 2) × (i ≤ o)))

front_has : (kind : Kind) (o q i : ℕ) → Contains (front kind o) (q, i) → Before kind o q i
front_has Whole o q i h = absurd (omega (arith, h.1))
front_has Name o q i h = elim (first_has (0, 0) (q, i) (line 1 o) h) [
  | inl e ↦ let s = both 0 0 q i e in inl (sym s.0, sym s.1)
  | inr n ↦ inr (line_has 1 o q i n)
]
front_has End o q i h = elim (first_has (0, 0) (q, i) (line 1 o ++ line 2 o) h) [
  | inl e ↦ let s = both 0 0 q i e in inl (sym s.0, sym s.1)
  | inr n ↦ inr (elim (Contains-append_cases (line 1 o) (line 2 o) (q, i) n) [
    | inl l ↦ inl (line_has 1 o q i l)
    | inr r ↦ inr (line_has 2 o q i r)
  ])
]

has_front : (kind : Kind) (o q i : ℕ) → Before kind o q i → Contains (front kind o) (q, i)
has_front Whole o q i h = absurd h
has_front Name o q i (inl e) =
    let P : Pair → Type 0 = λ x. Contains ((0, 0) ∷ line 1 o) x in subst P (pair 0 0 q i (sym e.0) (sym e.1)) (has_first (0, 0) (line 1 o))
has_front Name o q i (inr l) = has_rest (0, 0) (q, i) (line 1 o) (has_line 1 o q i l.0 l.1)
has_front End o q i (inl e) =
    let all = line 1 o ++ line 2 o in
    let P : Pair → Type 0 = λ x. Contains ((0, 0) ∷ all) x in subst P (pair 0 0 q i (sym e.0) (sym e.1)) (has_first (0, 0) all)
has_front End o q i (inr (inl l)) =
    has_rest (0, 0) (q, i) (line 1 o ++ line 2 o) (Contains-append_left (line 1 o) (line 2 o) (q, i) (has_line 1 o q i l.0 l.1))
has_front End o q i (inr (inr l)) =
    has_rest (0, 0) (q, i) (line 1 o ++ line 2 o) (Contains-append_right (line 1 o) (line 2 o) (q, i) (has_line 2 o q i l.0 l.1))

front_once : (kind : Kind) (o : ℕ) → HasNoDuplicates (front kind o)
front_once Whole o = tt
front_once Name o = ((λ h. let f = line_has 1 o 0 0 h in omega (arith, f.0)), line_once 1 o)
front_once End o = (
  (λ h. elim (Contains-append_cases (line 1 o) (line 2 o) (0, 0) h) [
    | inl l ↦ let f = line_has 1 o 0 0 l in omega (arith, f.0)
    | inr r ↦ let f = line_has 2 o 0 0 r in omega (arith, f.0)
  ]),
  append_once (line 1 o) (line 2 o) (line_once 1 o) (line_once 2 o)
      (λ x a b. let f = line_has 1 o x.0 x.1 a in let g = line_has 2 o x.0 x.1 b in omega (arith, f.0, g.0)),
)

before_low : (kind : Kind) (o q i : ℕ) → Before kind o q i → q < kind_width kind
before_low Whole o q i h = absurd h
before_low Name o q i (inl e) = omega (arith, e.0)
before_low Name o q i (inr l) = omega (arith, l.0)
before_low End o q i (inl e) = omega (arith, e.0)
before_low End o q i (inr (inl l)) = omega (arith, l.0)
before_low End o q i (inr (inr l)) = omega (arith, l.0)

-- All of them.

abbrev pub pairs : Kind → List ℕ → List ℕ → List Pair
pairs kind cs text = front kind (length text) ++ (run cs text (kind_width kind) 0 ++ later kind cs text 0)

pub pairs_length : (kind : Kind) (cs text : List ℕ) → length (pairs kind cs text) ≡ exact_marks kind cs text
pairs_length kind cs text =
    let runs = run cs text (kind_width kind) 0 in
    let a = length-append (front kind (length text)) (runs ++ later kind cs text 0) in
    let b = length-append runs (later kind cs text 0) in
    let c = front_length kind text in
    let d = run_length cs text (kind_width kind) 0 in
    let e = later_length kind cs text 0 in
    omega (arith, a, b, c, d, e)

-- a run may begin at the offset
abbrev pub Begins : Kind → List ℕ → ℕ → Type 0
Begins kind text s = (s ≡ 0) ⊎ ((at d : ℕ) × (s ≡ suc at) × (slice_get text at ≡ Some d) × (may_begin kind d ≡ true))

-- the pair is of a run
abbrev pub InRun : Kind → List ℕ → List ℕ → ℕ → ℕ → Type 0
InRun kind cs text q i = (s : ℕ) × Begins kind text s × Past cs (drop s text) (kind_width kind) s q i

abbrev pub Known : Kind → List ℕ → List ℕ → ℕ → ℕ → Type 0
Known kind cs text q i = Before kind (length text) q i ⊎ InRun kind cs text q i

runs_known : (kind : Kind) (cs text : List ℕ) (q i : ℕ)
    → Contains (run cs text (kind_width kind) 0 ++ later kind cs text 0) (q, i) → InRun kind cs text q i
runs_known kind cs text q i h =
    elim (Contains-append_cases (run cs text (kind_width kind) 0) (later kind cs text 0) (q, i) h) [
      | inl l ↦ (0, inl refl, run_has cs text (kind_width kind) 0 q i l)
      | inr r ↦ let f = later_has kind cs text 0 q i r in
          (suc f.at, inr (f.at, f.d, refl, f.is, f.may), (f.past.0, f.past.1, f.past.2, let e = f.past.3 in omega (arith, e)))
    ]

known_runs : (kind : Kind) (cs text : List ℕ) (q i : ℕ) → InRun kind cs text q i
    → Contains (run cs text (kind_width kind) 0 ++ later kind cs text 0) (q, i)
known_runs kind cs text q i (s, inl e, past) =
    let P : ℕ → Type 0 = λ x. Past cs (drop x text) (kind_width kind) x q i in
    let f = subst P e past in
    Contains-append_left (run cs text (kind_width kind) 0) (later kind cs text 0) (q, i)
    (has_run cs text (kind_width kind) 0 f.0 q i f.1 f.2 f.3)
known_runs kind cs text q i (s, inr (at, d, e, is, may), past) =
    let P : ℕ → Type 0 = λ x. Past cs (drop x text) (kind_width kind) x q i in
    let f = subst P e past in
    Contains-append_right (run cs text (kind_width kind) 0) (later kind cs text 0) (q, i)
    (has_later kind cs text 0 at d q i is may (f.0, f.1, f.2, let g = f.3 in omega (arith, g)))

pub pairs_known : (kind : Kind) (cs text : List ℕ) (q i : ℕ) → Contains (pairs kind cs text) (q, i) → Known kind cs text q i
pairs_known kind cs text q i h =
    let runs = run cs text (kind_width kind) 0 ++ later kind cs text 0 in
    elim (Contains-append_cases (front kind (length text)) runs (q, i) h) [
      | inl l ↦ inl (front_has kind (length text) q i l)
      | inr r ↦ inr (runs_known kind cs text q i r)
    ]

pub known_pairs : (kind : Kind) (cs text : List ℕ) (q i : ℕ) → Known kind cs text q i → Contains (pairs kind cs text) (q, i)
known_pairs kind cs text q i (inl b) =
    Contains-append_left (front kind (length text)) (run cs text (kind_width kind) 0 ++ later kind cs text 0) (q, i)
    (has_front kind (length text) q i b)
known_pairs kind cs text q i (inr r) =
    Contains-append_right (front kind (length text)) (run cs text (kind_width kind) 0 ++ later kind cs text 0) (q, i)
    (known_runs kind cs text q i r)

pub pairs_once : (kind : Kind) (cs text : List ℕ) → HasNoDuplicates (pairs kind cs text)
pairs_once kind cs text =
    let w = kind_width kind in
    let runs = run cs text w 0 ++ later kind cs text 0 in
    append_once (front kind (length text)) runs (front_once kind (length text))
    (append_once (run cs text w 0) (later kind cs text 0) (run_once cs text w 0) (later_once kind cs text 0)
    (λ x a b. let f = run_has cs text w 0 x.0 x.1 a in let g = later_has kind cs text 0 x.0 x.1 b in
    let m = g.past.2 in let n = g.past.3 in omega (arith, f.2, f.3, m, n)))
    (λ x a b. let low = before_low kind (length text) x.0 x.1 (front_has kind (length text) x.0 x.1 a) in
    let r = runs_known kind cs text x.0 x.1 b in
    let e = r.2.2 in omega (arith, low, e))

-- The nodes.

get_past : {X : Type 0} → (xs ys : List X) (j k : ℕ) → j ≡ length xs + k → slice_get (xs ++ ys) j ≡ slice_get ys k
get_past [] ys j k e = ap (λ n. slice_get ys n) (omega (arith, e))
get_past (x ∷ xs) ys zero k e = absurd (omega (arith, e))
get_past (x ∷ xs) ys (suc j) k e = get_past xs ys j k (omega (arith, e))

numbered_get : (b : ℕ) (cs : List ℕ) (k c n : ℕ) → slice_get cs k ≡ Some c → n ≡ b + k + 1 → slice_get (numbered b cs) k ≡ Some (literal_at c n)
numbered_get b [] k c n at e = absurd (cc at)
numbered_get b (d ∷ cs) zero c n at e =
    let same : d ≡ c = cc at in
    let next : b + 1 ≡ n = omega (arith, e) in
    ap (λ x. Some (literal_at x (b + 1))) same ∙ ap (λ x. Some (literal_at c x)) next
numbered_get b (d ∷ cs) (suc k) c n at e = numbered_get (b + 1) cs k c n at (omega (arith, e))

get_numbered : (b : ℕ) (cs : List ℕ) (k : ℕ) (node : Node) → slice_get (numbered b cs) k ≡ Some node
    → (c : ℕ) × (slice_get cs k ≡ Some c) × (literal_at c (b + k + 1) ≡ node)
get_numbered b [] k node at = absurd (cc at)
get_numbered b (d ∷ cs) zero node at =
    let next : b + 0 + 1 ≡ b + 1 = omega arith in
    (d, refl, ap (λ n. literal_at d n) next ∙ cc at)
get_numbered b (d ∷ cs) (suc k) node at =
    let f = get_numbered (b + 1) cs k node at in
    let next : b + suc k + 1 ≡ b + 1 + k + 1 = omega arith in
    (f.0, f.1, ap (λ n. literal_at f.0 n) next ∙ f.2)

abbrev pub kind_nodes : Kind → List ℕ → List Node
kind_nodes kind cs = front_nodes kind ++ numbered (kind_width kind) cs

literal_here : (kind : Kind) (cs : List ℕ) (q k : ℕ) → q ≡ kind_width kind + k
    → slice_get (kind_nodes kind cs) q ≡ slice_get (numbered (kind_width kind) cs) k
literal_here kind cs q k e =
    let w = front-length kind in
    get_past (front_nodes kind) (numbered (kind_width kind) cs) q k (omega (arith, e, w))

-- Marked pairs are known.

-- the character of an offset within the text, and what follows the text up to it
get_drop : (text : List ℕ) (s k : ℕ) → slice_get (drop s text) k ≡ slice_get text (s + k)
get_drop text zero k = let e : k ≡ 0 + k = omega arith in ap (λ n. slice_get text n) e
get_drop [] (suc s) k = refl
get_drop (d ∷ text) (suc s) k =
    let e : suc (s + k) ≡ suc s + k = omega arith in get_drop text s k ∙ ap (λ n. slice_get (d ∷ text) n) e

begins_end : (text : List ℕ) (s : ℕ) → s ≤ length text → Begins End text s
begins_end text zero l = inl refl
begins_end text (suc s) l =
    let at = slice_get-get_or text s 0 (omega (arith, l)) in inr (s, _, refl, at, refl)

nodes_at : (kind : Kind) (cs : List ℕ) (p p2 : ℕ) (node : Node) → p ≡ p2 → slice_get (kind_nodes kind cs) p ≡ Some node
    → slice_get (kind_nodes kind cs) p2 ≡ Some node
nodes_at kind cs p p2 node e at = let P : ℕ → Type 0 = λ n. slice_get (kind_nodes kind cs) n ≡ Some node in subst P e at

-- what stands where a literal is
literal_there : (kind : Kind) (cs : List ℕ) (q k : ℕ) (node : Node) → q ≡ kind_width kind + k → slice_get (kind_nodes kind cs) q ≡ Some node
    → (c : ℕ) × (slice_get cs k ≡ Some c) × (literal_at c (kind_width kind + k + 1) ≡ node)
literal_there kind cs q k node e at = get_numbered (kind_width kind) cs k node (sym (literal_here kind cs q k e) ∙ at)

start_known : (kind : Kind) (cs text : List ℕ) → Known kind cs text 0 0
start_known Whole cs text = inr (0, inl refl, (0, omega arith, refl, refl))
start_known Name cs text = inl (inl (refl, refl))
start_known End cs text = inl (inl (refl, refl))

begun : (kind : Kind) (cs text : List ℕ) (q i : ℕ) → Begins kind text i → q ≡ kind_width kind → InRun kind cs text q i
begun kind cs text q i b e = (i, b, (0, omega arith, omega (arith, e), omega arith))

nothing_on : (kind : Kind) (cs text : List ℕ) (p i q : ℕ) (node : Node) → Known kind cs text p i → slice_get (kind_nodes kind cs) p ≡ Some node
    → StepsByNothing node p q → Known kind cs text q i
nothing_on kind cs text p i q node (inr (s, b, (k, l, e, f))) at step =
    let lit = literal_there kind cs p k node e at in
    let P : Node → Type 0 = λ x. StepsByNothing x p q in
    absurd (subst P (sym lit.2) step)
nothing_on Whole cs text p i q node (inl b) at step = absurd b
nothing_on Name cs text p i q node (inl (inl e)) at step =
    let same : start_at 2 ≡ node = cc (nodes_at Name cs p 0 node e.0 at) in
    let P : Node → Type 0 = λ x. StepsByNothing x p q in
    elim (subst P (sym same) step) [
      | inl n ↦ inl (inr (omega (arith, n, e.0), omega (arith, e.1)))
      | inr n ↦ let R : ℕ → Type 0 = λ x. Begins Name text x in inr (begun Name cs text q i (subst R (sym e.1) (inl refl)) n)
    ]
nothing_on Name cs text p i q node (inl (inr l)) at step =
    let same : until_slash 2 ≡ node = cc (nodes_at Name cs p 1 node l.0 at) in
    let P : Node → Type 0 = λ x. StepsByNothing x p q in
    absurd (subst P (sym same) step)
nothing_on End cs text p i q node (inl (inl e)) at step =
    let same : start_at 2 ≡ node = cc (nodes_at End cs p 0 node e.0 at) in
    let P : Node → Type 0 = λ x. StepsByNothing x p q in
    elim (subst P (sym same) step) [
      | inl n ↦ inl (inr (inl (omega (arith, n, e.0), omega (arith, e.1))))
      | inr n ↦ inl (inr (inr (n, omega (arith, e.1))))
    ]
nothing_on End cs text p i q node (inl (inr (inl l))) at step =
    let same : until_slash 2 ≡ node = cc (nodes_at End cs p 1 node l.0 at) in
    let P : Node → Type 0 = λ x. StepsByNothing x p q in
    absurd (subst P (sym same) step)
nothing_on End cs text p i q node (inl (inr (inr l))) at step =
    let same : star_at 3 ≡ node = cc (nodes_at End cs p 2 node l.0 at) in
    let P : Node → Type 0 = λ x. StepsByNothing x p q in
    inr (begun End cs text q i (begins_end text i l.1) (subst P (sym same) step))

character_on : (kind : Kind) (cs text : List ℕ) (p i q c : ℕ) (node : Node) → Known kind cs text p i → slice_get text i ≡ Some c
    → slice_get (kind_nodes kind cs) p ≡ Some node → StepsBy false node c p q → Known kind cs text q (suc i)
character_on kind cs text p i q c node (inr (s, b, (k, l, e, f))) is at step =
    let lit = literal_there kind cs p k node e at in
    let P : Node → Type 0 = λ x. StepsBy false x c p q in
    let by = subst P (sym lit.2) step in
    let same : slice_get cs k ≡ Some c = lit.1 ∙ ap (λ x. Some x) (sym by.0) in
    let there : slice_get (drop s text) k ≡ Some c = get_drop text s k ∙ (ap (λ n. slice_get text n) (sym f) ∙ is) in
    let next = by.1 in
    inr (s, b, (suc k, run_on cs (drop s text) k c l same there, omega (arith, next), omega (arith, f)))
character_on Whole cs text p i q c node (inl b) is at step = absurd b
character_on Name cs text p i q c node (inl (inl e)) is at step =
    let same : start_at 2 ≡ node = cc (nodes_at Name cs p 0 node e.0 at) in
    let P : Node → Type 0 = λ x. StepsBy false x c p q in
    absurd (subst P (sym same) step)
character_on Name cs text p i q c node (inl (inr l)) is at step =
    let same : until_slash 2 ≡ node = cc (nodes_at Name cs p 1 node l.0 at) in
    let P : Node → Type 0 = λ x. StepsBy false x c p q in
    elim (subst P (sym same) step) [
      | inl n ↦ inl (inr (omega (arith, n, l.0), slice_get_within text i c is))
      | inr n ↦ inr (begun Name cs text q (suc i) (inr (i, c, refl, is, eq-eqb c 47 n.0)) n.1)
    ]
character_on End cs text p i q c node (inl (inl e)) is at step =
    let same : start_at 2 ≡ node = cc (nodes_at End cs p 0 node e.0 at) in
    let P : Node → Type 0 = λ x. StepsBy false x c p q in
    absurd (subst P (sym same) step)
character_on End cs text p i q c node (inl (inr (inl l))) is at step =
    let same : until_slash 2 ≡ node = cc (nodes_at End cs p 1 node l.0 at) in
    let P : Node → Type 0 = λ x. StepsBy false x c p q in
    elim (subst P (sym same) step) [
      | inl n ↦ inl (inr (inl (omega (arith, n, l.0), slice_get_within text i c is)))
      | inr n ↦ inl (inr (inr (n.1, slice_get_within text i c is)))
    ]
character_on End cs text p i q c node (inl (inr (inr l))) is at step =
    let same : star_at 3 ≡ node = cc (nodes_at End cs p 2 node l.0 at) in
    let P : Node → Type 0 = λ x. StepsBy false x c p q in
    let by = subst P (sym same) step in
    let stays = by.1 in
    inl (inr (inr (omega (arith, stays, l.0), slice_get_within text i c is)))

module _ (kind : Kind) (cs text : List ℕ) where
  reached_known : (S : ℕ → Type 0) (i : ℕ) → ((q : ℕ) → S q → Known kind cs text q i) → (q : ℕ) → Reached (kind_nodes kind cs) S q
      → Known kind cs text q i
  reached_known S i from q (here k s) = from k s
  reached_known S i from q (on p k node m at s) = nothing_on kind cs text p i k node (reached_known S i from p m) at s

  pub marked_known : (i q : ℕ) → Marked false (kind_nodes kind cs) text i q → Known kind cs text q i
  marked_known zero q m =
      reached_known (λ k. k ≡ 0) 0 (λ k e. let P : ℕ → Type 0 = λ n. Known kind cs text n 0 in subst P (sym e) (start_known kind cs text)) q m
  marked_known (suc i) q m =
      reached_known (λ k. (c : ℕ) × (slice_get text i ≡ Some c) × SteppedTo false (kind_nodes kind cs) (Marked false (kind_nodes kind cs) text i) c k)
      (suc i)
      (λ k s. character_on kind cs text s.2.0 i k s.0 s.2.1 (marked_known i s.2.0 s.2.2) s.1 s.2.3 s.2.4)
      q m

-- Known pairs are marked.

character_at : (text : List ℕ) (i : ℕ) → suc i ≤ length text → (c : ℕ) × (slice_get text i ≡ Some c)
character_at text i l = (_, slice_get-get_or text i 0 l)

module _ (nodes : List Node) (text : List ℕ) where
  marked_by : (i p q c : ℕ) (node : Node) → Marked false nodes text i p → slice_get text i ≡ Some c → slice_get nodes p ≡ Some node
      → StepsBy false node c p q → Marked false nodes text (suc i) q
  marked_by i p q c node m is at s = here q (c, is, (p, node, m, at, s))

  marked_start : Marked false nodes text 0 0
  marked_start = here 0 refl

  inside_marked : slice_get nodes 0 ≡ Some (start_at 2) → slice_get nodes 1 ≡ Some (until_slash 2) → (i : ℕ) → i ≤ length text
      → Marked false nodes text i 1
  inside_marked a b zero l = on 0 1 (start_at 2) marked_start a (inl refl)
  inside_marked a b (suc i) l =
      let c = character_at text i l in
      marked_by i 1 1 c.0 (until_slash 2) (inside_marked a b i (omega (arith, l))) c.1 b (inl refl)

  star_marked : slice_get nodes 0 ≡ Some (start_at 2) → slice_get nodes 1 ≡ Some (until_slash 2) → slice_get nodes 2 ≡ Some (star_at 3)
      → (i : ℕ) → i ≤ length text → Marked false nodes text i 2
  star_marked a b s zero l = on 0 2 (start_at 2) marked_start a (inr refl)
  star_marked a b s (suc i) l =
      let c = character_at text i l in
      elim (eqb_tells c.0 47) [
        | inl e ↦ marked_by i 1 2 c.0 (until_slash 2) (inside_marked a b i (omega (arith, l))) c.1 b (inr (e.1, refl))
        | inr n ↦ marked_by i 2 2 c.0 (star_at 3) (star_marked a b s i (omega (arith, l))) c.1 s (n.1, refl)
      ]

begins_within : (kind : Kind) (text : List ℕ) (s : ℕ) → Begins kind text s → s ≤ length text
begins_within kind text s (inl e) = omega (arith, e)
begins_within kind text s (inr (at, d, e, is, may)) = let l = slice_get_within text at d is in omega (arith, e, l)

marked_to : (nodes : List Node) (text : List ℕ) (i i2 q q2 : ℕ) → i ≡ i2 → q ≡ q2 → Marked false nodes text i q → Marked false nodes text i2 q2
marked_to nodes text i i2 q q2 e f m =
    let P : ℕ → Type 0 = λ n. Marked false nodes text n q in
    let Q : ℕ → Type 0 = λ n. Marked false nodes text i2 n in
    subst Q f (subst P e m)

-- where a run begins, its first position is marked
begin_marked : (kind : Kind) (cs text : List ℕ) (s : ℕ) → Begins kind text s → Marked false (kind_nodes kind cs) text s (kind_width kind)
begin_marked Whole cs text s (inl e) = marked_to (kind_nodes Whole cs) text 0 s 0 0 (sym e) refl (here 0 refl)
begin_marked Whole cs text s (inr (at, d, e, is, may)) = absurd (cc may)
begin_marked Name cs text s (inl e) =
    marked_to (kind_nodes Name cs) text 0 s 2 2 (sym e) refl (on 0 2 (start_at 2) (here 0 refl) refl (inr refl))
begin_marked Name cs text s (inr (at, d, e, is, may)) =
    let nodes = kind_nodes Name cs in
    let l = slice_get_within text at d is in
    marked_to nodes text (suc at) s 2 2 (sym e) refl
    (marked_by nodes text at 1 2 d (until_slash 2) (inside_marked nodes text refl refl at (omega (arith, l))) is refl (inr (eqb-true d 47 may, refl)))
begin_marked End cs text s b =
    let nodes = kind_nodes End cs in
    marked_on false nodes text s 2 3 (star_at 3) (star_marked nodes text refl refl refl s (begins_within End text s b)) refl refl

run_marked : (kind : Kind) (cs text : List ℕ) (s k : ℕ) → Begins kind text s → k ≤ common cs (drop s text)
    → Marked false (kind_nodes kind cs) text (s + k) (kind_width kind + k)
run_marked kind cs text s zero b l =
    marked_to (kind_nodes kind cs) text s (s + 0) (kind_width kind) (kind_width kind + 0) (omega arith) (omega arith) (begin_marked kind cs text s b)
run_marked kind cs text s (suc k) b l =
    let nodes = kind_nodes kind cs in
    let w = kind_width kind in
    let found = run_back cs (drop s text) k l in
    let there : slice_get text (s + k) ≡ Some found.0 = sym (get_drop text s k) ∙ found.2 in
    let node = literal_here kind cs (w + k) k refl ∙ numbered_get w cs k found.0 (w + k + 1) found.1 refl in
    marked_to nodes text (suc (s + k)) (s + suc k) (w + k + 1) (w + suc k) (omega arith) (omega arith)
    (marked_by nodes text (s + k) (w + k) (w + k + 1) found.0 (literal_at found.0 (w + k + 1))
    (run_marked kind cs text s k b (omega (arith, l))) there node (refl, refl))

pub known_marked : (kind : Kind) (cs text : List ℕ) (q i : ℕ) → Known kind cs text q i → Marked false (kind_nodes kind cs) text i q
known_marked kind cs text q i (inr (s, b, (k, l, e, f))) =
    marked_to (kind_nodes kind cs) text (s + k) i (kind_width kind + k) q (sym f) (sym e) (run_marked kind cs text s k b l)
known_marked Whole cs text q i (inl b) = absurd b
known_marked Name cs text q i (inl (inl e)) = marked_to (kind_nodes Name cs) text 0 i 0 q (sym e.1) (sym e.0) (here 0 refl)
known_marked Name cs text q i (inl (inr l)) =
    let nodes = kind_nodes Name cs in marked_to nodes text i i 1 q refl (sym l.0) (inside_marked nodes text refl refl i l.1)
known_marked End cs text q i (inl (inl e)) = marked_to (kind_nodes End cs) text 0 i 0 q (sym e.1) (sym e.0) (here 0 refl)
known_marked End cs text q i (inl (inr (inl l))) =
    let nodes = kind_nodes End cs in marked_to nodes text i i 1 q refl (sym l.0) (inside_marked nodes text refl refl i l.1)
known_marked End cs text q i (inl (inr (inr l))) =
    let nodes = kind_nodes End cs in marked_to nodes text i i 2 q refl (sym l.0) (star_marked nodes text refl refl refl i l.1)

-- The number of marks, by pairs of a number and an offset.

-- the position of a number
abbrev position : List Position → ℕ → Position
position [] k = the_end
position (p ∷ ps) zero = p
position (p ∷ ps) (suc k) = position ps k

position_at : (ps : List Position) (k : ℕ) (p : Position) → slice_get ps k ≡ Some p → position ps k ≡ p
position_at [] k p at = absurd (cc at)
position_at (x ∷ ps) zero p at = cc at
position_at (x ∷ ps) (suc k) p at = position_at ps k p at

at_position : (ps : List Position) (k : ℕ) → k < length ps → slice_get ps k ≡ Some (position ps k)
at_position [] k l = absurd (omega (arith, l))
at_position (x ∷ ps) zero l = refl
at_position (x ∷ ps) (suc k) l = at_position ps k (omega (arith, l))

abbrev placed : List Position → Pair → Position × ℕ
placed ps x = (position ps x.0, x.1)

placed_once : (ps : List Position) → HasNoDuplicates ps → (xs : List Pair) → ((x : Pair) → Contains xs x → x.0 < length ps)
    → HasNoDuplicates xs → HasNoDuplicates (map (placed ps) xs)
placed_once ps once [] within h = tt
placed_once ps once (x ∷ xs) within h = (
  (λ k. let found = map_contains (placed ps) xs (placed ps x) k in
      let y = found.0 in
      let same : position ps y.0 ≡ position ps x.0 = ap (λ (z : Position × ℕ). z.0) found.2 in
      let offset : y.1 ≡ x.1 = ap (λ (z : Position × ℕ). z.1) found.2 in
      let mine = at_position ps x.0 (within x (has_first x xs)) in
      let other = at_position ps y.0 (within y (has_rest x y xs found.1)) in
      let number : y.0 ≡ x.0 = unique_at ps y.0 x.0 (position ps x.0) once (other ∙ ap (λ p. Some p) same) mine in
      let P : Pair → Type 0 = λ z. Contains xs z in
      h.0 (subst P (pair y.0 y.1 x.0 x.1 number offset) found.1)),
  placed_once ps once xs (λ y k. within y (has_rest x y xs k)) h.1,
)

number_within : (whole : Tokens) (nodes : List Node) (at : AreGlobNodes nodes whole) (text : List ℕ) (q i : ℕ) → Marked false nodes text i q
    → q < length (all whole)
number_within whole nodes at text q i m =
    let found = marks_forward whole nodes at false text i q m in slice_get_within (all whole) q found.0 found.1

pub pairs_count : (whole : Tokens) (nodes : List Node) (at : AreGlobNodes nodes whole) (text : List ℕ) (xs : List Pair)
    → ((q i : ℕ) → Contains xs (q, i) → Marked false nodes text i q) → ((q i : ℕ) → Marked false nodes text i q → Contains xs (q, i))
    → HasNoDuplicates xs → CountsMarks false whole text (length xs)
pairs_count whole nodes at text xs sound complete once =
    let ps = all whole in
    let within : (x : Pair) → Contains xs x → x.0 < length ps = λ x h. number_within whole nodes at text x.0 x.1 (sound x.0 x.1 h) in
    record {
      marks = map (placed ps) xs;
      each = λ p i. (
        (λ h. let found = map_contains (placed ps) xs (p, i) h in
            let x = found.0 in
            let is = at_position ps x.0 (within x found.1) in
            let m = (same_marks whole nodes at false text x.0 x.1 (position ps x.0) is).0 (sound x.0 x.1 found.1) in
            let same : position ps x.0 ≡ p = ap (λ (z : Position × ℕ). z.0) found.2 in
            let offset : x.1 ≡ i = ap (λ (z : Position × ℕ). z.1) found.2 in
            let P : Position → Type 0 = λ z. IsMarked false whole text z x.1 in
            let Q : ℕ → Type 0 = λ j. IsMarked false whole text p j in
            subst Q offset (subst P same m)),
        (λ m. let found = marks_back whole nodes at false text p i m in
            let same : placed ps (found.0, i) ≡ (p, i) = ap (λ z. (z, i)) (position_at ps found.0 p found.1) in
            let P : Position × ℕ → Type 0 = λ z. Contains (map (placed ps) xs) z in
            subst P same (contains_map (placed ps) xs (found.0, i) (complete found.0 i found.2))),
      );
      once = placed_once ps (all_once whole) xs within once;
      number = length-map xs (placed ps);
    }

-- the marks of literals are so many
pub counts_exact : (kind : Kind) (cs text : List ℕ) → 0 < length cs → CountsMarks false (kind_tokens kind cs) text (exact_marks kind cs text)
counts_exact kind cs text some =
    let whole = kind_tokens kind cs in
    let P : List Node → Type 0 = λ nodes. AreGlobNodes nodes whole in
    let at = subst P (exact_nodes kind cs some) (glob_nodes-are whole) in
    let Q : ℕ → Type 0 = λ n. CountsMarks false whole text n in
    subst Q (pairs_length kind cs text)
    (pairs_count whole (kind_nodes kind cs) at text (pairs kind cs text)
    (λ q i h. known_marked kind cs text q i (pairs_known kind cs text q i h))
    (λ q i m. known_pairs kind cs text q i (marked_known kind cs text i q m))
    (pairs_once kind cs text))
