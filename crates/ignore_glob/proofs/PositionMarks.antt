-- The marks of the nodes, by their numbers, are the marks of the positions.
use Rattle.std.proofs.Common.{◌≡◌, ◌<◌, ◌+◌, ◌↔◌, inl, inr, ℕ, zero, suc, Bool, List, [], ◌∷◌, length, arith, slice_get, get_or, Some, refl}
use Rattle.std.proofs.Common.{sym, subst}
use Rattle.std.specs.Prelude.{Contains}
use Rattle.std.proofs.lemmas.Option.{slice_get_within, slice_get-map, slice_get-get_or}
use Rattle.ignore_glob.specs.Glob.{Token, literal, any, star, start, middle, end, class, alternates, Tokens, done, then, Branches}
use Rattle.ignore_glob.specs.Glob.{no_branch, branch}
use Rattle.ignore_glob.specs.Nodes.{Node, literal_at, any_at, star_at, start_at, middle_at, end_at, until_slash, until_end, class_at}
use Rattle.ignore_glob.specs.Nodes.{fork_at, StepsByNothing, StepsBy, AreGlobNodes, Reached, here, on, SteppedTo, Marked}
use Rattle.ignore_glob.specs.Positions.{Place, first, Position, before, inside, the_end, entrance, entrances, Entry, table, Stands}
use Rattle.ignore_glob.specs.Positions.{EmptyStep, past_star, into_start, past_start, past_end, past_lone_start, into_branch, past_braces}
use Rattle.ignore_glob.specs.Positions.{CharacterStep, by_literal, by_any, by_class, at_star, stays, out_of_start, out_of_middle}
use Rattle.ignore_glob.specs.Positions.{past_middle, into_middle, into_end, IsMarked, begins, by_nothing, by_character}
use Rattle.ignore_glob.proofs.MatchingMarks.{marked_on}
use Rattle.ignore_glob.proofs.Once.{contains_at, at_contains, get_front, unique_at}
use Rattle.ignore_glob.proofs.Places.{own, all, all_once}
use Rattle.ignore_glob.proofs.Numbering.{forks, Numbers, Fits, entry_fits, end_number, positions_length}

-- a number among some has a position among theirs, and the other way round
numbers_there : (ms : List ℕ) (qs known : List Position) (m : ℕ) → Numbers ms qs known → Contains ms m
    → (q : Position) × (slice_get known m ≡ Some q) × Contains qs q
numbers_there [] qs known m h has = absurd (omega (arith, has.1))
numbers_there (k ∷ ms) [] known m h has = absurd h
numbers_there (k ∷ ms) (q ∷ qs) known m h (zero, l, e) =
    let P : ℕ → Type 0 = λ n. slice_get known n ≡ Some q in (q, subst P e h.0, (0, omega arith, refl))
numbers_there (k ∷ ms) (q ∷ qs) known m h (suc i, l, e) =
    let more = numbers_there ms qs known m h.1 (i, omega (arith, l), e) in
    let at = contains_at qs more.0 more.2 in
    (more.0, more.1, at_contains (q ∷ qs) (suc at.0) more.0 at.1)

numbers_back : (ms : List ℕ) (qs known : List Position) (q : Position) → Numbers ms qs known → Contains qs q
    → (m : ℕ) × (slice_get known m ≡ Some q) × Contains ms m
numbers_back ms [] known q h has = absurd (omega (arith, has.1))
numbers_back [] (p ∷ qs) known q h has = absurd h
numbers_back (k ∷ ms) (p ∷ qs) known q h (zero, l, e) =
    let P : Position → Type 0 = λ x. slice_get known k ≡ Some x in (k, subst P e h.0, (0, omega arith, refl))
numbers_back (k ∷ ms) (p ∷ qs) known q h (suc i, l, e) =
    let more = numbers_back ms qs known q h.1 (i, omega (arith, l), e) in
    let at = contains_at ms more.0 more.2 in
    (more.0, more.1, at_contains (k ∷ ms) (suc at.0) more.0 at.1)

-- the first position is that of number 0
token_begins : (t : Token) (ts : Tokens) → slice_get (all (then t ts)) 0 ≡ Some (before first)
token_begins (literal c) ts = refl
token_begins any ts = refl
token_begins star ts = refl
token_begins start ts = refl
token_begins middle ts = refl
token_begins end ts = refl
token_begins (class negated ranges) ts = refl
token_begins (alternates bs) ts = refl

all_begins : (ts : Tokens) → slice_get (all ts) 0 ≡ Some (entrance ts first the_end)
all_begins done = refl
all_begins (then t ts) = token_begins t ts

module _ (whole : Tokens) (nodes : List Node) (at : AreGlobNodes nodes whole) where
  -- the entry of a number
  entry_stands : (k : ℕ) (r : Entry) → slice_get (table whole first the_end) k ≡ Some r → slice_get (all whole) k ≡ Some r.0
  entry_stands k r is =
      let mapped = slice_get-map (λ (x : Entry). x.0) (table whole first the_end) k in
      get_front (own (table whole first the_end)) (the_end ∷ []) k r.0 (rw (mapped, is) refl)

  -- the number of a position that isn't the end has its entry
  entry_of : (k : ℕ) (position : Position) → k < length nodes → slice_get (all whole) k ≡ Some position
      → (t : Token) × (n : Position) × Stands whole position t n × Fits whole nodes position t n k
  entry_of k position within is =
      let len = positions_length nodes whole at in
      let none : Entry = (the_end, any, the_end) in
      let r : Entry = get_or (table whole first the_end) k none in
      let found : slice_get (table whole first the_end) k
      ≡ Some r = slice_get-get_or (table whole first the_end) k none (omega (arith, within, len)) in
      let same : r.0 ≡ position = cc (is, entry_stands k r found) in
      let P : Position → Type 0 = λ x. (t : Token) × (n : Position) × Stands whole x t n × Fits whole nodes x t n k in
      subst P same (r.1, r.2, at_contains (table whole first the_end) k r found, entry_fits whole nodes at k r found)

  -- an entry is that of its position's number
  known : (k : ℕ) (position : Position) (t : Token) (n : Position) → slice_get (all whole) k ≡ Some position → Stands whole position t n
      → Fits whole nodes position t n k
  known k position t n is stands =
      let found = contains_at (table whole first the_end) (position, t, n) stands in
      let same = unique_at (all whole) found.0 k position (all_once whole) (entry_stands found.0 (position, t, n) found.1) is in
      let P : ℕ → Type 0 = λ m. Fits whole nodes position t n m in
      subst P same (entry_fits whole nodes at found.0 (position, t, n) found.1)

  at_same : (q m : ℕ) (n : Position) → q ≡ m → slice_get (all whole) m ≡ Some n → slice_get (all whole) q ≡ Some n
  at_same q m n e is = let P : ℕ → Type 0 = λ j. slice_get (all whole) j ≡ Some n in subst P (sym e) is

  free : (k q : ℕ) (node this : Node) → slice_get nodes k ≡ Some node → slice_get nodes k ≡ Some this → StepsByNothing node k q
      → StepsByNothing this k q
  free k q node this seen there s =
      let same : node ≡ this = cc (seen, there) in let P : Node → Type 0 = λ x. StepsByNothing x k q in subst P same s

  fork_step : (bs : Branches) (p : Place) (n r : Position) → Stands whole (before p) (alternates bs) n → Contains (forks bs p n) r
      → EmptyStep whole (before p) r
  fork_step no_branch p n r st (zero, l, e) =
      let P : Position → Type 0 = λ x. EmptyStep whole (before p) x in subst P e (past_braces p n st)
  fork_step no_branch p n r st (suc k, l, e) = absurd (omega (arith, l))
  fork_step (branch ts bs) p n r st has = into_branch p (branch ts bs) n r st has

  forks_has : (bs : Branches) (p : Place) (n q : Position) → Contains (entrances bs 0 p n) q → Contains (forks bs p n) q
  forks_has no_branch p n q has = absurd (omega (arith, has.1))
  forks_has (branch ts bs) p n q has = has

  lone_step : (p : Place) (n : Position) → whole ≡ then start done → p ≡ first → n ≡ the_end → EmptyStep whole (inside p) n
  lone_step p n lone e f =
      let P : Place → Type 0 = λ x. EmptyStep whole (inside x) the_end in
      let Q : Position → Type 0 = λ x. EmptyStep whole (inside p) x in
      subst Q (sym f) (subst P (sym e) (past_lone_start lone))

  -- a step of a node by no character is one of its position
  forward_empty : (position : Position) (t : Token) (k q : ℕ) (n : Position) (node : Node) → Stands whole position t n
      → Fits whole nodes position t n k → slice_get nodes k ≡ Some node → StepsByNothing node k q
      → (r : Position) × (slice_get (all whole) q ≡ Some r) × EmptyStep whole position r
  forward_empty the_end t k q n node st f seen s = absurd f
  forward_empty (before p) (literal c) k q n node st f seen s = absurd (free k q node (literal_at c f.0) seen f.2 s)
  forward_empty (before p) any k q n node st f seen s = absurd (free k q node (any_at f.0) seen f.2 s)
  forward_empty (before p) star k q n node st f seen s = (n, at_same q f.0 n (free k q node (star_at f.0) seen f.2 s) f.1, past_star p n st)
  forward_empty (before p) start k q n node st f seen s = elim (free k q node (start_at f.0) seen f.2 s) [
    | inl e ↦ (inside p, at_same q (k + 1) (inside p) e f.3, into_start p n st)
    | inr e ↦ (n, at_same q f.0 n e f.1, past_start p n st)
  ]
  forward_empty (before p) middle k q n node st f seen s = absurd (free k q node (middle_at f.0) seen f.2 s)
  forward_empty (before p) end k q n node st f seen s = absurd (free k q node (end_at f.0) seen f.2 s)
  forward_empty (before p) (class negated ranges) k q n node st f seen s = absurd (free k q node (class_at negated ranges f.0) seen f.2 s)
  forward_empty (before p) (alternates bs) k q n node st f seen s =
      let found = numbers_there f.0 (forks bs p n) (all whole) q f.2 (free k q node (fork_at f.0) seen f.1 s) in
      (found.0, found.1, fork_step bs p n found.0 st found.2)
  forward_empty (inside p) (literal c) k q n node st f seen s = absurd f
  forward_empty (inside p) any k q n node st f seen s = absurd f
  forward_empty (inside p) star k q n node st f seen s = absurd f
  forward_empty (inside p) start k q n node st f seen s = elim f.2 [
    | inl plain ↦ absurd (free k q node (until_slash f.0) seen plain.1 s)
    | inr lone ↦ (n, at_same q f.0 n (free k q node (until_end f.0) seen lone.1 s) f.1, lone_step p n lone.0 lone.2 lone.3)
  ]
  forward_empty (inside p) middle k q n node st f seen s = absurd (free k q node (until_slash f.0) seen f.2 s)
  forward_empty (inside p) end k q n node st f seen s = (n, at_same q f.0 n (free k q node (until_end f.0) seen f.2 s) f.1, past_end p n st)
  forward_empty (inside p) (class negated ranges) k q n node st f seen s = absurd f
  forward_empty (inside p) (alternates bs) k q n node st f seen s = absurd f

  module _ (fold : Bool) (text : List ℕ) where
    by : (k q c : ℕ) (node this : Node) → slice_get nodes k ≡ Some node → slice_get nodes k ≡ Some this → StepsBy fold node c k q
        → StepsBy fold this c k q
    by k q c node this seen there s =
        let same : node ≡ this = cc (seen, there) in let P : Node → Type 0 = λ x. StepsBy fold x c k q in subst P same s

    -- a step of a node by a character is one of its position
    forward_character : (position : Position) (t : Token) (k q c : ℕ) (n : Position) (node : Node) → slice_get (all whole) k ≡ Some position
        → Stands whole position t n → Fits whole nodes position t n k → slice_get nodes k ≡ Some node → StepsBy fold node c k q
        → (r : Position) × (slice_get (all whole) q ≡ Some r) × CharacterStep fold whole c position r
    forward_character the_end t k q c n node is st f seen s = absurd f
    forward_character (before p) (literal d) k q c n node is st f seen s =
        let by' = by k q c node (literal_at d f.0) seen f.2 s in (n, at_same q f.0 n by'.1 f.1, by_literal p d n st by'.0)
    forward_character (before p) any k q c n node is st f seen s =
        let by' = by k q c node (any_at f.0) seen f.2 s in (n, at_same q f.0 n by'.1 f.1, by_any p n st by'.0)
    forward_character (before p) star k q c n node is st f seen s =
        let by' = by k q c node (star_at f.0) seen f.2 s in (before p, at_same q k (before p) by'.1 is, at_star p n st by'.0)
    forward_character (before p) start k q c n node is st f seen s = absurd (by k q c node (start_at f.0) seen f.2 s)
    forward_character (before p) middle k q c n node is st f seen s = let by' = by k q c node (middle_at f.0) seen f.2 s in
        elim by'.1 [
          | inl e ↦ (inside p, at_same q (k + 1) (inside p) e f.3, into_middle p n st by'.0)
          | inr e ↦ (n, at_same q f.0 n e f.1, past_middle p n st by'.0)
        ]
    forward_character (before p) end k q c n node is st f seen s =
        let by' = by k q c node (end_at f.0) seen f.2 s in (inside p, at_same q (k + 1) (inside p) by'.1 f.3, into_end p n st by'.0)
    forward_character (before p) (class negated ranges) k q c n node is st f seen s =
        let by' = by k q c node (class_at negated ranges f.0) seen f.2 s in
        (n, at_same q f.0 n by'.1 f.1, by_class p negated ranges n st by'.0)
    forward_character (before p) (alternates bs) k q c n node is st f seen s = absurd (by k q c node (fork_at f.0) seen f.1 s)
    forward_character (inside p) (literal d) k q c n node is st f seen s = absurd f
    forward_character (inside p) any k q c n node is st f seen s = absurd f
    forward_character (inside p) star k q c n node is st f seen s = absurd f
    forward_character (inside p) start k q c n node is st f seen s = elim f.2 [
      | inl plain ↦ elim (by k q c node (until_slash f.0) seen plain.1 s) [
        | inl e ↦ (inside p, at_same q k (inside p) e is, stays p start n st)
        | inr e ↦ (n, at_same q f.0 n e.1 f.1, out_of_start p n st e.0)
      ]
      | inr lone ↦ (inside p, at_same q k (inside p) (by k q c node (until_end f.0) seen lone.1 s) is, stays p start n st)
    ]
    forward_character (inside p) middle k q c n node is st f seen s = elim (by k q c node (until_slash f.0) seen f.2 s) [
      | inl e ↦ (inside p, at_same q k (inside p) e is, stays p middle n st)
      | inr e ↦ (n, at_same q f.0 n e.1 f.1, out_of_middle p n st e.0)
    ]
    forward_character (inside p) end k q c n node is st f seen s =
        (inside p, at_same q k (inside p) (by k q c node (until_end f.0) seen f.2 s) is, stays p end n st)
    forward_character (inside p) (class negated ranges) k q c n node is st f seen s = absurd f
    forward_character (inside p) (alternates bs) k q c n node is st f seen s = absurd f

    -- the number q has a position that is marked at the offset
    abbrev HasMark : ℕ → ℕ → Type 0
    HasMark o q = (r : Position) × (slice_get (all whole) q ≡ Some r) × IsMarked fold whole text r o

    reached_forward : (o : ℕ) (S : ℕ → Type 0) → ((q : ℕ) → S q → HasMark o q) → (q : ℕ) → Reached nodes S q → HasMark o q
    reached_forward o S from q (here k s) = from k s
    reached_forward o S from q (on p k node m there s) =
        let found = reached_forward o S from p m in
        let e = entry_of p found.0 (slice_get_within nodes p node there) found.1 in
        let step = forward_empty found.0 e.0 p k e.1 node e.2 e.3 there s in
        (step.0, step.1, by_nothing found.0 step.0 o found.2 step.2)

    pub marks_forward : (o k : ℕ) → Marked fold nodes text o k → HasMark o k
    marks_forward zero k m =
        reached_forward 0 (λ q. q ≡ 0) (λ q e. (
          entrance whole first the_end,
          at_same q 0 (entrance whole first the_end) e (all_begins whole),
          begins,
        )) k m
    marks_forward (suc o) k m =
        reached_forward (suc o) (λ q. (c : ℕ) × (slice_get text o ≡ Some c) × SteppedTo fold nodes (Marked fold nodes text o) c q)
        (λ q s.
        let found = marks_forward o s.2.0 s.2.2 in
        let e = entry_of s.2.0 found.0 (slice_get_within nodes s.2.0 s.2.1 s.2.3) found.1 in
        let step = forward_character found.0 e.0 s.2.0 q s.0 e.1 s.2.1 found.1 e.2 e.3 s.2.3 s.2.4 in
        (step.0, step.1, by_character found.0 step.0 o s.0 found.2 s.1 step.2))
        k m

    -- the position has a number that is marked at the offset
    abbrev HasNumber : ℕ → Position → Type 0
    HasNumber o r = (k : ℕ) × (slice_get (all whole) k ≡ Some r) × Marked fold nodes text o k

    back_empty : (o k : ℕ) (position r : Position) → slice_get (all whole) k ≡ Some position → Marked fold nodes text o k
        → EmptyStep whole position r → HasNumber o r
    back_empty o k position r is m (past_star p n st) =
        let f = known k (before p) star n is st in (f.0, f.1, marked_on fold nodes text o k f.0 (star_at f.0) m f.2 refl)
    back_empty o k position r is m (into_start p n st) =
        let f = known k (before p) start n is st in (k + 1, f.3, marked_on fold nodes text o k (k + 1) (start_at f.0) m f.2 (inl refl))
    back_empty o k position r is m (past_start p n st) =
        let f = known k (before p) start n is st in (f.0, f.1, marked_on fold nodes text o k f.0 (start_at f.0) m f.2 (inr refl))
    back_empty o k position r is m (past_end p n st) =
        let f = known k (inside p) end n is st in (f.0, f.1, marked_on fold nodes text o k f.0 (until_end f.0) m f.2 refl)
    back_empty o k position r is m (past_lone_start lone) =
        let P : Tokens → Type 0 = λ ts. Stands ts (inside first) start the_end in
        let f = known k (inside first) start the_end is (subst P (sym lone) (1, omega arith, refl)) in
        elim f.2 [
          | inl plain ↦ absurd (plain.0 lone)
          | inr same ↦ (f.0, f.1, marked_on fold nodes text o k f.0 (until_end f.0) m same.1 refl)
        ]
    back_empty o k position r is m (into_branch p bs n q st has) =
        let f = known k (before p) (alternates bs) n is st in
        let found = numbers_back f.0 (forks bs p n) (all whole) q f.2 (forks_has bs p n q has) in
        (found.0, found.1, marked_on fold nodes text o k found.0 (fork_at f.0) m f.1 found.2)
    back_empty o k position r is m (past_braces p n st) =
        let f = known k (before p) (alternates no_branch) n is st in
        let found = numbers_back f.0 (n ∷ []) (all whole) n f.2 (0, omega arith, refl) in
        (found.0, found.1, marked_on fold nodes text o k found.0 (fork_at f.0) m f.1 found.2)

    stepped_on : (o k q c : ℕ) (node : Node) → Marked fold nodes text o k → slice_get text o ≡ Some c → slice_get nodes k ≡ Some node
        → StepsBy fold node c k q → Marked fold nodes text (suc o) q
    stepped_on o k q c node m is there s = here q (c, is, (k, node, m, there, s))

    stays_marked : (t : Token) (o k c : ℕ) (p : Place) (n : Position) → Fits whole nodes (inside p) t n k → Marked fold nodes text o k
        → slice_get text o ≡ Some c → Marked fold nodes text (suc o) k
    stays_marked (literal d) o k c p n f m is = absurd f
    stays_marked any o k c p n f m is = absurd f
    stays_marked star o k c p n f m is = absurd f
    stays_marked start o k c p n f m is = elim f.2 [
      | inl plain ↦ stepped_on o k k c (until_slash f.0) m is plain.1 (inl refl)
      | inr lone ↦ stepped_on o k k c (until_end f.0) m is lone.1 refl
    ]
    stays_marked middle o k c p n f m is = stepped_on o k k c (until_slash f.0) m is f.2 (inl refl)
    stays_marked end o k c p n f m is = stepped_on o k k c (until_end f.0) m is f.2 refl
    stays_marked (class negated ranges) o k c p n f m is = absurd f
    stays_marked (alternates bs) o k c p n f m is = absurd f

    back_character : (o k c : ℕ) (position r : Position) → slice_get (all whole) k ≡ Some position → Marked fold nodes text o k
        → slice_get text o ≡ Some c → CharacterStep fold whole c position r → HasNumber (suc o) r
    back_character o k c position r is m there (by_literal p d n st case) =
        let f = known k (before p) (literal d) n is st in (f.0, f.1, stepped_on o k f.0 c (literal_at d f.0) m there f.2 (case, refl))
    back_character o k c position r is m there (by_any p n st named) =
        let f = known k (before p) any n is st in (f.0, f.1, stepped_on o k f.0 c (any_at f.0) m there f.2 (named, refl))
    back_character o k c position r is m there (by_class p negated ranges n st member) =
        let f = known k (before p) (class negated ranges) n is st in
        (f.0, f.1, stepped_on o k f.0 c (class_at negated ranges f.0) m there f.2 (member, refl))
    back_character o k c position r is m there (at_star p n st named) =
        let f = known k (before p) star n is st in (k, is, stepped_on o k k c (star_at f.0) m there f.2 (named, refl))
    back_character o k c position r is m there (stays p t n st) = (k, is, stays_marked t o k c p n (known k (inside p) t n is st) m there)
    back_character o k c position r is m there (out_of_start p n st e) = let f = known k (inside p) start n is st in
        elim f.2 [
          | inl plain ↦ (f.0, f.1, stepped_on o k f.0 c (until_slash f.0) m there plain.1 (inr (e, refl)))
          | inr lone ↦ (
            f.0,
            f.1,
            marked_on fold nodes text (suc o) k f.0 (until_end f.0)
                (stepped_on o k k c (until_end f.0) m there lone.1 refl) lone.1 refl,
          )
        ]
    back_character o k c position r is m there (out_of_middle p n st e) =
        let f = known k (inside p) middle n is st in (f.0, f.1, stepped_on o k f.0 c (until_slash f.0) m there f.2 (inr (e, refl)))
    back_character o k c position r is m there (past_middle p n st e) =
        let f = known k (before p) middle n is st in (f.0, f.1, stepped_on o k f.0 c (middle_at f.0) m there f.2 (e, inr refl))
    back_character o k c position r is m there (into_middle p n st e) =
        let f = known k (before p) middle n is st in (k + 1, f.3, stepped_on o k (k + 1) c (middle_at f.0) m there f.2 (e, inl refl))
    back_character o k c position r is m there (into_end p n st e) =
        let f = known k (before p) end n is st in (k + 1, f.3, stepped_on o k (k + 1) c (end_at f.0) m there f.2 (e, refl))

    pub marks_back : (r : Position) (o : ℕ) → IsMarked fold whole text r o → HasNumber o r
    marks_back r o begins = (0, all_begins whole, here 0 refl)
    marks_back r o (by_nothing p q i m s) = let found = marks_back p i m in back_empty i found.0 p q found.1 found.2 s
    marks_back r o (by_character p q i c m is s) = let found = marks_back p i m in back_character i found.0 c p q found.1 found.2 is s

    -- a number is marked exactly where its position is
    pub same_marks : (k o : ℕ) (r : Position) → slice_get (all whole) k ≡ Some r
        → (Marked fold nodes text o k ↔ IsMarked fold whole text r o)
    same_marks k o r is = (
      (λ m. let found = marks_forward o k m in
          let same : found.0 ≡ r = cc (is, found.1) in
          let P : Position → Type 0 = λ x. IsMarked fold whole text x o in
          subst P same found.2),
      (λ m. let found = marks_back r o m in
          let same = unique_at (all whole) found.0 k r (all_once whole) found.1 is in
          let P : ℕ → Type 0 = λ j. Marked fold nodes text o j in
          subst P same found.2),
    )

    -- the end is marked exactly where the number past the nodes is
    pub end_marks : (o : ℕ) → Marked fold nodes text o (length nodes) ↔ IsMarked fold whole text the_end o
    end_marks o =
        let len = positions_length nodes whole at in
        let P : ℕ → Type 0 = λ n. slice_get (all whole) n ≡ Some the_end in
        same_marks (length nodes) o the_end (subst P (sym len) (end_number whole nodes))
