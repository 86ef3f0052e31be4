-- The scan that closes a set of positions, and the scan that steps from one set to the next.
use Rattle.std.proofs.Common.{◌≡◌, ◌<◌, ◌≤◌, ◌+◌, ◌⊎◌, ◌↔◌, inl, inr, ℕ, Bool, List, length, arith, slice_get, Some, below_more}
use Rattle.std.proofs.lemmas.Option.{slice_get_within}
use Rattle.std.proofs.lemmas.List.Elements.{All-contains}
use Rattle.ignore_glob.specs.Nodes.{Node, literal_at, any_at, star_at, start_at, middle_at, end_at, until_slash, until_end, class_at}
use Rattle.ignore_glob.specs.Nodes.{fork_at, StepsByNothing, StepsBy, Reached, here, on, SteppedTo}
use Rattle.ignore_glob.specs.Flags.{LeadsOn, AllLeadOn}

-- only what is reached is in the new set, what was in the old one still is, and the new one is
-- closed at the positions below
pub record IsClosedBelow (nodes : List Node) (old new : ℕ → Type 0) (below : ℕ) : Type 0 where
  pub sound : (q : ℕ) → new q → Reached nodes old q
  pub kept : (q : ℕ) → old q → new q
  pub closed : (p q : ℕ) (node : Node) → p < below → new p → slice_get nodes p ≡ Some node → StepsByNothing node p q → new q

-- a position of this set, p, steps to q by no character; by the character c
abbrev pub FromHere : List Node → (ℕ → Type 0) → ℕ → ℕ → Type 0
FromHere nodes from p q = (node : Node) × from p × (slice_get nodes p ≡ Some node) × StepsByNothing node p q

abbrev pub FromHereBy : Bool → List Node → (ℕ → Type 0) → ℕ → ℕ → ℕ → Type 0
FromHereBy fold nodes from c p q = (node : Node) × from p × (slice_get nodes p ≡ Some node) × StepsBy fold node c p q

-- a step by the character leads from one of these positions below to q
abbrev pub SteppedBelow : Bool → List Node → (ℕ → Type 0) → ℕ → ℕ → ℕ → Type 0
SteppedBelow fold nodes from c below q =
    (p : ℕ) × (node : Node) × (p < below) × from p × (slice_get nodes p ≡ Some node) × StepsBy fold node c p q

-- what is reached from positions is reached from more positions
pub Reached-mono : (nodes : List Node) (S T : ℕ → Type 0) → ((q : ℕ) → S q → T q) → (q : ℕ) → Reached nodes S q → Reached nodes T q
Reached-mono nodes S T m q (here k s) = here k (m k s)
Reached-mono nodes S T m q (on p k node r at s) = on p k node (Reached-mono nodes S T m p r) at s

-- a step by no character leads to a later position
steps_later : (node : Node) (p q end : ℕ) → LeadsOn node p end → StepsByNothing node p q → p < q
steps_later (literal_at k next) p q end h s = absurd s
steps_later (any_at next) p q end h s = absurd s
steps_later (star_at next) p q end h s = omega (arith, h.0, s)
steps_later (start_at next) p q end h s = elim s [ inl e ↦ omega (arith, e) | inr e ↦ omega (arith, h.0, e) ]
steps_later (middle_at next) p q end h s = absurd s
steps_later (end_at next) p q end h s = absurd s
steps_later (until_slash next) p q end h s = absurd s
steps_later (until_end next) p q end h s = omega (arith, h.0, s)
steps_later (class_at negated ranges next) p q end h s = absurd s
steps_later (fork_at firsts) p q end h s = (All-contains (λ r. (p < r) × (r ≤ end)) firsts q h s).0

-- below its first position a set is closed
pub closed_init : (nodes : List Node) (old : ℕ → Type 0) (low : ℕ) → ((q : ℕ) → old q → low ≤ q) → IsClosedBelow nodes old old low
closed_init nodes old low first =
    record { sound = λ q f. here q f; kept = λ q f. f; closed = λ p q node h f. absurd (let n = first p f in omega (arith, h, n)) }

module _ (nodes : List Node) (old mid new : ℕ → Type 0) (p : ℕ) (leads : AllLeadOn nodes)
    (step : (q : ℕ) → new q ↔ (mid q ⊎ FromHere nodes mid p q)) where
  -- what is there at p or below was there before the step at p
  there_before : (r : ℕ) → r ≤ p → new r → mid r
  there_before r h f =
      elim ((step r).0 f) [
        | inl g ↦ g
        | inr s ↦ absurd
            (let l = steps_later s.0 p r (length nodes) (leads p s.0 s.2) s.3 in omega (arith, l, h))
      ]

  closed_here : IsClosedBelow nodes old mid p → (r : ℕ) → r < p + 1 → (q : ℕ) (node : Node) → new r → slice_get nodes r ≡ Some node
      → StepsByNothing node r q → new q
  closed_here inv =
      let P : ℕ → Type 0 = λ r. (q : ℕ) (node : Node) → new r → slice_get nodes r ≡ Some node → StepsByNothing node r q → new q in
      below_more P p
      (λ r h q node f at s. (step q).1 (inl (inv.closed r q node h (there_before r (omega (arith, h)) f) at s)))
      (λ q node f at s. (step q).1 (inr (node, there_before p (omega arith) f, at, s)))

  pub closed_more : IsClosedBelow nodes old mid p → IsClosedBelow nodes old new (p + 1)
  closed_more inv = record {
    sound = λ q f. elim ((step q).0 f) [ inl g ↦ inv.sound q g | inr s ↦ on p q s.0 (inv.sound p s.1) s.2 s.3 ];
    kept = λ q f. (step q).1 (inl (inv.kept q f));
    closed = λ r q node h f at s. closed_here inv r h q node f at s;
  }

-- closed at all its positions, a set is what is reached
pub closed_all : (nodes : List Node) (old new : ℕ → Type 0) (below : ℕ) → IsClosedBelow nodes old new below
    → ((q : ℕ) → new q → q < length nodes → q < below) → (q : ℕ) → new q ↔ Reached nodes old q
closed_all nodes old new below inv last q =
    let back : (r : ℕ) → Reached nodes old r → new r = λ r. closed_back r in
    (inv.sound q, back q)
  where
    closed_back : (r : ℕ) → Reached nodes old r → new r
    closed_back r (here k f) = inv.kept k f
    closed_back r (on p k node m at s) = let f = closed_back p m in inv.closed p k node (last p f (slice_get_within nodes p node at)) f at s

-- one more position has stepped
pub stepped_more : (fold : Bool) (nodes : List Node) (from mid new : ℕ → Type 0) (c p : ℕ)
    → ((q : ℕ) → mid q ↔ SteppedBelow fold nodes from c p q) → ((q : ℕ) → new q ↔ (mid q ⊎ FromHereBy fold nodes from c p q)) → (q : ℕ)
    → new q ↔ SteppedBelow fold nodes from c (p + 1) q
stepped_more fold nodes from mid new c p inv step q = (
  λ f. elim ((step q).0 f) [
    | inl g ↦ let s = (inv q).0 g in (s.0, s.1, (let h : s.0 < p = s.2 in omega (arith, h)), s.3, s.4, s.5)
    | inr s ↦ (p, s.0, omega arith, s.1, s.2, s.3)
  ],
  λ s. let P : ℕ → Type 0 = λ r. (node : Node) → from r → slice_get nodes r ≡ Some node → StepsBy fold node c r q → new q in
      below_more P p (λ r h node f at t. (step q).1 (inl ((inv q).1 (r, node, h, f, at, t))))
      (λ node f at t. (step q).1 (inr (node, f, at, t))) s.0 s.2 s.1 s.3 s.4 s.5,
)

-- all positions have stepped
pub stepped_all : (fold : Bool) (nodes : List Node) (from new : ℕ → Type 0) (c below : ℕ)
    → ((q : ℕ) → new q ↔ SteppedBelow fold nodes from c below q) → ((q : ℕ) → from q → q < length nodes → q < below) → (q : ℕ)
    → new q ↔ SteppedTo fold nodes from c q
stepped_all fold nodes from new c below inv last q = (
  λ f. let s = (inv q).0 f in (s.0, s.1, s.3, s.4, s.5),
  λ s. (inv q).1 (s.0, s.1, last s.0 s.2 (slice_get_within nodes s.0 s.1 s.3), s.2, s.3, s.4),
)
