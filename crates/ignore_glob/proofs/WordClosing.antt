-- Closing a word by masks is closing the set by steps without a character, and the number of its
-- bits is that of the marks.
use Rattle.std.proofs.Common.{◌≡◌, ◌<◌, ◌≤◌, ◌+◌, ◌-◌, ◌*◌, ◌%◌, ◌^◌, ◌↔◌, inl, inr, ℕ, zero, suc, Bool, List, length, arith, sym, subst}
use Rattle.std.proofs.Common.{slice_get, Some, ◌⊎◌}
use Rattle.std.specs.Prelude.{bit_and, bit_or, count_ones}
use Rattle.std.proofs.lemmas.Bool.{cases_eq}
use Rattle.std.proofs.lemmas.Nat.{le_or_l}
use Rattle.std.proofs.lemmas.Nat.Bits.{bit_at-pow_same, bit_at-pow_other}
use Rattle.std.proofs.lemmas.List.Elements.{All-contains}
use Rattle.std.proofs.lemmas.Option.{slice_get_within}
use Rattle.ignore_glob.specs.Nodes.{Node, literal_at, any_at, star_at, start_at, middle_at, end_at, until_slash, until_end, class_at}
use Rattle.ignore_glob.specs.Nodes.{fork_at, StepsByNothing, StepsBy, Reached, here, on, SteppedTo, Marked}
use Rattle.ignore_glob.specs.Flags.{CountAt, LeadsOn, AllLeadOn}
use Rattle.ignore_glob.specs.Words.{Has, Closed, known, to_next, past_next, word_of}
use Rattle.ignore_glob.specs.declared.glob.word.Masks.{Masks}
use Rattle.ignore_glob.proofs.Closing.{Reached-mono}
use Rattle.ignore_glob.proofs.WordBits.{has_or, has_and, has_shift, and_small, flags_of, flags_of-length, flag_has, has_flag, ones_flags}
use Rattle.ignore_glob.proofs.WordLemmas.{fits, nothing_to, free_kind, start_kind}

-- a set with what follows its free positions without a gap
pub record IsSpread (m : Masks) (set spread : ℕ) : Type 0 where
  pub first : Has spread 0 ↔ Has set 0
  pub next : (p : ℕ) → Has spread (suc p) ↔ (Has set (suc p) ⊎ (Has spread p × Has m.free p))

pub spread_kept : (m : Masks) (set spread : ℕ) → IsSpread m set spread → (q : ℕ) → Has set q → Has spread q
spread_kept m set spread is zero h = is.first.1 h
spread_kept m set spread is (suc q) h = (is.next q).1 (inl h)

pub spread_sound : (m : Masks) (first set spread : ℕ) → IsSpread m set spread → ((q : ℕ) → Has set q → Closed m first q) → (q : ℕ)
    → Has spread q → Closed m first q
spread_sound m first set spread is sound zero h = sound zero (is.first.0 h)
spread_sound m first set spread is sound (suc q) h = elim ((is.next q).0 h) [
  | inl old ↦ sound (suc q) old
  | inr new ↦ to_next q (spread_sound m first set spread is sound q new.0) new.1
]

-- what follows a start is put too
abbrev pub skipped : Masks → ℕ → ℕ
skipped m set = bit_or set (bit_and set m.starts * 2 ^ 2 % 2 ^ 64)

module _ (m : Masks) (starts : m.starts < 2 ^ 62) (first set : ℕ) where
  pub skip_sound : ((q : ℕ) → Has set q → Closed m first q) → (q : ℕ) → Has (skipped m set) q → Closed m first q
  skip_sound sound q h =
      let P : ℕ → Type 0 = λ k. Closed m first k in
      elim ((has_or set (bit_and set m.starts * 2 ^ 2 % 2 ^ 64) q).0 h) [
        | inl old ↦ sound q old
        | inr n ↦
            let from = (has_shift (bit_and set m.starts) 2 q (and_small set m.starts starts) (omega arith)).0 n in
            let both = (has_and set m.starts from.0).0 from.2 in
            let e : suc (suc from.0) ≡ q = let f : q ≡ from.0 + 2 = from.1 in omega (arith, f) in
            subst P e (past_next from.0 (sound from.0 both.0) both.1)
      ]

  pub skip_kept : (q : ℕ) → Has set q → Has (skipped m set) q
  skip_kept q h = (has_or set (bit_and set m.starts * 2 ^ 2 % 2 ^ 64) q).1 (inl h)

  pub skip_less : (spread : ℕ) → skipped m set ≤ spread → spread < 2 ^ 64 → (skipped m set ≡ set → ⊥) → 2 ^ 64 - spread < 2 ^ 64 - set
  skip_less spread greater fits apart =
      let a = le_or_l set (bit_and set m.starts * 2 ^ 2 % 2 ^ 64) in
      let c : set < skipped m set =
      elim (cases_eq (skipped m set) set) [ inl same ↦ absurd (apart same) | inr other ↦ omega (arith, a, other) ] in
      omega (arith, c, greater, fits)

  -- where no start puts more, a spread set is closed
  pub skip_closed : skipped m set ≡ set → ((p : ℕ) → Has set p → Has m.free p → Has set (suc p))
      → ((q : ℕ) → Has first q → Has set q) → (q : ℕ) → Closed m first q → Has set q
  skip_closed same onward kept q (known p h) = kept p h
  skip_closed same onward kept q (to_next p c f) = onward p (skip_closed same onward kept p c) f
  skip_closed same onward kept q (past_next p c f) =
      let before = skip_closed same onward kept p c in
      let shifted = (has_shift (bit_and set m.starts) 2 (suc (suc p)) (and_small set m.starts starts) (omega arith)).1
      (p, omega arith, (has_and set m.starts p).1 (before, f)) in
      subst (λ (w : ℕ). Has w (suc (suc p))) same ((has_or set (bit_and set m.starts * 2 ^ 2 % 2 ^ 64) (suc (suc p))).1 (inr shifted))

module _ (nodes : List Node) (m : Masks) (is : word_of nodes ≡ Some m) where
  -- closing by the masks reaches what the nodes do
  pub closed_reached : (set q : ℕ) → Closed m set q → Reached nodes (Has set) q
  closed_reached set q (known p h) = here p h
  closed_reached set q (to_next p c f) =
      let k = (free_kind nodes m is p).0 f in
      on p (suc p) k.0 (closed_reached set p c) k.1
      ((nothing_to k.0 p (suc p) ((fits nodes m is).line p k.0 k.1)).1 (inl (k.2, omega arith)))
  closed_reached set q (past_next p c f) =
      let k = (start_kind nodes m is p).0 f in
      on p (suc (suc p)) k.0 (closed_reached set p c) k.1
      ((nothing_to k.0 p (suc (suc p)) ((fits nodes m is).line p k.0 k.1)).1 (inr (k.2, omega arith)))

  pub reached_closed : (set q : ℕ) → Reached nodes (Has set) q → Closed m set q
  reached_closed set q (here p h) = known p h
  reached_closed set q (on p r node c at s) =
      let before = reached_closed set p c in
      let P : ℕ → Type 0 = λ k. Closed m set k in
      elim ((nothing_to node p r ((fits nodes m is).line p node at)).0 s) [
        | inl f ↦ subst P (let e : r ≡ p + 1 = f.1 in let g : suc p ≡ r = omega (arith, e) in g)
            (to_next p before ((free_kind nodes m is p).1 (node, at, f.0)))
        | inr f ↦ subst P (let e : r ≡ p + 2 = f.1 in let g : suc (suc p) ≡ r = omega (arith, e) in g)
            (past_next p before ((start_kind nodes m is p).1 (node, at, f.0)))
      ]

-- a node leads to positions up to the end
steps_within : (node : Node) (p q end : ℕ) → LeadsOn node p end → StepsByNothing node p q → q ≤ end
steps_within (star_at next) p q end h s = let l = h.1 in omega (arith, l, s)
steps_within (start_at next) p q end h s =
    elim s [ inl e ↦ (let l = h.1 in omega (arith, l, e)) | inr e ↦ (let l = h.2 in omega (arith, l, e)) ]
steps_within (until_end next) p q end h s = let l = h.1 in omega (arith, l, s)
steps_within (fork_at firsts) p q end h s = (All-contains (λ r. (p < r) × (r ≤ end)) firsts q h s).1
steps_within (literal_at k next) p q end h s = absurd s
steps_within (any_at next) p q end h s = absurd s
steps_within (middle_at next) p q end h s = absurd s
steps_within (end_at next) p q end h s = absurd s
steps_within (until_slash next) p q end h s = absurd s
steps_within (class_at negated ranges next) p q end h s = absurd s

steps_by_within : (fold : Bool) (node : Node) (c p q end : ℕ) → p < end → LeadsOn node p end → StepsBy fold node c p q → q ≤ end
steps_by_within fold (literal_at k next) c p q end l h s = let e = s.1 in omega (arith, h, e)
steps_by_within fold (any_at next) c p q end l h s = let e = s.1 in omega (arith, h, e)
steps_by_within fold (star_at next) c p q end l h s = let e = s.1 in omega (arith, l, e)
steps_by_within fold (start_at next) c p q end l h s = absurd s
steps_by_within fold (middle_at next) c p q end l h s =
    elim s.1 [ inl e ↦ (let k = h.0 in omega (arith, k, e)) | inr e ↦ (let k = h.1 in omega (arith, k, e)) ]
steps_by_within fold (end_at next) c p q end l h s = let e = s.1 in omega (arith, l, e)
steps_by_within fold (until_slash next) c p q end l h s =
    elim s [ inl e ↦ omega (arith, l, e) | inr t ↦ (let e = t.1 in omega (arith, h, e)) ]
steps_by_within fold (until_end next) c p q end l h s = omega (arith, l, s)
steps_by_within fold (class_at negated ranges next) c p q end l h s = let e = s.1 in omega (arith, h, e)
steps_by_within fold (fork_at firsts) c p q end l h s = absurd s

module _ (fold : Bool) (nodes : List Node) (text : List ℕ) (leads : AllLeadOn nodes) where
  reached_within : (S : ℕ → Type 0) → ((q : ℕ) → S q → q ≤ length nodes) → (q : ℕ) → Reached nodes S q → q ≤ length nodes
  reached_within S from q (here k s) = from k s
  reached_within S from q (on p k node r at s) = steps_within node p k (length nodes) (leads p node at) s

  -- a marked position is at most the end
  pub marked_within : (o q : ℕ) → Marked fold nodes text o q → q ≤ length nodes
  marked_within zero q r = reached_within (λ k. k ≡ 0) (λ k e. omega (arith, e)) q r
  marked_within (suc o) q r =
      reached_within (λ k. (c : ℕ) × (slice_get text o ≡ Some c) × SteppedTo fold nodes (Marked fold nodes text o) c k)
      (λ k (c, is, s). steps_by_within fold s.1 c s.0 k (length nodes) (slice_get_within nodes s.0 s.1 s.3) (leads s.0 s.1 s.3) s.4)
      q r

  -- the marks of an offset are as many as the bits of their word
  pub word_count : (o word : ℕ) → ((q : ℕ) → Has word q ↔ Marked fold nodes text o q) → CountAt fold nodes text o (count_ones word)
  word_count o word each =
      let below : (q : ℕ) → Has word q → q < length nodes + 1 = λ q h. let l = marked_within o q ((each q).0 h) in omega (arith, l) in (
        flags_of (length nodes + 1) word,
        record {
          len = flags_of-length (length nodes + 1) word;
          flagged = λ q. (
            (λ f. (each q).0 (flag_has (length nodes + 1) word q f)),
            (λ k. has_flag (length nodes + 1) word q (below q ((each q).1 k)) ((each q).1 k)),
          );
        },
        ones_flags (length nodes + 1) word below,
      )

first_bit : (q : ℕ) → Has 1 q ↔ (q ≡ 0)
first_bit q = (
  (λ h. elim (cases_eq q 0) [ inl e ↦ e | inr apart ↦ absurd (let none = bit_at-pow_other 0 q apart in omega (arith, h, none)) ]),
  (λ e. subst (λ (k : ℕ). Has 1 k) (sym e) (bit_at-pow_same 0)),
)

-- the word of the first position, closed, is the marks at the start
pub first_marks : (fold : Bool) (nodes : List Node) (m : Masks) (text : List ℕ) (word : ℕ) → word_of nodes ≡ Some m
    → ((q : ℕ) → Has word q ↔ Closed m 1 q) → (q : ℕ) → Has word q ↔ Marked fold nodes text 0 q
first_marks fold nodes m text word is closed q = (
  (λ h. Reached-mono nodes (Has 1) (λ k. k ≡ 0) (λ k f. (first_bit k).0 f) q (closed_reached nodes m is 1 q ((closed q).0 h))),
  (λ r. (closed q).1 (reached_closed nodes m is 1 q (Reached-mono nodes (λ k. k ≡ 0) (Has 1) (λ k e. (first_bit k).1 e) q r))),
)
