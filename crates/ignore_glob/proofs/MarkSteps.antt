-- The marks of the next offset, their number, and what follows an offset without a mark.
use Rattle.std.proofs.Common.{◌≡◌, ◌+◌, ◌↔◌, ℕ, zero, suc, Bool, List, length, arith, slice_get, Some, refl, sym, subst, count_by}
use Rattle.ignore_glob.specs.Nodes.{Node, StepsBy, Reached, here, on, SteppedTo, Marked}
use Rattle.ignore_glob.specs.Flags.{IsFlagged, AreFlags, Count}
use Rattle.ignore_glob.proofs.Closing.{Reached-mono}
use Rattle.ignore_glob.proofs.FlagLemmas.{count_none}

pub flags_of : (nodes : List Node) (S T : ℕ → Type 0) (flags : List Bool) → length flags ≡ length nodes + 1 → ((q : ℕ) → S q ↔ T q)
    → ((q : ℕ) → IsFlagged flags q ↔ Reached nodes S q) → AreFlags nodes (Reached nodes T) flags
flags_of nodes S T flags len same closed = record {
  len = len;
  flagged = λ q. (
    λ f. Reached-mono nodes S T (λ p g. (same p).0 g) q ((closed q).0 f),
    λ r. (closed q).1 (Reached-mono nodes T S (λ p t. (same p).1 t) q r),
  );
}

module _ (fold : Bool) (nodes : List Node) (text : List ℕ) where
  -- the marks at the next offset, as any set; as flags
  pub marked_past : (S N : ℕ → Type 0) (i c : ℕ) → ((q : ℕ) → S q ↔ Marked fold nodes text i q) → slice_get text i ≡ Some c
      → ((q : ℕ) → N q ↔ Reached nodes (SteppedTo fold nodes S c) q) → (q : ℕ) → N q ↔ Marked fold nodes text (suc i) q
  marked_past S N i c now at past q =
      let from : ℕ → Type 0 = SteppedTo fold nodes S c in
      let T : ℕ → Type 0 = λ k. (d : ℕ) × (slice_get text i ≡ Some d) × SteppedTo fold nodes (Marked fold nodes text i) d k in
      let to : (k : ℕ) → from k → T k = λ k s. (c, at, (s.0, s.1, (now s.0).0 s.2, s.3, s.4)) in
      let back : (k : ℕ) → T k → from k = λ k t. (let same : t.0 ≡ c = cc (at, t.1) in
      let P : ℕ → Type 0 = λ d. StepsBy fold t.2.1 d t.2.0 k in
      (t.2.0, t.2.1, (now t.2.0).1 t.2.2, t.2.3, subst P same t.2.4)) in
      ((λ f. Reached-mono nodes from T to q ((past q).0 f)), (λ r. (past q).1 (Reached-mono nodes T from back q r)))

  pub marked_next : (flags next : List Bool) (i c : ℕ) → AreFlags nodes (Marked fold nodes text i) flags → slice_get text i ≡ Some c
      → length next ≡ length nodes + 1 → ((q : ℕ) → IsFlagged next q ↔ Reached nodes (SteppedTo fold nodes (IsFlagged flags) c) q)
      → AreFlags nodes (Marked fold nodes text (suc i)) next
  marked_next flags next i c now at len past =
      record { len = len; flagged = marked_past (IsFlagged flags) (IsFlagged next) i c now.flagged at past }

  -- the marks up to the next offset
  pub count_next : (next : List Bool) (i n : ℕ) → Count fold nodes text i n → AreFlags nodes (Marked fold nodes text (suc i)) next
      → Count fold nodes text (suc i) (n + count_by (λ b. b) next)
  count_next next i n c f = (n, count_by (λ b. b) next, c, (next, f, refl), refl)

  -- so many offsets later
  abbrev pub later : ℕ → ℕ → ℕ
  later zero o = o
  later (suc k) o = suc (later k o)

  pub later-sum : (k o : ℕ) → later k o ≡ o + k
  later-sum zero o = omega arith
  later-sum (suc k) o = omega (arith, later-sum k o)

  reached_none : (S : ℕ → Type 0) → ((q : ℕ) → S q → ⊥) → (q : ℕ) → Reached nodes S q → ⊥
  reached_none S none q (here k s) = none k s
  reached_none S none q (on p k node r at s) = reached_none S none p r

  -- past an offset without a mark there is none
  pub none_later : (k o : ℕ) → ((q : ℕ) → Marked fold nodes text o q → ⊥) → (q : ℕ) → Marked fold nodes text (later k o) q → ⊥
  none_later zero o none q m = none q m
  none_later (suc k) o none q m =
      reached_none (λ r. (c : ℕ) × (slice_get text (later k o) ≡ Some c) × SteppedTo fold nodes (Marked fold nodes text (later k o)) c r)
      (λ r s. none_later k o none s.2.0 s.2.2) q m

  pub count_later : (flags : List Bool) → length flags ≡ length nodes + 1 → ((q : ℕ) → IsFlagged flags q → ⊥) → (k o n : ℕ)
      → ((q : ℕ) → Marked fold nodes text o q → ⊥) → Count fold nodes text o n → Count fold nodes text (later k o) n
  count_later flags len clear zero o n none c = c
  count_later flags len clear (suc k) o n none c =
      let zero_more : 0 ≡ count_by (λ b. b) flags = sym (count_none flags clear) in (
        n,
        0,
        count_later flags len clear k o n none c,
        (flags, record { len = len; flagged = λ p. (λ f. absurd (clear p f), λ m. absurd (none_later (suc k) o none p m)) }, zero_more),
        omega arith,
      )
