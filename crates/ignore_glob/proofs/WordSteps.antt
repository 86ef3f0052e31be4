-- The step of a word by a character is the step of the set, and the number of its bits that of the
-- marks.
use Rattle.std.proofs.Common.{◌≡◌, ◌<◌, ◌+◌, ◌*◌, ◌%◌, ◌^◌, ◌↔◌, inl, inr, ℕ, Bool, List, length, arith, refl, sym, subst, slice_get, Some}
use Rattle.std.specs.Prelude.{bit_and, bit_or}
use Rattle.std.proofs.lemmas.Nat.{or_lt}
use Rattle.std.proofs.lemmas.Option.{slice_get_within}
use Rattle.ignore_glob.specs.Matches.{slash}
use Rattle.ignore_glob.specs.Nodes.{Node, StepsBy, SteppedTo}
use Rattle.ignore_glob.specs.Words.{Has, Tests, TestsAt, word_of}
use Rattle.ignore_glob.specs.declared.glob.word.Masks.{Masks}
use Rattle.ignore_glob.proofs.WordBits.{has_or, has_and, has_shift, within_le, and_small}
use Rattle.ignore_glob.proofs.WordLemmas.{fits, LeadsTo, by_to, tests_tested, tested_kind, star_kind, inside_kind, slash_kind, middle_kind}
use Rattle.ignore_glob.proofs.WordLemmas.{tested_small, slash_small, middle_small}

module _ (nodes : List Node) (m : Masks) (is : word_of nodes ≡ Some m) where
  -- a position that is tested is one of the nodes
  pub tested_within : (set p : ℕ) → Has (bit_and set m.tested) p → p < length nodes
  tested_within set p h = let k = (tested_kind nodes m is p).0 ((has_and set m.tested p).0 h).1 in slice_get_within nodes p k.0 k.1

  module _ (fold : Bool) (set tested c : ℕ) (each : (p : ℕ) → Has tested p ↔ TestsAt fold nodes (bit_and set m.tested) c p) where
    small : tested < 2 ^ 62
    small =
        let l = within_le tested (bit_and set m.tested) (λ p h. ((each p).0 h).1) in
        let k = and_small set m.tested (tested_small nodes m is) in
        omega (arith, l, k)

    leads : (p : ℕ) (node : Node) → slice_get nodes p ≡ Some node → (q : ℕ) → StepsBy fold node c p q ↔ LeadsTo fold node c p q
    leads p node at q = by_to fold node c p q ((fits nodes m is).line p node at)

    -- by a slash
    abbrev by_slash : ℕ
    by_slash =
        bit_or (bit_or (bit_and set m.insides) (bit_or tested (bit_and set m.by_slash) * 2 ^ 1 % 2 ^ 64))
        (bit_and set m.middles * 2 ^ 2 % 2 ^ 64)

    next_small : bit_or tested (bit_and set m.by_slash) < 2 ^ 62
    next_small = or_lt 62 tested (bit_and set m.by_slash) small (and_small set m.by_slash (slash_small nodes m is))

    on_tested : (p q : ℕ) → q ≡ p + 1 → Has tested p → SteppedTo fold nodes (Has set) c q
    on_tested p q e h =
        let t = (each p).0 h in
        (p, t.0, ((has_and set m.tested p).0 t.1).0, t.2, (leads p t.0 t.2 q).1 (inr (inl (e, inl t.3))))

    tested_on : (p : ℕ) (node : Node) → Has set p → slice_get nodes p ≡ Some node → Tests fold node c → Has tested p
    tested_on p node h at t =
        (each p).1 (node, (has_and set m.tested p).1 (h, (tested_kind nodes m is p).1 (node, at, tests_tested fold node c t)), at, t)

    by_slash_steps : c ≡ slash → (q : ℕ) → Has by_slash q → SteppedTo fold nodes (Has set) c q
    by_slash_steps e q h =
        let a : ℕ = bit_and set m.insides in
        let b : ℕ = bit_or tested (bit_and set m.by_slash) * 2 ^ 1 % 2 ^ 64 in
        let d : ℕ = bit_and set m.middles * 2 ^ 2 % 2 ^ 64 in
        elim ((has_or (bit_or a b) d q).0 h) [
          | inl ab ↦ elim ((has_or a b q).0 ab) [
            | inl stay ↦
                let both = (has_and set m.insides q).0 stay in
                let k = (inside_kind nodes m is q).0 both.1 in
                (q, k.0, both.0, k.1, (leads q k.0 k.1 q).1 (inl (refl, inl k.2)))
            | inr next ↦
                let from = (has_shift (bit_or tested (bit_and set m.by_slash)) 1 q next_small (omega arith)).0 next in
                elim ((has_or tested (bit_and set m.by_slash) from.0).0 from.2) [
                  | inl t ↦ on_tested from.0 q from.1 t
                  | inr s ↦
                      let both = (has_and set m.by_slash from.0).0 s in
                      let k = (slash_kind nodes m is from.0).0 both.1 in
                      (from.0, k.0, both.0, k.1, (leads from.0 k.0 k.1 q).1 (inr (inl (from.1, inr (k.2, e)))))
                ]
          ]
          | inr skip ↦
              let from = (has_shift (bit_and set m.middles) 2 q (and_small set m.middles (middle_small nodes m is)) (omega arith)).0 skip in
              let both = (has_and set m.middles from.0).0 from.2 in
              let k = (middle_kind nodes m is from.0).0 both.1 in
              (from.0, k.0, both.0, k.1, (leads from.0 k.0 k.1 q).1 (inr (inr (from.1, (k.2, e)))))
        ]

    steps_by_slash : c ≡ slash → (q : ℕ) → SteppedTo fold nodes (Has set) c q → Has by_slash q
    steps_by_slash e q (p, node, h, at, s) =
        let a : ℕ = bit_and set m.insides in
        let b : ℕ = bit_or tested (bit_and set m.by_slash) * 2 ^ 1 % 2 ^ 64 in
        let d : ℕ = bit_and set m.middles * 2 ^ 2 % 2 ^ 64 in
        let shifted : q ≡ p + 1 → Has (bit_or tested (bit_and set m.by_slash)) p → Has by_slash q = λ n t.
        (has_or (bit_or a b) d q).1
        (inl ((has_or a b q).1 (inr ((has_shift (bit_or tested (bit_and set m.by_slash)) 1 q next_small (omega arith)).1 (p, n, t))))) in
        elim ((leads p node at q).0 s) [
          | inl stay ↦ elim stay.1 [
            | inl k ↦
                let there : Has a p = (has_and set m.insides p).1 (h, (inside_kind nodes m is p).1 (node, at, k)) in
                (has_or (bit_or a b) d q).1 (inl ((has_or a b q).1 (inl (subst (λ (x : ℕ). Has a x) (sym stay.0) there))))
            | inr star ↦ absurd (star.1 e)
          ]
          | inr moved ↦ elim moved [
            | inl next ↦ elim next.1 [
              | inl t ↦ shifted next.0 ((has_or tested (bit_and set m.by_slash) p).1 (inl (tested_on p node h at t)))
              | inr k ↦ shifted next.0
                  ((has_or tested (bit_and set m.by_slash) p).1
                  (inr ((has_and set m.by_slash p).1 (h, (slash_kind nodes m is p).1 (node, at, k.0)))))
            ]
            | inr skip ↦
                (has_or (bit_or a b) d q).1
                (inr ((has_shift (bit_and set m.middles) 2 q (and_small set m.middles (middle_small nodes m is)) (omega arith)).1
                (p, skip.0, (has_and set m.middles p).1 (h, (middle_kind nodes m is p).1 (node, at, skip.1.0)))))
          ]
        ]

    pub slash_step : c ≡ slash → (q : ℕ) → Has by_slash q ↔ SteppedTo fold nodes (Has set) c q
    slash_step e q = (by_slash_steps e q, steps_by_slash e q)

    -- by another character
    abbrev by_other : ℕ
    by_other = bit_or (bit_or (bit_and set m.insides) (bit_and set m.stars)) (tested * 2 ^ 1 % 2 ^ 64)

    by_other_steps : (c ≡ slash → ⊥) → (q : ℕ) → Has by_other q → SteppedTo fold nodes (Has set) c q
    by_other_steps e q h =
        let a : ℕ = bit_and set m.insides in
        let b : ℕ = bit_and set m.stars in
        elim ((has_or (bit_or a b) (tested * 2 ^ 1 % 2 ^ 64) q).0 h) [
          | inl ab ↦ elim ((has_or a b q).0 ab) [
            | inl stay ↦
                let both = (has_and set m.insides q).0 stay in
                let k = (inside_kind nodes m is q).0 both.1 in
                (q, k.0, both.0, k.1, (leads q k.0 k.1 q).1 (inl (refl, inl k.2)))
            | inr stay ↦
                let both = (has_and set m.stars q).0 stay in
                let k = (star_kind nodes m is q).0 both.1 in
                (q, k.0, both.0, k.1, (leads q k.0 k.1 q).1 (inl (refl, inr (k.2, e))))
          ]
          | inr next ↦
              let from = (has_shift tested 1 q small (omega arith)).0 next in
              on_tested from.0 q from.1 from.2
        ]

    steps_by_other : (c ≡ slash → ⊥) → (q : ℕ) → SteppedTo fold nodes (Has set) c q → Has by_other q
    steps_by_other e q (p, node, h, at, s) =
        let a : ℕ = bit_and set m.insides in
        let b : ℕ = bit_and set m.stars in
        let d : ℕ = tested * 2 ^ 1 % 2 ^ 64 in
        elim ((leads p node at q).0 s) [
          | inl stay ↦ elim stay.1 [
            | inl k ↦
                let there : Has a p = (has_and set m.insides p).1 (h, (inside_kind nodes m is p).1 (node, at, k)) in
                (has_or (bit_or a b) d q).1 (inl ((has_or a b q).1 (inl (subst (λ (x : ℕ). Has a x) (sym stay.0) there))))
            | inr k ↦
                let there : Has b p = (has_and set m.stars p).1 (h, (star_kind nodes m is p).1 (node, at, k.0)) in
                (has_or (bit_or a b) d q).1 (inl ((has_or a b q).1 (inr (subst (λ (x : ℕ). Has b x) (sym stay.0) there))))
          ]
          | inr moved ↦ elim moved [
            | inl next ↦ elim next.1 [
              | inl t ↦ (has_or (bit_or a b) d q).1
                  (inr ((has_shift tested 1 q small (omega arith)).1 (p, next.0, tested_on p node h at t)))
              | inr k ↦ absurd (e k.1)
            ]
            | inr skip ↦ absurd (e skip.1.1)
          ]
        ]

    pub other_step : (c ≡ slash → ⊥) → (q : ℕ) → Has by_other q ↔ SteppedTo fold nodes (Has set) c q
    other_step e q = (by_other_steps e q, steps_by_other e q)
