-- The dead rules are those that decide on no question which is reached.
use Rattle.std.proofs.Common.{◌≡◌, ◌<◌, ◌+◌, ℕ, Bool, true, false, List, [], ◌∷◌, ◌++◌, Option, None, Some, length, slice_get, below_more, refl, sym, ap, subst, ◌∙◌, inl, inr, arith}
use Rattle.std.proofs.lemmas.Option.{slice_get_cases, slice_get_within}
use Rattle.std.specs.Prelude.{cond}
use Rattle.ignore_every.proofs.Pushes.{slice_get_back, slice_get_front, slice_get_pushed}
use Rattle.ignore_every.specs.Findings.{AreRightFindings, DecidesNever, IsRightFinding}
use Rattle.ignore_every.specs.Machines.{IsIn}
use Rattle.ignore_every.specs.declared.findings.Finding.{Finding}
use Rattle.ignore_every.specs.declared.findings.Finding.TheVariants.{Live, DeadByFolders, Overruled, Unreached}
use Rattle.ignore_rules.specs.Rules.{Rule}
use Rattle.ignore_kept.specs.Findings.{AreDead, AreDeadBelow, AreFindings, is_dead}
use Rattle.ignore_kept.specs.declared.findings.Findings.{Findings}

-- none are below zero
pub none_below : (findings : List Finding) (dead : List ℕ) → dead ≡ [] → AreDeadBelow findings 0 dead
none_below findings dead none =
    subst (AreDeadBelow findings 0) (sym none) (record {
      each = λ i index at. absurd (cc at);
      all = λ index below is. absurd (omega (arith, below));
      order = λ i j index other before at there. absurd (cc at);
    })

-- an index more, of a rule that isn't dead
skipped : (findings : List Finding) (n : ℕ) (dead : List ℕ) → is_dead (slice_get findings n) ≡ false → AreDeadBelow findings n dead
    → AreDeadBelow findings (n + 1) dead
skipped findings n dead live h =
    record {
      each = λ i index at. (omega (arith, (h.each i index at).0), (h.each i index at).1);
      all = λ index below. below_more (λ k. is_dead (slice_get findings k) ≡ true → IsIn dead k) n h.all
          (λ is. absurd (cc (is, live))) index below;
      order = h.order;
    }

module _ (findings : List Finding) (n : ℕ) (dead : List ℕ) (is : is_dead (slice_get findings n) ≡ true) (h : AreDeadBelow findings n dead) where
  each_more : (i index : ℕ) → slice_get (dead ++ n ∷ []) i ≡ Some index → (index < n + 1) × (is_dead (slice_get findings index) ≡ true)
  each_more i index at =
      elim (slice_get_pushed dead n index i at) [
        | inl old ↦ (omega (arith, (h.each i index old).0), (h.each i index old).1)
        | inr new ↦ (omega (arith, new.1), subst (λ k. is_dead (slice_get findings k) ≡ true) new.1 is)
      ]

  in_more : (index : ℕ) → IsIn dead index → IsIn (dead ++ n ∷ []) index
  in_more index old = (old.0, slice_get_front dead (n ∷ []) old.0 index old.1)

  order_more : (i j index other : ℕ) → i < j → slice_get (dead ++ n ∷ []) i ≡ Some index → slice_get (dead ++ n ∷ []) j ≡ Some other
      → index < other
  order_more i j index other before at there =
      elim (slice_get_pushed dead n index i at) [
        | inl first ↦ elim (slice_get_pushed dead n other j there) [
          | inl second ↦ h.order i j index other before first second
          | inr last ↦ (let below = (h.each i index first).0 in omega (arith, below, last.1))
        ]
        | inr end ↦ elim (slice_get_pushed dead n other j there) [
          | inl second ↦ (let within = slice_get_within dead j other second in absurd (omega (arith, within, end.0, before)))
          | inr last ↦ absurd (omega (arith, last.0, end.0, before))
        ]
      ]

  added : AreDeadBelow findings (n + 1) (dead ++ n ∷ [])
  added =
      record {
        each = each_more;
        all = λ index below. below_more (λ k. is_dead (slice_get findings k) ≡ true → IsIn (dead ++ n ∷ []) k) n
            (λ k less dies. in_more k (h.all k less dies)) (λ dies. slice_get_back dead (n ∷ []) 0 n refl) index below;
        order = order_more;
      }

by_test : (findings : List Finding) (n : ℕ) (dead new : List ℕ) (dies : Bool) → is_dead (slice_get findings n) ≡ dies
    → new ≡ cond dies (dead ++ n ∷ []) dead → AreDeadBelow findings n dead → AreDeadBelow findings (n + 1) new
by_test findings n dead new true is grown h = subst (AreDeadBelow findings (n + 1)) (sym grown) (added findings n dead is h)
by_test findings n dead new false is grown h = subst (AreDeadBelow findings (n + 1)) (sym grown) (skipped findings n dead is h)

-- an index more, which is added where its rule is dead
pub one_more : (findings : List Finding) (n : ℕ) (dead new : List ℕ) → new ≡ cond (is_dead (slice_get findings n)) (dead ++ n ∷ []) dead
    → AreDeadBelow findings n dead → AreDeadBelow findings (n + 1) new
one_more findings n dead new grown h = by_test findings n dead new (is_dead (slice_get findings n)) refl grown h

-- of a finding that is right, a dead rule decides on no question which is reached
never_of : (rules : List Rule) (index : ℕ) (found : Option Finding) → ((f : Finding) → found ≡ Some f → IsRightFinding rules index f)
    → is_dead found ≡ true → DecidesNever true rules index
never_of rules index None right dies = absurd (cc dies)
never_of rules index (Some (Live question)) right dies = absurd (cc dies)
never_of rules index (Some (DeadByFolders example)) right dies = (right (DeadByFolders example) refl).0
never_of rules index (Some (Overruled named)) right dies =
    λ path is_dir asked decides. (right (Overruled named) refl).0 path is_dir asked.0 decides
never_of rules index (Some Unreached) right dies = right Unreached refl

-- and one that decides on none is dead
dead_of_never : (rules : List Rule) (index : ℕ) (f : Finding) → IsRightFinding rules index f → DecidesNever true rules index
    → is_dead (Some f) ≡ true
dead_of_never rules index (Live question) right never = absurd (never _ _ right.asked right.decided)
dead_of_never rules index (DeadByFolders example) right never = refl
dead_of_never rules index (Overruled named) right never = refl
dead_of_never rules index Unreached right never = refl

dead_within : (rules : List Rule) (findings : List Finding) (index : ℕ) → AreRightFindings rules findings → index < length rules
    → DecidesNever true rules index → is_dead (slice_get findings index) ≡ true
dead_within rules findings index all below never =
    let size = all.each in
    elim ((slice_get_cases findings index).1) [
      | inl (f, within, at, got) ↦
          subst (λ (o : Option Finding). is_dead o ≡ true) (sym at) (dead_of_never rules index f (all.right index f at) never)
      | inr (past, none) ↦ absurd (omega (arith, past, below, size))
    ]

-- what is found of each rule, and the dead ones among them
pub are_findings : (rules : List Rule) (found : Findings) (findings : List Finding) (dead : List ℕ) → AreRightFindings rules findings
    → AreDeadBelow findings (length findings) dead → found.all.items ≡ findings → found.dead.items ≡ dead → AreFindings rules found
are_findings rules found findings dead all h is_all is_dead_list =
    let size = all.each in
    record {
      right = subst (AreRightFindings rules) (sym is_all) all;
      dead = subst (AreDead rules) (sym is_dead_list) (record {
        each = λ i index at. (
          omega (arith, (h.each i index at).0, size),
          never_of rules index (slice_get findings index) (all.right index) (h.each i index at).1,
        );
        all = λ index below never. h.all index (omega (arith, below, size)) (dead_within rules findings index all below never);
        order = h.order;
      });
    }
