-- A configuration has one value at most.
use Rattle.std.proofs.Common.{◌≡◌, inl, inr, ℕ, Bool, true, false, List, ◌++◌, Option, None, Some, Result, Ok, Err, Bor, MatchResult}
use Rattle.std.proofs.Common.{length, take, drop, refl, sym, ap, ◌∙◌, subst, arith}
use Rattle.std.specs.Option.{option_copied}
use Rattle.std.specs.Result.{result_ok}
use Rattle.std.specs.Str.{IsUtf8}
use Rattle.std.proofs.lemmas.List.{take_at, drop_at}
use Rattle.std.proofs.lemmas.Bool.{cases_order}
use Rattle.ignore_excludes.specs.Excludes.{HasValue, Assigns, SetsKey, ReadsAt, IsShortest, IsPreferred, IsChosen, IsValue, trimmed_start}
use Rattle.ignore_excludes.proofs.ExcludesKeys.{Assigns-quoted, Assigns-plain, SetsKey-parts}

-- P holds for one value of each length at most
abbrev IsOnePerLength : (List ℕ → Type 0) → Type 0
IsOnePerLength P = (v w : List ℕ) → length v ≡ length w → P v → P w → v ≡ w

HasValue-one : (text : List ℕ) → IsOnePerLength (λ (v : List ℕ). HasValue v text)
HasValue-one text v w len h k =
    let one : text ≡ v ++ h.1 = h.2 ∙ ap (λ t. t ++ h.1) h.3.0 in
    let two : text ≡ w ++ k.1 = k.2 ∙ ap (λ t. t ++ k.1) k.3.0 in
    sym (take_at v h.1 (length v) refl) ∙ (ap (λ t. take (length v) t) (sym one ∙ two) ∙ take_at w k.1 (length v) (sym len))

Assigns-one : (q : Bool) (text : List ℕ) → IsOnePerLength (λ (v : List ℕ). Assigns q v text)
Assigns-one true text v w len h k =
    let a = Assigns-quoted v text h in
    let b = Assigns-quoted w text k in
    let same : b.0 ≡ a.0 = (let d = a.1 in let e = b.1 in cc) in
    HasValue-one (trimmed_start a.0) v w len a.2 (subst (λ (t : List ℕ). HasValue w (trimmed_start t)) same b.2)
Assigns-one false text v w len h k = HasValue-one (trimmed_start text) v w len (Assigns-plain v text h) (Assigns-plain w text k)

Reads-one : (text : List ℕ) (place : ℕ) (q : Bool) → IsOnePerLength (ReadsAt text place q)
Reads-one text place q v w len h k =
    let one : h.1 ≡ drop place text = sym (drop_at h.0 h.1 place (sym h.3)) ∙ ap (λ t. drop place t) (sym h.2) in
    let two : k.1 ≡ drop place text = sym (drop_at k.0 k.1 place (sym k.3)) ∙ ap (λ t. drop place t) (sym k.2) in
    let a = SetsKey-parts q v h.1 h.5 in
    let b = SetsKey-parts q w h.1 (subst (SetsKey q w) (two ∙ sym one) k.5) in
    let same : b.1.0 ≡ a.1.0 = (let d = a.1.1 in let e = b.1.1 in cc) in
    Assigns-one q a.1.0 v w len a.1.2 (subst (λ (t : List ℕ). Assigns q w t) same b.1.2)

IsShortest-one : (P : List ℕ → Type 0) (v w : List ℕ) → IsOnePerLength P → IsShortest P (Some v) → IsShortest P (Some w) → v ≡ w
IsShortest-one P v w one h k =
    let low = h.1 w k.0 in
    let high = k.1 v h.0 in
    one v w (omega arith) h.0 k.0

IsPreferred-one : (R : Bool → List ℕ → Type 0) (v w : List ℕ) → ((q : Bool) → IsOnePerLength (R q)) → IsPreferred R (Some v)
    → IsPreferred R (Some w) → v ≡ w
IsPreferred-one R v w one (inl h) (inl k) = IsShortest-one (R true) v w (one true) h k
IsPreferred-one R v w one (inl h) (inr k) = absurd (k.0 v h.0)
IsPreferred-one R v w one (inr h) (inl k) = absurd (h.0 w k.0)
IsPreferred-one R v w one (inr h) (inr k) = IsShortest-one (R false) v w (one false) h.1 k.1

-- what is preferred is a reading
reading_of : (R : Bool → List ℕ → Type 0) (v : List ℕ) → IsPreferred R (Some v) → (q : Bool) × R q v
reading_of R v (inl h) = (true, h.0)
reading_of R v (inr h) = (false, h.1.0)

IsChosen-one : (text : List ℕ) (a b : Option (List ℕ)) → IsChosen text a → IsChosen text b → a ≡ b
IsChosen-one text None None h k = refl
IsChosen-one text None (Some w) h k = (let r = reading_of (ReadsAt text k.0) w k.1 in absurd (h k.0 r.0 w r.1))
IsChosen-one text (Some v) None h k = (let r = reading_of (ReadsAt text h.0) v h.1 in absurd (k h.0 r.0 v r.1))
IsChosen-one text (Some v) (Some w) h k =
    let r = reading_of (ReadsAt text h.0) v h.1 in
    let s = reading_of (ReadsAt text k.0) w k.1 in
    elim (cases_order h.0 k.0) [
      | inl same ↦ (let there : IsPreferred (ReadsAt text k.0) (Some v) =
          subst (λ (n : ℕ). IsPreferred (ReadsAt text n) (Some v)) same h.1 in
          ap (λ t. Some t) (IsPreferred-one (ReadsAt text k.0) v w (Reads-one text k.0) there k.1))
      | inr (inl before) ↦ absurd (k.2 h.0 before r.0 v r.1)
      | inr (inr after) ↦ absurd (h.2 k.0 after s.0 w s.1)
    ]

some_one : {A : Type 0} (a b : A) → Some a ≡ Some b → a ≡ b
some_one a b e = cc

pub IsValue-one : (text : List ℕ) (a b : Option (List ℕ)) → IsValue text a → IsValue text b → a ≡ b
IsValue-one text None None h k = refl
IsValue-one text None (Some w) (inl h) k = IsChosen-one text None (Some w) h k.0
IsValue-one text None (Some w) (inr (v, h, bad)) k =
    absurd (bad (subst IsUtf8 (some_one w v (IsChosen-one text (Some w) (Some v) k.0 h)) k.1))
IsValue-one text (Some v) None h (inl k) = IsChosen-one text (Some v) None h.0 k
IsValue-one text (Some v) None h (inr (w, k, bad)) =
    absurd (bad (subst IsUtf8 (some_one v w (IsChosen-one text (Some v) (Some w) h.0 k)) h.1))
IsValue-one text (Some v) (Some w) h k = IsChosen-one text (Some v) (Some w) h.0 k.0

-- the chosen bytes as a text, where they are one
pub IsValue-from_chosen : {E : Type 0} (text value : List ℕ) (Q : E → Type 0) (r : Result (Bor (List ℕ)) E)
    (found : Option (Bor (List ℕ))) → IsChosen text (Some value)
    → MatchResult r (λ s. (s.now ≡ value) × IsUtf8 value) (λ e. ¬ (IsUtf8 value) × Q e) → found ≡ result_ok r
    → IsValue text (option_copied found)
IsValue-from_chosen text value Q (Ok s) found h k e =
    let there : IsChosen text (Some s.now)
    × IsUtf8 s.now = (subst (λ (v : List ℕ). IsChosen text (Some v)) (sym k.0) h, subst IsUtf8 (sym k.0) k.1) in
    subst (λ (o : Option (Bor (List ℕ))). IsValue text (option_copied o)) (sym e) there
IsValue-from_chosen text value Q (Err x) found h k e = subst (λ (o : Option (Bor (List ℕ))). IsValue text (option_copied o))
    (sym e) (inr (value, h, k.0))
