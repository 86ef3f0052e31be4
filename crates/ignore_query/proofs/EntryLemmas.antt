-- The entries of what is kept, and levels that are dropped one by one.
use Rattle.std.proofs.Common.{◌≡◌, ℕ, ◌≤◌, Bool, true, false, cond, All, List, [], ◌∷◌, Option, Some, None, refl, sym, ◌∙◌, ap, subst, ◌⊎◌, inl, inr}
use Rattle.std.proofs.Common.{string_bytes, String, Global}
use Rattle.std.proofs.lemmas.List.Elements.{All-head, All-tail}
use Rattle.std.proofs.lemmas.Map.Text.{is_eq-slice_cmp}
use Rattle.std.proofs.lemmas.Slice.Eq.{bytes_eq-Decides}
use Rattle.std.specs.Cmp.Lexicographic.{slice_cmp}
use Rattle.std.specs.Map.{lookup}
use Rattle.std.specs.Ordering.{is_eq, nat_cmp}
use Rattle.ignore_levels.specs.Levels.{Keeps, floor_at, floor_of, level_at}
use Rattle.ignore_levels.specs.declared.list.Level.{Level}
use Rattle.ignore_levels.specs.declared.list.Place.{Place}
use Rattle.ignore_levels.specs.declared.list.Slot.{Slot}
use Rattle.ignore_query.specs.declared.kept.Kept.{Kept}
use Rattle.ignore_query.specs.Forget.{IsFreed}

abbrev pub Entry : Type 0
Entry = String Global × Kept

abbrev pub at_text : List ℕ → String Global → Bool
at_text cs k = is_eq (slice_cmp nat_cmp cs (string_bytes k))

-- what holds of each entry holds of what is found
pub found-entry : (P : List ℕ → Kept → Type 0) (cs : List ℕ) (es : List Entry) → All (λ e. P (string_bytes e.0) e.1) es → (k : Kept)
    → lookup (at_text cs) es ≡ Some k → P cs k
found-entry P cs [] all k h = absurd (cc (h))
found-entry P cs (e ∷ es) all k h =
    let Q : (b : Bool) → at_text cs e.0 ≡ b → cond b (Some e.1) (lookup (at_text cs) es) ≡ Some k → P cs k =
    λ x. elim x as (λ b. at_text cs e.0 ≡ b → cond b (Some e.1) (lookup (at_text cs) es) ≡ Some k → P cs k) [
      | true ↦ λ here is.
          let same : string_bytes e.0 ≡ cs = sym ((bytes_eq-Decides cs (string_bytes e.0)).0 (sym (is_eq-slice_cmp cs (string_bytes e.0)) ∙ here)) in
          let own : e.1 ≡ k = cc (is) in
          subst (λ t. P t k) same (subst (P (string_bytes e.0)) own (All-head (λ x. P (string_bytes x.0) x.1) e es all))
      | false ↦ λ here is. found-entry P cs es (All-tail (λ x. P (string_bytes x.0) x.1) e es all) k is
    ] in
    Q (at_text cs e.0) refl h

none-from : (a b : Option Level) → ((level : Level) → a ≡ Some level → b ≡ Some level) → b ≡ None → a ≡ None
none-from None b f e = refl
none-from (Some level) b f e = let h : b ≡ Some level = f level refl in absurd (cc (e, h))

-- a level that is gone doesn't come back
pub none-kept : (new now : List Slot) (at : Place) → Keeps new now → level_at now at ≡ None → level_at new at ≡ None
none-kept new now at keeps e = none-from (level_at new at) (level_at now at) (keeps at) e

-- a level that is to be dropped is gone, or still there at its offset
pub freed-now : (now old : List Slot) (k : Kept) (floor : ℕ) (at : Place) → Keeps now old → IsFreed old k floor at
    → (level_at now at ≡ None) ⊎ IsFreed now k floor at
freed-now now old k floor at keeps f = by (level_at now at) refl
  where
    by : (o : Option Level) → level_at now at ≡ o → (level_at now at ≡ None) ⊎ IsFreed now k floor at
    by None e = inl e
    by (Some level) e =
        let same : floor_at old (Some at) ≡ floor_at now (Some at) = ap floor_of (keeps at level e ∙ sym e) in
        inr (f.0, subst (λ n. floor ≤ n) same f.1)
