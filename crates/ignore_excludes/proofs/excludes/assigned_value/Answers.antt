-- An opening `"` is read as the quote first.
use Rattle.std.proofs.Common.{◌≡◌, ℕ, List, [], ◌∷◌, None, Some, subst, sym, ◌∙◌}
use Rattle.std.specs.Option.{option_copied}
use Rattle.std.proofs.lemmas.List.{nil_from_length}
use Rattle.ignore_excludes.specs.Excludes.{trimmed_start, HasValue, IsShortest}
use Rattle.ignore_excludes.proofs.ExcludesKeys.{assigned_nothing, assigned_quoted, assigned_plain}
use Rattle.ignore_excludes.proofs.excludes.assigned_value.Goals as goal
use Rattle.ignore_excludes.proofs.excludes.assigned_value.Goals.{then-first-eq34+in_default, else-first-eq34}

pub returns-in_err-first : goal.returns-in_err-first
returns-in_err-first c =
    let text = c.args.text.now in
    let none : trimmed_start text ≡ [] = sym c.trim-text.ensures ∙ nil_from_length c.trim-text.result.now c.in_err-first.ensures.cases in
    rw c.from_residual.ensures (assigned_nothing text none)

pub returns-in-Some : goal.returns-in-Some
returns-in-Some c =
    let text = c.args.text.now in
    let rest = c.in_ok-first.rest.now in
    let first : trimmed_start text ≡ 34 ∷ rest = cc (c.trim-text.ensures, c.in_ok-first.ensures.cases.0, c.if-first-eq34.true) in
    assigned_quoted text rest c.in-Some.value.now first
    (subst (λ (t : List ℕ). IsShortest (λ (v : List ℕ). HasValue v t) (Some c.in-Some.value.now)) c.trim.ensures c.in-Some.ensures)

pub returns : goal.returns
returns c =
    let text = c.args.text.now in
    let rest = c.in_ok-first.rest.now in
    let first : trimmed_start text ≡ c.in_ok-first.first.now ∷ rest = cc (c.trim-text.ensures, c.in_ok-first.ensures.cases.0) in
    let found = option_copied c.first_value-2.result in
    let never : (tail : List ℕ) → trimmed_start text ≡ 34 ∷ tail
    → IsShortest (λ (v : List ℕ). HasValue v (trimmed_start tail)) None = elim c.if-first-eq34.branch [
      | then-first-eq34+in_default w ↦ λ tail e. (
          let same : rest ≡ tail = cc in
          let none : IsShortest (λ (v : List ℕ). HasValue v (trimmed_start rest)) None =
          subst (λ (t : List ℕ). IsShortest (λ (v : List ℕ). HasValue v t) None) w.trim.ensures w.in_default.ensures in
          subst (λ (t : List ℕ). IsShortest (λ (v : List ℕ). HasValue v (trimmed_start t)) None) same none
          )
      | else-first-eq34 w ↦ λ tail e. absurd (w.if-first-eq34.false (cc))
    ] in
    assigned_plain text found never (subst (λ (t : List ℕ). IsShortest (λ (v : List ℕ). HasValue v t) found) c.trim-text.ensures
    c.first_value-2.ensures)
