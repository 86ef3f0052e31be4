-- Each turn looks at the first key of the text that is left, and drops the line of a key that has
-- no value.
use Rattle.std.proofs.Common.{◌≡◌, ℕ, Bool, List, ◌∷◌, ◌++◌, Option, None, Some, ◌+◌, take, drop, subst, sym, ◌∙◌, ap, arith}
use Rattle.std.proofs.lemmas.List.{drop-drop}
use Rattle.ignore_excludes.specs.Excludes.{trimmed_start, SetsKey, IsPreferred, IsChosen}
use Rattle.ignore_excludes.proofs.ExcludesLines.{IsOneLine, IsOneLine-none, first_line, chosen_here, chosen_nowhere, chosen_further}
use Rattle.ignore_excludes.proofs.excludes.chosen_value.Goals as goal

-- the line stands in place of the text without its first white space
line_is : (rest line : List ℕ) (start : ℕ) → line ≡ drop start rest → drop start rest ≡ trimmed_start rest → line ≡ trimmed_start rest
line_is rest line start e h = e ∙ h

preferred : (rest line : List ℕ) (r : Option (List ℕ)) → line ≡ trimmed_start rest
    → IsPreferred (λ (q : Bool) (v : List ℕ). SetsKey q v line) r
    → IsPreferred (λ (q : Bool) (v : List ℕ). SetsKey q v (trimmed_start rest)) r
preferred rest line r e h = subst (λ (t : List ℕ). IsPreferred (λ (q : Bool) (v : List ℕ). SetsKey q v t) r) e h

pub returns-in-Some : goal.returns-in-Some
returns-in-Some c =
    let rest = c.split_at.result.1.now in
    let line = c.split_at-in-loop-value.result.1.now in
    let value = c.in-Some.value.now in
    let same = line_is rest line c.space_len-start.result c.split_at-in-loop-value.ensures.back c.space_len-start.ensures.rest in
    let here = chosen_here rest value (preferred rest line (Some value) same c.in-Some.ensures) in
    c.loop-value.invariant.1 (Some value) (subst (λ (t : List ℕ). IsChosen t (Some value)) c.split_at.ensures.back here)

pub returns-in-None : goal.returns-in-None
returns-in-None c =
    let rest = c.split_at.result.1.now in
    let line = c.split_at-in-loop-value.result.1.now in
    let same = line_is rest line c.space_len-start.result c.split_at-in-loop-value.ensures.back c.space_len-start.ensures.rest in
    let one : IsOneLine (trimmed_start rest) = subst IsOneLine same (IsOneLine-none line c.in-None.ensures) in
    let nowhere = chosen_nowhere rest one (preferred rest line None same c.in_default.ensures) in
    c.loop-value.invariant.1 None (subst (λ (t : List ℕ). IsChosen t None) c.split_at.ensures.back nowhere)

pub loop-value-preserved : goal.loop-value-preserved
loop-value-preserved c =
    let bytes = c.args.bytes.now in
    let at = c.loop-value.at in
    let start = c.space_len-start.result in
    let end = c.in-Some-memchr.end in
    let rest = c.split_at.result.1.now in
    let line = c.split_at-in-loop-value.result.1.now in
    let same = line_is rest line start c.split_at-in-loop-value.ensures.back c.space_len-start.ensures.rest in
    let parts = first_line line end c.in-Some-memchr.ensures in
    let next : drop (at + (start + end + 1)) bytes ≡ drop (end + 1) line = (
    ap (λ n. drop n bytes) (let sum : at + (start + end + 1) ≡ at + (start + (end + 1)) = omega arith in sum)
    ∙ (sym (drop-drop (start + (end + 1)) at bytes)
    ∙ (ap (λ t. drop (start + (end + 1)) t) (sym c.split_at.ensures.back)
    ∙ (sym (drop-drop (end + 1) start rest)
    ∙ ap (λ t. drop (end + 1) t) (sym c.split_at-in-loop-value.ensures.back))))
    ) in
    let cut : trimmed_start rest ≡ take end line ++ 10 ∷ drop (end + 1) line = sym same ∙ parts.0 in
    let back = c.split_at.ensures.back_len in
    let inner = c.split_at-in-loop-value.ensures.back_len in
    let inside = parts.1 in (
      omega arith,
      λ found h. (
          let further = chosen_further rest (take end line) (drop (end + 1) line) cut parts.2
          (preferred rest line None same c.in_default.ensures) found (subst (λ (t : List ℕ). IsChosen t found) next h) in
          c.loop-value.invariant.1 found (subst (λ (t : List ℕ). IsChosen t found) c.split_at.ensures.back further)
          ),
    )
