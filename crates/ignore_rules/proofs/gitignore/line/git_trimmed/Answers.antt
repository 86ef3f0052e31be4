use Rattle.std.proofs.Common.{◌≡◌, ◌⊎◌, ◌+◌, ◌-◌, ◌%◌, false, length, take, eqb, eq-eqb, ne_eqb, sym, ap, ◌∙◌, inl, inr, arith}
use Rattle.ignore_rules.specs.Line.{git_trimmed}
use Rattle.ignore_rules.proofs.TrailingLemmas.{all_spaces, all_but_one, cut_at_space}
use Rattle.ignore_rules.proofs.gitignore.line.git_trimmed.Goals as goal
use Rattle.ignore_rules.proofs.gitignore.line.git_trimmed.Goals.{else-end-bytes-via-then-end-bytes+else-backslashes-eq1}
use Rattle.ignore_rules.proofs.gitignore.line.git_trimmed.Goals.{else-end-bytes-via-else-end-bytes}

pub range-requires-clause-end_boundary : goal.range-requires-clause-end_boundary
range-requires-clause-end_boundary c =
    rw c.as_bytes-bytes.ensures.value (cut_at_space c.args.line.now c.run_at_end.result _
    (rw c.as_bytes-bytes.ensures.value at c.run_at_end.ensures.run) (omega arith) (omega arith))

pub range-requires-else-end-bytes-clause-end_boundary : goal.range-requires-else-end-bytes-clause-end_boundary
range-requires-else-end-bytes-clause-end_boundary c =
    rw c.as_bytes-bytes.ensures.value (cut_at_space c.args.line.now c.run_at_end.result _
    (rw c.as_bytes-bytes.ensures.value at c.run_at_end.ensures.run) (omega arith) (omega arith))

pub returns-then-backslashes-eq1 : goal.returns-then-backslashes-eq1
returns-then-backslashes-eq1 c =
    let bytes = c.as_bytes-bytes.result.now in
    let n = c.run_at_end.result in
    let cut : c.range.result.now ≡ take (length bytes - n + 1) c.args.line.now = grind (arith, c.range.ensures.value) in
    let odd = eq-eqb _ 1 c.if-backslashes-eq1.true in
    let kept = all_but_one bytes n c.run_at_end-backslashes.result c.run_at_end.ensures.run c.run_at_end-backslashes.ensures.run
    c.if-end-bytes.true odd in
    cut ∙ (ap (take (length bytes - n + 1)) (sym c.as_bytes-bytes.ensures.value)
    ∙ (sym kept ∙ ap git_trimmed c.as_bytes-bytes.ensures.value))

pub returns-else-end-bytes : goal.returns-else-end-bytes
returns-else-end-bytes c =
    let bytes = c.as_bytes-bytes.result.now in
    let n = c.run_at_end.result in
    let m = c.run_at_end-backslashes.result in
    let cut : c.range-else-end-bytes.result.now ≡ take (length bytes - n) c.args.line.now = grind
    (arith, c.range-else-end-bytes.ensures.value) in
    let within = c.run_at_end.ensures.within in
    let which : (n ≡ 0) ⊎ (eqb (m % 2) 1 ≡ false) =
    elim c.else-end-bytes.branch [
      | else-end-bytes-via-then-end-bytes+else-backslashes-eq1 w ↦ inr (ne_eqb _ 1 w.if-backslashes-eq1.false)
      | else-end-bytes-via-else-end-bytes w ↦ inl (omega arith)
    ] in
    let kept = all_spaces bytes n m c.run_at_end.ensures.run c.run_at_end-backslashes.ensures.run which in
    cut ∙ (ap (take (length bytes - n)) (sym c.as_bytes-bytes.ensures.value) ∙ (sym kept ∙ ap git_trimmed c.as_bytes-bytes.ensures.value))
