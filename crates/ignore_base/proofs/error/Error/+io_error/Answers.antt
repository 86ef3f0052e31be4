use Rattle.std.proofs.Common.{◌≤◌, arith, length, ap, sym, ◌∙◌}
use Rattle.ignore_base.specs.Errors.{io_fault}
use Rattle.ignore_base.proofs.Texts.{problem_of-Partial, only_fault-two}
use Rattle.ignore_base.proofs.error.Error.+io_error.Goals as goal

pub returns-in-len2-up : goal.returns-in-len2-up
returns-in-len2-up t c =
    let two : 2 ≤ length c.in-Partial.errors.items = omega (arith, c.in-len2-up.len_at_least, ap length c.as_slice.ensures.value) in
    rw c.in-Partial.is (sym (ap io_fault (problem_of-Partial c.in-Partial.errors) ∙ only_fault-two c.in-Partial.errors.items two))
