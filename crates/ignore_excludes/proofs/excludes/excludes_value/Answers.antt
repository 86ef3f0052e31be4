-- The value is the chosen one, and the only one.
use Rattle.std.proofs.Common.{inl}
use Rattle.std.specs.Option.{option_copied}
use Rattle.ignore_excludes.proofs.ExcludesOnly.{IsValue-from_chosen, IsValue-one}
use Rattle.ignore_excludes.proofs.excludes.excludes_value.Goals as goal

pub returns-in_err-chosen_value-clause-value : goal.returns-in_err-chosen_value-clause-value
returns-in_err-chosen_value-clause-value c = rw c.from_residual.ensures (inl c.in_err-chosen_value.ensures)

pub returns-in_err-chosen_value-clause-only : goal.returns-in_err-chosen_value-clause-only
returns-in_err-chosen_value-clause-only c = λ other h. IsValue-one c.args.bytes.now (option_copied c.from_residual.result) other
    (returns-in_err-chosen_value-clause-value c) h

pub returns-clause-value : goal.returns-clause-value
returns-clause-value c = IsValue-from_chosen c.args.bytes.now c.in_ok-chosen_value.field-0.now _ c.from_utf8.result c.ok.result
    c.in_ok-chosen_value.ensures c.from_utf8.ensures.cases c.ok.ensures.value

pub returns-clause-only : goal.returns-clause-only
returns-clause-only c = λ other h. IsValue-one c.args.bytes.now (option_copied c.ok.result) other (returns-clause-value c) h
