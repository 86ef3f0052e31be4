use Rattle.std.proofs.Common.{◌≡◌, take, map}
use Rattle.ignore_base.specs.Problem.{problem_of}
use Rattle.ignore_base.proofs.error.clone.ErrorClone.+clone.Given as goal

abbrev pub invariant-loop-err : goal.invariant-loop-err
invariant-loop-err l = map problem_of l.copies.items ≡ map problem_of (take l.err-index l.err-items)
