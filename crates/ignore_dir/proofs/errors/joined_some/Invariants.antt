use Rattle.std.proofs.Common.{◌≡◌, map}
use Rattle.std.specs.List.{filter_map}
use Rattle.std.specs.Option.{option_map}
use Rattle.ignore_base.specs.Problem.{problem_of}
use Rattle.ignore_dir.proofs.errors.joined_some.Given as goal

abbrev pub invariant-loop-error : goal.invariant-loop-error
invariant-loop-error l = map problem_of l.all.items ≡ filter_map (λ p. p) (map (option_map problem_of) l.yielded)
