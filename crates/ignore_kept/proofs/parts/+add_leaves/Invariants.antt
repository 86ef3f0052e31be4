use Rattle.std.proofs.Common.{◌≡◌, ◌++◌, map, take}
use Rattle.std.specs.Option.{option_copied}
use Rattle.ignore_base.specs.Problem.{problem_of, problems_of}
use Rattle.ignore_kept.specs.Parts.{all_parts_at, one_of}
use Rattle.ignore_kept.proofs.parts.+add_leaves.Given as goal

-- the parts of the errors before this one were added
abbrev pub invariant-loop-err : goal.invariant-loop-err
invariant-loop-err l =
    map one_of l.leaves.items ≡ map one_of l.fn.leaves.items
    ++ all_parts_at (option_copied l.path) l.line (problems_of (map problem_of (take l.err-index l.err-items)))
