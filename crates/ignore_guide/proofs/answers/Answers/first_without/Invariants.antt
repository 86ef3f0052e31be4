use Rattle.std.proofs.Common.{◌≡◌, is_some, not, drop}
use Rattle.std.specs.List.{find}
use Rattle.ignore_base.specs.Text.{Path}
use Rattle.ignore_guide.specs.Answers.{answer_at}
use Rattle.ignore_guide.proofs.answers.Answers.first_without.Given as goal

-- the first one is the first of those that are left
abbrev pub invariant-loop-at : goal.invariant-loop-at
invariant-loop-at g l =
    find (λ (path : Path). not (is_some (answer_at l.self.list.items path))) l.paths
    ≡ find (λ (path : Path). not (is_some (answer_at l.self.list.items path))) (drop l.at l.paths)
