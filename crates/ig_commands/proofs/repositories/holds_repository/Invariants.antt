use Rattle.std.proofs.Common.{Bool}
use Rattle.ignore_files.specs.Gives.{IsHonest}
use Rattle.ignore_files.specs.Tree.{Tree}
use Rattle.ig_commands.specs.Repositories.{IsHeld, OneShows}
use Rattle.ig_commands.proofs.repositories.holds_repository.Given as goal

-- where one of the folders that wait, or of those below them, shows a repository, the first one holds it
abbrev pub invariant-loop-dir : goal.invariant-loop-dir
invariant-loop-dir g l =
    (tree : Tree) (held : Bool) → IsHonest g.F.Files l.files tree → OneShows tree l.waiting.items l.left held → IsHeld tree l.path held

abbrev pub decreases-loop-dir : goal.decreases-loop-dir
decreases-loop-dir g l = l.left
