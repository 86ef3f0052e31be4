use denote.Shadow.{shadow}
use denote.Text.{Utf8}
use Rattle.std.proofs.Common.{length, Option}
use Rattle.ignore_base.specs.Text.{Path}
use Rattle.ignore_files.specs.Gives.{IsHonest}
use Rattle.ignore_files.specs.Tree.{Tree}
use Rattle.ig_commands.specs.Root.{Nearest}
use Rattle.ig_commands.proofs.root.nearest_marked.Given as goal

-- the nearest folder with a mark, from the folder so far, is that from the first one
abbrev pub invariant-loop-rest : goal.invariant-loop-rest
invariant-loop-rest g l = record {
  text : shadow (Utf8 l.rest);
  nearest : (tree : Tree) → IsHonest g.F.Files l.files tree → (found : Option Path) → Nearest tree l.rest found → Nearest tree l.dir found;
}

abbrev pub decreases-loop-rest : goal.decreases-loop-rest
decreases-loop-rest g l = length l.rest
