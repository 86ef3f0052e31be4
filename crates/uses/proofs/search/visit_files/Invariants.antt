use Rattle.std.proofs.Common.{map}
use Rattle.ignore.specs.FileWords.{IsHonest, Tree}
use Rattle.ignore.specs.Finished.{IsFinished}
use Rattle.ignore.specs.WalkWords.{item_of}
use Rattle.uses.specs.Searched.{Finds}
use Rattle.uses.proofs.search.visit_files.Given as goal

-- none of the items so far ended the walk, and what they have is found
abbrev pub invariant-loop-entry : goal.invariant-loop-entry
invariant-loop-entry g l = record {
  finished : IsFinished (map item_of l.yielded);
  found : (tree : Tree) → IsHonest g.F.Files l.files tree → Finds tree l.word (map item_of l.yielded) l.found;
}
