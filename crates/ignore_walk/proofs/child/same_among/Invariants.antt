use Rattle.std.proofs.Common.{◌≡◌, map, reverse, take}
use Rattle.ignore_files.specs.Gives.{IsHonest}
use Rattle.ignore_files.specs.Tree.{Tree}
use Rattle.ignore_walk.specs.Child.{same_among}
use Rattle.ignore_walk.proofs.child.same_among.Given as goal

abbrev pub invariant-loop-i : goal.invariant-loop-i
invariant-loop-i g l = (tree : Tree) → IsHonest g.F.Files l.files tree
    → same_among tree l.identity (map (λ f. f.path) (reverse l.frames)) ≡ same_among tree l.identity (map (λ f. f.path) (reverse
    (take l.i l.frames)))
