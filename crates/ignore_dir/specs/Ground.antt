-- Trees of a ground.
use Rattle.ignore_base.specs.Text.{Path}
use Rattle.ignore_dir.specs.Load.{AreLoads, Loaded}
use Rattle.ignore_dir.specs.declared.ground.Ground.{Ground}
use Rattle.ignore_files.specs.Gives.{IsHonest}
use Rattle.ignore_files.specs.Tree.{Tree}
use Rattle.ignore_files.specs.declared.files.Files.{Ghosts as Files}

-- P holds of each tree with which the files of a ground are consistent
abbrev pub InTree : {F : Type 0} → Files F → Ground F → (Tree → Type 0) → Type 0
InTree files lent P = (tree : Tree) → IsHonest files lent.files.now tree → P tree

-- P holds of each such tree, with the loads of its directories
abbrev pub InLoads : {F : Type 0} → Files F → Ground F → (Tree → (Path → Loaded) → Type 0) → Type 0
InLoads files lent P =
    (tree : Tree) (loads : Path → Loaded) → IsHonest files lent.files.now tree → AreLoads tree lent.settings.now loads → P tree loads
