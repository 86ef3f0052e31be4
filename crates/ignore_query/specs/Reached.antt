-- What a matcher asks about.
use Rattle.std.specs.Prelude.{◌≡◌, Option, option_map, string_bytes}
use Rattle.ignore_base.specs.Text.{Path}
use Rattle.ignore_dir.specs.Load.{AreLoads, Loaded}
use Rattle.ignore_dir.specs.Scene.{QueryScene, scene}
use Rattle.ignore_files.specs.Gives.{IsHonest}
use Rattle.ignore_files.specs.Tree.{Tree}
use Rattle.ignore_files.specs.declared.files.Files.{Ghosts as Files}
use Rattle.ignore_query.specs.declared.asked.Asked.{Asked}

-- what queries below a root depend on, over a tree and the loads of its directories
abbrev pub scene_of : Asked → Tree → (Path → Loaded) → QueryScene
scene_of a tree loads = scene tree loads a.settings a.outside (string_bytes a.root)

-- P holds of each scene of these over files that are consistent with its tree
abbrev pub InEachScene : {F : Type 0} → Files F → F → Asked → (QueryScene → Type 0) → Type 0
InEachScene files f a P =
    (tree : Tree) (loads : Path → Loaded) → IsHonest files f tree → AreLoads tree a.settings loads → P (scene_of a tree loads)

-- the working directory, in which relative paths are, if it is known
abbrev pub dir_of : Asked → Option Path
dir_of a = option_map string_bytes a.current_dir

-- these ask about the same: they have the same settings, rules from outside, root and working
-- directory
pub record IsSame (a b : Asked) : Type 0 where
  pub settings : b.settings ≡ a.settings
  pub outside : b.outside ≡ a.outside
  pub root : string_bytes b.root ≡ string_bytes a.root
  pub dir : dir_of b ≡ dir_of a
