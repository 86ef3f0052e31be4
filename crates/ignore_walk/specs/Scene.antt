-- What a walk is a walk of.
use Rattle.std.specs.Prelude.{Bool, Option}
use Rattle.ignore_base.specs.Text.{Bytes, Path}
use Rattle.ignore_files.specs.Tree.{Tree}
use Rattle.ignore_dir.specs.Load.{Loaded}
use Rattle.ignore_dir.specs.Scene as below
use Rattle.ignore_dir.specs.declared.outside.Outside.{Outside}
use Rattle.ignore_dir.specs.declared.settings.Settings.{Settings}
use Rattle.ignore_walk.specs.Entry.{Entry}

-- all that stays the same in a walk: the tree, the loads of its directories, the settings, the rules
-- from outside, whether other devices than that of a root stay closed, the filter, and, if an order
-- was chosen, whether one name in a directory comes before another
pub record Scene : Type 0 where
  pub tree : Tree
  pub loads : Path → Loaded
  pub settings : Settings
  pub outside : Outside
  pub same_file_system : Bool
  pub keep : Entry → Bool
  pub order : Option (Path → Bytes → Bytes → Bool)

-- what queries below a root depend on
abbrev pub queries : Scene → Path → below.QueryScene
queries g root = below.scene g.tree g.loads g.settings g.outside root
