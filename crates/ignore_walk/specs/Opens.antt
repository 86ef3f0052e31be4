-- A directory that was entered by the code.
use Rattle.std.specs.Prelude.{◌≡◌, option_map}
use Rattle.std.specs.Result.{result_err}
use Rattle.ignore_base.specs.Text.{Bytes, Path}
use Rattle.ignore_base.specs.Problem.{problem_of}
use Rattle.ignore_walk.specs.declared.open.Opened.{Opened}
use Rattle.ignore_walk.specs.Scene.{Scene}
use Rattle.ignore_walk.specs.Walked.{IsArranged, listing_of}

-- a directory was loaded and listed, and its listing arranged
pub record Opens (g : Scene) (path : Path) (text : Bytes) (o : Opened) : Type 0 where
  pub at : o.directory.path ≡ path
  pub seen_as : o.directory.text ≡ text
  pub dir : o.directory.dir ≡ (g.loads path).0
  pub problem : option_map problem_of o.error ≡ (g.loads path).1
  pub rest : IsArranged g.order path (listing_of (g.tree.list path)) o.directory.rest.items
  pub fault : o.fault ≡ result_err (g.tree.list path)
