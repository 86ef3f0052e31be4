-- A matcher that keeps nothing yet.
use Rattle.std.specs.Prelude.{◌≡◌, Bool, false, List, None}
use Rattle.ignore_base.specs.Text.{Bytes, Path}
use Rattle.ignore_dir.specs.Query.{query}
use Rattle.ignore_dir.specs.Scene.{QueryScene}
use Rattle.ignore_query.specs.declared.kept.Cache.{Cache}
use Rattle.ignore_query.specs.Agrees.{Agrees, kept_at}
use Rattle.ignore_query.specs.Reports.{reported}

-- nothing is kept, neither of a directory nor of what is above the root
pub record KeepsNothing (c : Cache) : Type 0 where
  pub above : c.has_above ≡ false
  pub dirs : (names : List Bytes) → kept_at c names ≡ None

-- what keeps nothing agrees with each tree
abbrev pub NothingAgrees : Type 0
NothingAgrees = (g : QueryScene) (c : Cache) → KeepsNothing c → Agrees g c

-- where nothing is kept, a query reports the problem of a query on the bare tree
abbrev pub NothingReportsAll : Type 0
NothingReportsAll = (g : QueryScene) (c : Cache) (path : Path) (is_dir : Bool) → KeepsNothing c
    → reported g c path is_dir ≡ (query g path is_dir).1
