-- What a survey yields, by the walk of its root.
use Rattle.std.specs.Prelude.{◌≡◌, false, List, Contains, None, Some, Ok}
use Rattle.ignore_base.specs.Text.{Path}
use Rattle.ignore_dir.specs.Query.{depth_of_path}
use Rattle.ignore_dir.specs.Verdict.{is_ignore}
use Rattle.ignore_walk.specs.Agreement.{IsOpen}
use Rattle.ignore_walk.specs.Entry.{Entry as Walked}
use Rattle.ignore_walk.specs.Scene.{Scene}
use Rattle.ignore_survey.specs.Survey.{Entry, Item, place}

-- a walk that follows no links, filters nothing, may go on to other devices, and has no limit on
-- depth
pub record IsPlain (g : Scene) : Type 0 where
  pub is_open : IsOpen g
  pub no_links : g.settings.follow_links ≡ false
  pub no_least : g.settings.min_depth ≡ None
  pub no_greatest : g.settings.max_depth ≡ None

-- an entry of a survey as a walk of the root yields it
abbrev pub walked : Path → Entry → Walked
walked root e = record { path = place root e.path; depth = depth_of_path e.path; kind = Some e.kind; followed = false }

-- a walk's entry is one of a survey that isn't ignored
pub record IsKept (root : Path) (items : List Item) (v : Walked) : Type 0 where
  pub entry : Entry
  pub among : Contains items (Ok entry)
  pub kept : is_ignore entry.answer.verdict ≡ false
  pub is : v ≡ walked root entry
