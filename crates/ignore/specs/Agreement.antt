-- What a walk yields, by the answers of the matchers of its builder.
use Rattle.std.specs.Prelude.{◌≡◌, true, false, List, reverse, codes, bytes_eq, string_bytes, Contains}
use Rattle.ignore_base.specs.Text.{Path}
use Rattle.ignore_base.specs.Paths.{joined}
use Rattle.ignore_dir.specs.Query.{query}
use Rattle.ignore_dir.specs.declared.incremental.IncrementalMatch.{IncrementalMatch}
use Rattle.ignore_query.specs.Reached.{scene_of}
use Rattle.ignore_query.specs.declared.incremental.IncrementalIgnore.{IncrementalIgnore}
use Rattle.ignore_walk.specs.Agreement.{Reachable, is_within, keeps}
use Rattle.ignore_walk.specs.Branch.{Branch}
use Rattle.ignore_walk.specs.Child.{is_dir_kind}
use Rattle.ignore_walk.specs.Entry.{Entry}
use Rattle.ignore_walk.specs.Scene.{Scene}

-- the root of a matcher, as it was given
abbrev pub matcher_root : IncrementalIgnore → Path
matcher_root m = string_bytes m.asked.root

-- a matcher goes by the settings and the rules from outside of a walk
pub record IsMatcherIn (g : Scene) (m : IncrementalIgnore) : Type 0 where
  pub settings : m.asked.settings ≡ g.settings
  pub outside : m.asked.outside ≡ g.outside

-- listings lead from the root of a matcher, which isn't standard input, to an entry at a place that
-- is at the greatest depth or above it
pub record IsReached (g : Scene) (m : IncrementalIgnore) (place : Branch) (e : Entry) : Type 0 where
  pub no_stdin : bytes_eq (matcher_root m) (codes "-") ≡ false
  pub reachable : Reachable g (matcher_root m) place e
  pub within : is_within g place ≡ true

-- what a matcher answers on the bare tree where it is asked for the names to the place of an entry,
-- joined, and its kind
abbrev pub answer_at : Scene → IncrementalIgnore → Branch → Entry → IncrementalMatch
answer_at g m place e = (query (scene_of m.asked g.tree g.loads) (joined (reverse place)) (is_dir_kind e.kind)).0

-- one of some matchers keeps an entry that is reached from its root
pub record IsKeptByOne (g : Scene) (ms : List IncrementalIgnore) (e : Entry) : Type 0 where
  pub matcher : IncrementalIgnore
  pub place : Branch
  pub given : Contains ms matcher
  pub reached : IsReached g matcher place e
  pub kept : keeps (answer_at g matcher place e) ≡ true
