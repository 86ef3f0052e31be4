-- What a tool that asks about one path finds.
use Rattle.std.specs.Prelude.{◌≡◌, Bool, Option}
use Rattle.ignore.specs.Words.{Path, Problem}
use Rattle.ignore.specs.FileWords.{Env, Tree}
use Rattle.ignore.specs.WalkWords.{AreLoads, IncrementalIgnore, IncrementalMatch, IsOutside, Loaded, Outside, asked_by, query, scene}
use Rattle.ignore.specs.WalkWords.{standard, unset, with_root}

-- a matcher asks about paths below a root, by the settings at first, the rules from outside and the
-- working directory
abbrev pub IsMatcherBelow : Tree → Env → Path → IncrementalIgnore → Type 0
IsMatcherBelow tree env root m =
    (outside : Outside) × IsOutside tree env (with_root unset root) outside × (asked_by m ≡ (standard, outside, root, env.current_dir))

-- an answer about a path below a root, with its problem, is that of the bare tree, by these
-- settings and rules
abbrev pub IsFound : Tree → Env → Path → Path → Bool → IncrementalMatch × Option Problem → Type 0
IsFound tree env root path is_dir found =
    (outside : Outside) × IsOutside tree env (with_root unset root) outside
    × ((loads : Path → Loaded) → AreLoads tree standard loads → found ≡ query (scene tree loads standard outside root) path is_dir)
