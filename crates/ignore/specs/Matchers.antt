-- The matchers of single paths that a builder makes.
use Rattle.std.specs.Prelude.{◌≡◌, List, Option, Result, map, string_bytes}
use Rattle.ignore_base.specs.Text.{Path}
use Rattle.ignore_dir.specs.declared.outside.Outside.{Outside}
use Rattle.ignore_dir.specs.declared.settings.Settings.{Settings}
use Rattle.ignore_files.specs.declared.env.Env.{Env}
use Rattle.ignore_files.specs.declared.types.Contents.{Contents}
use Rattle.ignore_files.specs.declared.types.Refusal.{Refusal}
use Rattle.ignore_files.specs.Tree.{Tree}
use Rattle.ignore_query.specs.Reached.{dir_of}
use Rattle.ignore_query.specs.declared.incremental.IncrementalIgnore.{IncrementalIgnore}
use Rattle.ignore.specs.declared.options.WalkOptions.{WalkOptions}
use Rattle.ignore.specs.Asked.{IsOutside, IsOutsideBy}

-- what a matcher's answers depend on besides the files: settings, rules from outside, its root, and
-- the working directory, by which paths are normalized
abbrev pub asked_by : IncrementalIgnore → Settings × Outside × Path × Option Path
asked_by m = (m.asked.settings, m.asked.outside, string_bytes m.asked.root, dir_of m.asked)

-- the same of one matcher for each root of a builder, in order, in a working directory
abbrev pub asked_at : WalkOptions → Outside → Option Path → List (Settings × Outside × Path × Option Path)
asked_at b outside dir = map (λ root. (b.settings, outside, root, dir)) b.roots

-- the matchers of a builder in an environment, one for each root, in order
abbrev pub AreMatchers : Tree → Env → WalkOptions → List IncrementalIgnore → Type 0
AreMatchers tree env b ms = (outside : Outside) × IsOutside tree env b outside × (map asked_by ms ≡ asked_at b outside env.current_dir)

-- the same by what any files answer
abbrev pub AreMatchersBy : (Path → Result Contents Refusal → Type 0) → Env → WalkOptions → List IncrementalIgnore → Type 0
AreMatchersBy Gives env b ms =
    (outside : Outside) × IsOutsideBy Gives env b outside × (map asked_by ms ≡ asked_at b outside env.current_dir)
