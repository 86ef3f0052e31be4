-- What is above a root by answers of files, consistent with a tree or not.
use Rattle.std.specs.Prelude.{◌≡◌, Bool, true, false, List, [], ◌∷◌, map, codes, Option, Result}
use Rattle.ignore_base.specs.Text.{Bytes, Path}
use Rattle.ignore_base.specs.declared.fault.Fault.{Fault}
use Rattle.ignore_base.specs.Problem.{Problem}
use Rattle.ignore_files.specs.declared.files.Files.{Ghosts as Files}
use Rattle.ignore_dir.specs.declared.settings.Settings.{Settings}
use Rattle.ignore_dir.specs.Above.{canonical_names, directories_along, kept_above, needs_above}
use Rattle.ignore_dir.specs.Chains.{placed_along, slashed}
use Rattle.ignore_dir.specs.Lists.{Placed}
use Rattle.ignore_dir.specs.Load.{Loaded}
use Rattle.ignore_dir.specs.LoadsBy.{LoadsBy, Reads, Stats, as_answer, reads_of, stats_of}

-- these are loads of directories by these answers, in turn
abbrev pub AreLoadsBy : Stats → Reads → Settings → List Path → List Loaded → Type 0
AreLoadsBy Stat Read s [] [] = Unit {0}
AreLoadsBy Stat Read s [] (l ∷ ls) = ⊥
AreLoadsBy Stat Read s (dir ∷ dirs) [] = ⊥
AreLoadsBy Stat Read s (dir ∷ dirs) (l ∷ ls) = LoadsBy Stat Read s dir l.0 l.1 × AreLoadsBy Stat Read s dirs ls

-- loads of the directories from `/` along some names: what counts of each, with its offset in the
-- text of the names, and the problem of each
pub record AreAlongBy (Stat : Stats) (Read : Reads) (s : Settings) (names : List Bytes) (dirs : List Placed) (base : Path)
    (reported : List (Option Problem)) : Type 0 where
  pub loads : List Loaded
  pub loaded : AreLoadsBy Stat Read s (directories_along (codes "/") names) loads
  pub counts : dirs ≡ placed_along 1 (map (λ l. kept_above s l.0) loads) names
  pub text : base ≡ 47 ∷ slashed names
  pub problems : reported ≡ map (λ l. l.1) loads

-- the names from `/` to a root, where the directories above it are asked for, by an answer for its
-- canonical path
abbrev pub AreNamesBy : Bool → (Result Path Fault → Type 0) → List Bytes → Type 0
AreNamesBy false Canonical names = names ≡ []
AreNamesBy true Canonical names = (answer : Result Path Fault) × Canonical answer × (names ≡ canonical_names answer)

-- what is above a root was loaded by answers that files may give
abbrev pub IsAboveBy : {F : Type 0} → Files F → F → Settings → Path → List Placed → Path → List (Option Problem) → Type 0
IsAboveBy files f s root dirs base reported =
    (names : List Bytes) × AreNamesBy (needs_above s) (λ answer. files.canonical_gives f root (as_answer answer)) names
    × AreAlongBy (stats_of files f) (reads_of files f) s names dirs base reported
