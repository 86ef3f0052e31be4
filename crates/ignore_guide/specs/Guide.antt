-- What a place of a guide stands for, and what becomes of an entry there.
use Rattle.std.specs.Prelude.{◌≡◌, ℕ, Bool, false, nat_lt, List, [], ◌∷◌, ◌++◌, length, reverse, Option, None, Some, Result, Ok, Err, if◌then◌else◌}
use Rattle.ignore_base.specs.Paths.{join_of}
use Rattle.ignore_base.specs.Text.{Bytes, Path}
use Rattle.ignore_base.specs.Problem.{Problem}
use Rattle.ignore_base.specs.Match.{match_map}
use Rattle.ignore_base.specs.declared.match_result.Match.{Match}
use Rattle.ignore_base.specs.declared.fault.Fault.{Fault}
use Rattle.ignore_files.specs.Gives.{IsHonest}
use Rattle.ignore_files.specs.Tree.{Tree}
use Rattle.ignore_files.specs.declared.files.Files.{Ghosts as Files}
use Rattle.ignore_files.specs.declared.types.Metadata.{Metadata}
use Rattle.ignore_dir.specs.AboveBy.{IsAboveBy}
use Rattle.ignore_dir.specs.Limits.{beyond, is_beyond, limited, no_match, size_limit}
use Rattle.ignore_dir.specs.Lists.{Placed}
use Rattle.ignore_dir.specs.Load.{AreLoads, Loaded, joined_some}
use Rattle.ignore_dir.specs.LoadsBy.{LoadsBy, reads_of, stats_of}
use Rattle.ignore_dir.specs.Steps.{Reached, entry, verdict_at}
use Rattle.ignore_dir.specs.declared.dir.Dir.{Dir}
use Rattle.ignore_dir.specs.declared.incremental.IncrementalMatch.{IncrementalMatch}
use Rattle.ignore_dir.specs.declared.outside.Outside.{Outside}
use Rattle.ignore_dir.specs.declared.settings.Settings.{Settings}
use Rattle.ignore_dir.specs.declared.verdict.Verdict.{Verdict}
use Rattle.ignore_dir.specs.declared.verdict.Verdict.TheVariants as v
use Rattle.ignore_levels.specs.Reasons.{Why, placed_why}
use Rattle.ignore_levels.specs.Levels.{level_at, slots_of}
use Rattle.ignore_levels.specs.declared.list.Level.{Level}
use Rattle.ignore_levels.specs.declared.list.Place.{Place as LevelPlace}
use Rattle.ignore_levels.specs.declared.list.Slot.{Slot}
use Rattle.ignore_why.specs.Cited.{Cited, cited}
use Rattle.ignore_guide.specs.Forest.{StandsIn}
use Rattle.ignore_guide.specs.Names.{is_name}
use Rattle.ignore_guide.specs.declared.error.GuideError.{GuideError}
use Rattle.ignore_guide.specs.declared.error.GuideError.TheVariants as error
use Rattle.ignore_guide.specs.declared.guide.Guide.{Guide}
use Rattle.ignore_guide.specs.declared.judge.Entry.{Entry}
use Rattle.ignore_guide.specs.declared.places.Entered.{Entered}
use Rattle.ignore_guide.specs.declared.places.Place.{Place}

-- the texts by which rules know an entry of a directory: its path as the directories around it see
-- it, and its path
abbrev pub AreTexts : Entered → Bytes → Bytes → Path → Type 0
AreTexts dir name text path = (text ≡ dir.text ++ name) × (path ≡ join_of dir.path name)

-- a place stands for the directory that is reached, whose entries are so many names below the root
abbrev pub StandsFor : Guide → Place → ℕ → Reached → Type 0
StandsFor g place depth at = StandsIn (slots_of g.levels) g.places place depth at

-- each place that stands for a directory still does
abbrev pub KeepsPlaces : Guide → Guide → Type 0
KeepsPlaces old new = (place : Place) (depth : ℕ) (at : Reached) → StandsFor old place depth at → StandsFor new place depth at

-- settings and rules from outside stay
pub record IsSameGuide (old new : Guide) : Type 0 where
  pub settings : new.settings ≡ old.settings
  pub outside : new.outside ≡ old.outside

-- after an error nothing changed, unless memory ran out
abbrev pub IsUnchanged : GuideError → Guide → Guide → Type 0
IsUnchanged error.Memory old new = Unit {0}
IsUnchanged error.NoPlace old new = new ≡ old
IsUnchanged error.NoName old new = new ≡ old
IsUnchanged error.HasChildren old new = new ≡ old

-- what is reached, with what the directory there holds: it is the nearest, and a slash follows in
-- the text
abbrev pub holding : Dir → Reached → Reached
holding dir at = record { chain = (dir, length (at.text ++ 47 ∷ [])) ∷ at.chain; text = at.text ++ 47 ∷ []; path = at.path }

-- a root, by what is above it and what it holds
abbrev pub root_reached : List Placed → Path → Dir → Path → Reached
root_reached above text dir root = record { chain = (dir, length text) ∷ reverse above; text = text; path = root }

-- a root and what is above it were loaded by answers that files may give; the problems of those above
-- it and its own are reported as one
pub record IsRootBy {F : Type 0} (files : Files F) (f : F) (s : Settings) (root : Path) (above : List Placed) (text : Path)
    (dir : Dir) (reported : Option Problem) : Type 0 where
  pub far : List (Option Problem)
  pub own : Option Problem
  pub is_above : IsAboveBy files f s root above text far
  pub loads : LoadsBy (stats_of files f) (reads_of files f) s root dir own
  pub reports : reported ≡ joined_some (far ++ own ∷ [])

-- a size is above a limit, where there is one and the size is known
abbrev pub is_over : Option ℕ → Option ℕ → Bool
is_over None size = false
is_over (Some most) None = false
is_over (Some most) (Some size) = nat_lt most size

-- the size by this metadata, if it is known
abbrev pub len_of : Result Metadata Fault → Option ℕ
len_of (Ok m) = Some m.len
len_of (Err fault) = None

-- the verdict, and ignore for what is larger than the limit
abbrev pub within : Settings → Bool → Option ℕ → Verdict → Verdict
within s is_dir size verdict = if is_over (size_limit s is_dir verdict) size then v.Ignore else verdict

-- what becomes of an entry of the directory that is reached, so many names below the root: what is
-- beyond the limits on depth is ignored; else the rules decide, and then its size, where it is known
abbrev pub decided : Settings → Outside → ℕ → Reached → Bytes → Bool → Option ℕ → IncrementalMatch
decided s o depth at name is_dir size =
    if is_beyond s depth is_dir then beyond
    else limited s depth is_dir (within s is_dir size (verdict_at s o (entry at name) is_dir))

-- the same of an entry as it is listed: nothing decides on what has no name
abbrev pub decided_listed : Settings → Outside → ℕ → Reached → Entry → IncrementalMatch
decided_listed s o depth at e = if is_name e.name.now then decided s o depth at e.name.now e.is_dir e.size else no_match false

-- what decides on what is reached
abbrev pub why_at : Settings → Outside → Reached → Bool → Match Why
why_at s o at is_dir = placed_why s o at.chain at.text at.path is_dir

-- the same by name
abbrev pub cause_at : Settings → Outside → Reached → Bool → Match Cited
cause_at s o at is_dir = match_map (cited at.text) (why_at s o at is_dir)

-- P holds of each tree with which the files are consistent, with the loads of its directories by the
-- settings of a guide
abbrev pub InGuide : {F : Type 0} → Files F → F → Guide → (Tree → (Path → Loaded) → Type 0) → Type 0
InGuide files f g P =
    (tree : Tree) (loads : Path → Loaded) → IsHonest files f tree → AreLoads tree g.settings loads → P tree loads

-- the level above the one at a place
abbrev pub parent_of : Option Level → Option LevelPlace
parent_of None = None
parent_of (Some level) = level.parent

abbrev pub parent_at : List Slot → LevelPlace → Option LevelPlace
parent_at slots place = parent_of (level_at slots place)
