-- What is kept of directories is loaded by answers of files, consistent with a tree or not.
use Rattle.std.specs.Prelude.{◌≡◌, ◌+◌, true, false, All, List, Option, None, Some, length, reverse, string_bytes}
use Rattle.ignore_base.specs.Text.{Bytes}
use Rattle.ignore_base.specs.Paths.{IsName}
use Rattle.ignore_base.specs.Problem.{Problem}
use Rattle.ignore_dir.specs.Above.{path_along}
use Rattle.ignore_dir.specs.AboveBy.{IsAboveBy}
use Rattle.ignore_dir.specs.Chains.{slashed}
use Rattle.ignore_dir.specs.Lists.{Placed}
use Rattle.ignore_dir.specs.LoadsBy.{LoadsBy, reads_of, stats_of}
use Rattle.ignore_dir.specs.declared.dir.Dir.{Dir}
use Rattle.ignore_files.specs.declared.files.Files.{Ghosts as Files}
use Rattle.ignore_levels.specs.Levels.{IsAdded, slots_of}
use Rattle.ignore_levels.specs.declared.list.Place.{Place}
use Rattle.ignore_query.specs.declared.asked.Asked.{Asked}
use Rattle.ignore_query.specs.declared.kept.Cache.{Cache}
use Rattle.ignore_query.specs.declared.kept.Kept.{Kept}
use Rattle.ignore_query.specs.declared.kept.Kept.TheVariants.{Ignored, Loaded}
use Rattle.ignore_query.specs.Agrees.{IsNext, StandsFor}
use Rattle.ignore_query.specs.Listed.{kept_at}

-- the directory with these names was loaded whole, by answers that these files may give, and is
-- kept at a place: of its own where it has rules or a mark, else that of the directory in which it is
pub record IsKeptLoad {F : Type 0} (files : Files F) (f : F) (a : Asked) (c : Cache) (names : List Bytes)
    (place : Option Place) : Type 0 where
  pub dir : Dir
  pub problem : Option Problem
  pub parent : Option Place
  pub loads : LoadsBy (stats_of files f) (reads_of files f) a.settings (path_along (string_bytes a.root) names) dir problem
  pub next : IsNext c names parent
  pub added : IsAdded (slots_of c.levels) dir parent (length (string_bytes c.base) + length (slashed names)) place

-- what is above the root was loaded whole, by answers that these files may give, and is kept at its
-- place
pub record IsKeptAbove {F : Type 0} (files : Files F) (f : F) (a : Asked) (c : Cache) : Type 0 where
  pub dirs : List Placed
  pub reported : List (Option Problem)
  pub loads : IsAboveBy files f a.settings (string_bytes a.root) dirs (string_bytes c.base) reported
  pub stands : StandsFor c c.above (reverse dirs)

-- what is kept now and wasn't kept before was loaded so: what is above the root, and each directory
-- that isn't kept as ignored
pub record KeepsLoads {F : Type 0} (files : Files F) (f : F) (a : Asked) (old new : Cache) : Type 0 where
  pub above : old.has_above ≡ false → new.has_above ≡ true → IsKeptAbove files f a new
  pub dirs : (names : List Bytes) (place : Option Place) → All IsName names → kept_at old names ≡ None
      → kept_at new names ≡ Some (Loaded place) → IsKeptLoad files f a new names place

-- what was found of a directory with these names, in one that stands at a place: that it is ignored,
-- or a place after a load
abbrev pub IsFound : {F : Type 0} → Files F → F → Asked → Cache → Option Place → List Bytes → Kept → Type 0
IsFound files f a c parent names Ignored = Unit {0}
IsFound files f a c parent names (Loaded place) =
    (dir : Dir) × (problem : Option Problem)
    × LoadsBy (stats_of files f) (reads_of files f) a.settings (path_along (string_bytes a.root) names) dir problem
    × IsAdded (slots_of c.levels) dir parent (length (string_bytes c.base) + length (slashed names)) place
