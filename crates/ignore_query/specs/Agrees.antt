-- What a matcher keeps, and with which trees that agrees.
use Rattle.std.specs.Prelude.{◌≡◌, Bool, true, false, All, List, [], ◌∷◌, ◌++◌, Option, Some, reverse, string_bytes}
use Rattle.ignore_base.specs.Text.{Bytes}
use Rattle.ignore_base.specs.Paths.{IsName}
use Rattle.ignore_dir.specs.Above.{dirs_above, names_above, paths_above}
use Rattle.ignore_dir.specs.Chains.{placed_along, slashed}
use Rattle.ignore_dir.specs.Lists.{Placed}
use Rattle.ignore_dir.specs.Query.{is_dir_there, is_ignored}
use Rattle.ignore_dir.specs.Scene.{QueryScene}
use Rattle.ignore_dir.specs.Steps.{reached_in}
use Rattle.ignore_levels.specs.Levels.{IsChain, counting, slots_of}
use Rattle.ignore_levels.specs.declared.list.Place.{Place}
use Rattle.ignore_query.specs.declared.kept.Cache.{Cache}
use Rattle.ignore_query.specs.declared.kept.Kept.{Kept}
use Rattle.ignore_query.specs.declared.kept.Kept.TheVariants.{Ignored, Loaded}
pub use Rattle.ignore_query.specs.Listed.{kept_at}
use Rattle.ignore_query.specs.Listed.{SharesLevels}

-- it isn't kept as ignored
abbrev pub is_loaded : Kept → Bool
is_loaded Ignored = false
is_loaded (Loaded place) = true

-- the directory with these names is kept, and isn't ignored
abbrev pub IsLoaded : Cache → List Bytes → Type 0
IsLoaded c names = (place : Option Place) × (kept_at c names ≡ Some (Loaded place))

-- the directory in which that with these names is, is kept, and isn't ignored
abbrev pub IsInLoaded : Cache → List Bytes → Type 0
IsInLoaded c names = (front : List Bytes) (name : Bytes) → names ≡ front ++ name ∷ [] → IsLoaded c front

-- the place stands for those directories of a chain that have rules or a mark
abbrev pub StandsFor : Cache → Option Place → List Placed → Type 0
StandsFor c place chain = IsChain (slots_of c.levels) place (counting chain)

-- what counts of the directories above the root, the nearest first
abbrev pub chain_above : QueryScene → List Placed
chain_above g =
    reverse (placed_along 1 (dirs_above g.loads g.settings (paths_above g.tree g.settings g.root)) (names_above g.tree g.settings g.root))

-- the root is a directory, and what is kept of the directories above it is what counts of them
pub record IsAbove (g : QueryScene) (c : Cache) : Type 0 where
  pub root : is_dir_there (g.tree.stat g.root true) ≡ true
  pub chain : StandsFor c c.above (chain_above g)
  pub base : string_bytes c.base ≡ 47 ∷ slashed (names_above g.tree g.settings g.root)

-- this is right to keep of the directory with these names: that it is ignored, or a place that
-- stands for the chain of its entries
abbrev pub IsRight : QueryScene → Cache → List Bytes → Kept → Type 0
IsRight g c names Ignored = is_ignored g names ≡ true
IsRight g c names (Loaded place) = (is_ignored g names ≡ false) × StandsFor c place (reached_in g names).chain

-- what is kept agrees with a tree. Nothing is kept without what is above the root; what is kept of
-- a directory is right, so the root is never kept as ignored; and each is in one that is kept and
-- not ignored
pub record Agrees (g : QueryScene) (c : Cache) : Type 0 where
  pub above : c.has_above ≡ true → IsAbove g c
  pub first : (names : List Bytes) (k : Kept) → kept_at c names ≡ Some k → c.has_above ≡ true
  pub right : (names : List Bytes) (k : Kept) → All IsName names → kept_at c names ≡ Some k → IsRight g c names k
  pub inside : (names : List Bytes) (k : Kept) → All IsName names → kept_at c names ≡ Some k → IsInLoaded c names
  pub shared : SharesLevels c

-- what is above the root is kept, and this is the place at which the directory stands in which that
-- with these names is: for the root, the place of what is above it
pub record IsNext (c : Cache) (names : List Bytes) (place : Option Place) : Type 0 where
  pub rooted : c.has_above ≡ true
  pub top : names ≡ [] → place ≡ c.above
  pub inside : (front : List Bytes) (name : Bytes) → names ≡ front ++ name ∷ [] → kept_at c front ≡ Some (Loaded place)
