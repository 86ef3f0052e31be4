-- Where a path stands, by the rules and by what is kept, and how what is kept grows.
use Rattle.std.specs.Prelude.{◌≡◌, ◌≢◌, ◌++◌, ◌∷◌, ◌⊎◌, true, false, nat_lt, ℕ, Bool, All, List, [], Option, None, Some, Ok, Err}
use Rattle.std.specs.Prelude.{Result, string_bytes, if◌then◌else◌}
use Rattle.std.specs.List.{filter_map, list_all}
use Rattle.std.specs.Option.{option_to_list}
use Rattle.ignore_base.specs.Text.{Bytes, Path}
use Rattle.ignore_base.specs.Paths.{IsName, components, is_proper, join_of}
use Rattle.ignore_base.specs.Problem.{Problem}
use Rattle.ignore_base.specs.declared.fault.Fault.{Fault}
use Rattle.ignore_dir.specs.Chains.{slashed}
use Rattle.ignore_dir.specs.Limits.{is_beyond, size_problem}
use Rattle.ignore_dir.specs.Load as load
use Rattle.ignore_dir.specs.Query.{depth_of_path, has_rules, is_asked, is_dir_there, limit_of, names_of, size_of}
use Rattle.ignore_dir.specs.Scene.{QueryScene}
use Rattle.ignore_files.specs.Gives.{IsHonest}
use Rattle.ignore_files.specs.Tree.{Tree}
use Rattle.ignore_files.specs.declared.files.Files.{Ghosts as Files}
use Rattle.ignore_files.specs.declared.types.Metadata.{Metadata}
use Rattle.ignore_levels.specs.declared.list.Place.{Place}
use Rattle.ignore_query.specs.declared.asked.Asked.{Asked}
use Rattle.ignore_query.specs.declared.asked.Call.{Call}
use Rattle.ignore_query.specs.declared.kept.Cache.{Cache}
use Rattle.ignore_query.specs.declared.kept.Kept.{Kept}
use Rattle.ignore_query.specs.declared.kept.Kept.TheVariants.{Ignored, Loaded}
use Rattle.ignore_query.specs.declared.stand.Stand.{Stand}
use Rattle.ignore_query.specs.declared.stand.Stand.TheVariants.{Unasked, Beyond, Unruled, Inside, At}
use Rattle.ignore_query.specs.Agrees.{Agrees, IsNext}
use Rattle.ignore_query.specs.KeptLoads.{KeepsLoads}
use Rattle.ignore_query.specs.Listed.{kept_at}
use Rattle.ignore_query.specs.Needs.{Stays, is_decided, is_known}
use Rattle.ignore_query.specs.Reached.{InEachScene, scene_of}
use Rattle.ignore_query.specs.Reports.{new_above, new_below}

-- the directory with this key is the first on the way to a path of names that is kept as ignored
pub record IsInside (c : Cache) (names : List Bytes) (text : Path) : Type 0 where
  pub front : List Bytes
  pub name : Bytes
  pub rest : List Bytes
  pub split : names ≡ front ++ name ∷ rest
  pub key : text ≡ slashed front
  pub kept : kept_at c front ≡ Some Ignored

-- the directory in which a path of names is, is kept at this place
pub record IsIn (c : Cache) (names : List Bytes) (place : Option Place) : Type 0 where
  pub front : List Bytes
  pub name : Bytes
  pub split : names ≡ front ++ name ∷ []
  pub kept : kept_at c front ≡ Some (Loaded place)

-- a path of names stands inside an ignored directory, or at a place
abbrev pub IsPlaced : Cache → List Bytes → Stand → Type 0
IsPlaced c names Unasked = ⊥
IsPlaced c names Beyond = ⊥
IsPlaced c names Unruled = ⊥
IsPlaced c names (Inside key) = IsInside c names key.now
IsPlaced c names (At place) = IsIn c names place

-- this is the key of a directory, and the place at which that stands in which it is
pub record IsNextKey (c : Cache) (text : Path) (place : Option Place) : Type 0 where
  pub names : List Bytes
  pub clean : All IsName names
  pub key : text ≡ slashed names
  pub next : IsNext c names place

-- the way to a path of names may begin at the directory with this key: once what is above the root is
-- kept, this is the place at which the directory stands in which that is
pub record IsBegin (c : Cache) (names : List Bytes) (text : Path) (place : Option Place) : Type 0 where
  pub front : List Bytes
  pub name : Bytes
  pub rest : List Bytes
  pub split : names ≡ front ++ name ∷ rest
  pub key : text ≡ slashed front
  pub next : c.has_above ≡ true → IsNext c front place

-- the key of the directory that is next on the way to a path, after that with these names: with a name
-- more, unless no name follows that
abbrev pub next_on : List Bytes → Bytes → List Bytes → Option Path
next_on front name [] = None
next_on front name (after ∷ rest) = Some (slashed (front ++ name ∷ []))

-- the place, where it is kept and isn't ignored
abbrev pub open_in : Option Kept → Option (Option Place)
open_in None = None
open_in (Some Ignored) = None
open_in (Some (Loaded place)) = Some place

-- a path is asked about, and within the limits on depth
pub record IsWithin (a : Asked) (path : Path) (is_dir : Bool) : Type 0 where
  pub asked : is_asked (string_bytes a.root) path ≡ true
  pub within : is_beyond a.settings (depth_of_path path) is_dir ≡ false

-- a path stands so by the settings, and by what is kept where the rules decide
abbrev pub IsStand : Asked → Cache → Path → Bool → Stand → Type 0
IsStand a c path is_dir Unasked = is_asked (string_bytes a.root) path ≡ false
IsStand a c path is_dir Beyond =
    (is_asked (string_bytes a.root) path ≡ true) × (is_beyond a.settings (depth_of_path path) is_dir ≡ true)
IsStand a c path is_dir Unruled = IsWithin a path is_dir
IsStand a c path is_dir (Inside key) =
    IsWithin a path is_dir × ((list_all is_proper (components path) ≡ true) × IsInside c (components path) key.now)
IsStand a c path is_dir (At place) =
    IsWithin a path is_dir × ((list_all is_proper (components path) ≡ true) × IsIn c (components path) place)

-- where it stands outside of the rules, they don't decide on it
abbrev pub IsUnruled : QueryScene → Path → Stand → Type 0
IsUnruled g path stand = stand ≡ Unruled → has_rules g.tree g.root path ≡ false

-- what is kept has grown: what was kept stays kept, and what comes to it was loaded by answers of the
-- files; where they are consistent with a tree in which the root is a directory, it still agrees
pub record Grows {F : Type 0} (files : Files F) (f : F) (a : Asked) (old new : Cache) : Type 0 where
  pub stays : Stays old new
  pub loaded : KeepsLoads files f a old new
  pub agrees : InEachScene files f a (λ g. is_dir_there (g.tree.stat g.root true) ≡ true → Agrees g old → Agrees g new)

-- a question leaves this of what is kept, whatever it is answered
pub record LeavesKept {F : Type 0} (files : Files F) (call : Call F) (old new : Cache) : Type 0 where
  pub stays : Stays old new
  pub loaded : KeepsLoads files call.files.now call.asked.now old new
  pub agrees : InEachScene files call.files.now call.asked.now (λ g. Agrees g old → Agrees g new)
  pub unchanged : InEachScene files call.files.now call.asked.now (λ g. Agrees g old
      → is_decided g call.path.now call.is_dir ≢ true → new ≡ old)
  pub outside : (IsWithin call.asked.now call.path.now call.is_dir → ⊥) → new ≡ old
  pub known : (tree : Tree) (loads : Path → load.Loaded) → let g = scene_of call.asked.now tree loads in
      Agrees g old → is_known g old (names_of call.path.now) ≡ true → new ≡ old

-- the problems of what a question loads
abbrev pub problems_of_loads : QueryScene → Cache → Path → Bool → List Problem
problems_of_loads g c path is_dir =
    if is_decided g path is_dir then option_to_list (new_above g c) ++ filter_map (λ p. p) (new_below g c (names_of path)) else []

-- the problem of asking the size
abbrev pub problems_of_size : QueryScene → Path → Bool → List Problem
problems_of_size g path is_dir =
    if is_decided g path is_dir then option_to_list (size_problem (join_of g.root path) (limit_of g path is_dir) (size_of g path)) else []

-- the size and the limit that it is above
abbrev pub larger_by : Option ℕ → Result Metadata Fault → Option (ℕ × ℕ)
larger_by None size = None
larger_by (Some most) (Ok m) = if nat_lt most m.len then Some (m.len, most) else None
larger_by (Some most) (Err fault) = None

-- the files answer as a tree does, or have no limit on size to be asked for
abbrev pub IsSized : {F : Type 0} → Files F → F → Tree → Option ℕ → Type 0
IsSized files f tree limit = IsHonest files f tree ⊎ (limit ≡ None)

-- over a scene with which what is kept agrees, the path of a call stands so, and its size is asked for
-- as in the tree
pub record StandsIn {F : Type 0} (files : Files F) (call : Call F) (g : QueryScene) (c : Cache) (stand : Stand) : Type 0 where
  pub agrees : Agrees g c
  pub stands : IsStand call.asked.now c call.path.now call.is_dir stand
  pub unruled : IsUnruled g call.path.now stand
  pub sized : IsSized files call.files.now g.tree (limit_of g call.path.now call.is_dir)
