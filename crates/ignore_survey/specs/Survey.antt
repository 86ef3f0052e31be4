-- What a survey of a root yields.
use Rattle.std.specs.Cmp.Lexicographic.{slice_cmp}
use Rattle.std.specs.Ordering.{is_lt, nat_cmp}
use Rattle.std.specs.Prelude.{◌≡◌, Bool, true, false, not, ◌&&◌, List, [], ◌∷◌, ◌++◌, map, codes, Option, Some, Result, Ok, Err}
use Rattle.std.specs.Str.{bytes_eq}
use Rattle.ignore_base.specs.Paths.{join_of}
use Rattle.ignore_base.specs.Problem.{Problem, at_path, io}
use Rattle.ignore_base.specs.Text.{Bytes, Path}
use Rattle.ignore_base.specs.declared.fault.Fault.{Fault}
use Rattle.ignore_files.specs.Kinds.{is_dir}
use Rattle.ignore_files.specs.Tree.{Tree}
use Rattle.ignore_files.specs.declared.types.FileType.{FileType}
use Rattle.ignore_files.specs.declared.types.Listed.{Listed}
use Rattle.ignore_files.specs.declared.types.Listed.TheVariants as thing
use Rattle.ignore_dir.specs.Query.{query}
use Rattle.ignore_dir.specs.Scene.{QueryScene}
use Rattle.ignore_dir.specs.declared.incremental.IncrementalMatch.{IncrementalMatch}
use Rattle.ignore_walk.specs.Child.{named}
use Rattle.ignore_walk.specs.Walked.{IsArranged}
use Rattle.ignore_why.specs.QueryWhy.{QueryWhy, query_why}

-- an entry below a root: its path there, its kind with links not followed, the answer of the query
-- for it, and the reason of that
pub record Entry : Type 0 where
  pub path : Path
  pub kind : FileType
  pub answer : IncrementalMatch
  pub why : QueryWhy

-- what a survey yields: an entry, or a problem in the place of some
abbrev pub Item : Type 0
Item = Result Entry Problem

-- the entry of this kind at a path
abbrev pub entry_at : QueryScene → Path → FileType → Entry
entry_at g path kind =
    record { path = path; kind = kind; answer = (query g path (is_dir kind)).0; why = query_why g path (is_dir kind) }

-- a survey goes on below an entry: it is a directory that isn't ignored, nor at the greatest depth
abbrev pub goes_on : QueryScene → Path → FileType → Bool
goes_on g path kind = (query g path (is_dir kind)).0.descends

-- where a directory is; the empty path is that of the root
abbrev pub place : Path → Path → Path
place root [] = root
place root (b ∷ bs) = join_of root (b ∷ bs)

-- a fault in the place of what can't be listed of the directory at a path
abbrev pub unlisted : QueryScene → Path → Fault → Item
unlisted g dir fault = Err (at_path (place g.root dir) (io fault))

-- names in the order of their bytes, in each directory
abbrev pub by_name : Option (Path → Bytes → Bytes → Bool)
by_name = Some (λ dir a b. is_lt (slice_cmp nat_cmp a b))

-- a directory lists these things, those without a name as faults, in the order of the names; faults
-- come first, and what ties stays as it was listed
abbrev pub Lists : Tree → Path → List Listed → Type 0
Lists tree path things = (listed : List Listed) × (tree.list path ≡ Ok listed) × IsArranged by_name path (map named listed) things

mutual
  -- what a survey yields below the directory at a path: of each thing that it lists, in order; or
  -- the fault of its listing
  pub data Below (g : QueryScene) : Path → List Item → Type 0 where
    fails : {dir : Path} {fault : Fault} → g.tree.list (place g.root dir) ≡ Err fault → Below g dir (unlisted g dir fault ∷ [])
    lists : {dir : Path} {things : List Listed} {items : List Item} → Lists g.tree (place g.root dir) things → Each g dir things items
        → Below g dir items

  -- what it yields of some things that the directory at a path lists: a fault in its place; an
  -- entry, and then what is below it, where it goes on there
  pub data Each (g : QueryScene) : Path → List Listed → List Item → Type 0 where
    none : {dir : Path} → Each g dir [] []
    fault : {dir : Path} {f : Fault} {things : List Listed} {items : List Item} → Each g dir things items
        → Each g dir (thing.Fault f ∷ things) (unlisted g dir f ∷ items)
    leaf : {dir : Path} {name : Bytes} {kind : FileType} {things : List Listed} {items : List Item}
        → goes_on g (join_of dir name) kind ≡ false → Each g dir things items
        → Each g dir (thing.Entry name kind ∷ things) (Ok (entry_at g (join_of dir name) kind) ∷ items)
    inner : {dir : Path} {name : Bytes} {kind : FileType} {things : List Listed} {inside items : List Item}
        → goes_on g (join_of dir name) kind ≡ true → Below g (join_of dir name) inside → Each g dir things items
        → Each g dir (thing.Entry name kind ∷ things) (Ok (entry_at g (join_of dir name) kind) ∷ (inside ++ items))

-- a root is surveyed: it isn't `-`, which stands for standard input, and the greatest depth isn't 0
abbrev pub is_open : QueryScene → Bool
is_open g = not (bytes_eq g.root (codes "-")) && (query g [] true).0.descends

-- what a survey of a root yields
pub data IsSurvey (g : QueryScene) : List Item → Type 0 where
  closed : is_open g ≡ false → IsSurvey g []
  of_root : {items : List Item} → is_open g ≡ true → Below g [] items → IsSurvey g items
