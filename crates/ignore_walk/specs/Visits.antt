-- What a walk visits, and what it yields of that.
use Rattle.std.specs.Prelude.{◌≡◌, true, false, List, [], ◌∷◌, codes, bytes_eq, Contains, Option, Ok}
use Rattle.ignore_base.specs.Text.{Bytes, Path}
use Rattle.ignore_base.specs.Problem.{Problem}
use Rattle.ignore_files.specs.declared.types.FileType.{FileType}
use Rattle.ignore_files.specs.declared.types.Listed.TheVariants as thing
use Rattle.ignore_walk.specs.Branch.{Branch}
use Rattle.ignore_walk.specs.Child.{child}
use Rattle.ignore_walk.specs.Entry.{Entry, Item}
use Rattle.ignore_walk.specs.Scene.{Scene}
use Rattle.ignore_walk.specs.Walked.{enter, fate, is_at_least, is_skipped, listing_of}
use Rattle.ignore_walk.specs.Whole.{root_entry}

-- an entry is among some items, with whatever problem of its load
abbrev pub IsYielded : List Item → Entry → Type 0
IsYielded items e = (problem : Option Problem) × Contains items (Ok (e, problem))

-- a walk visits an entry at a place: that of the root, and each listed entry of a directory that it
-- visits and enters, where no problem stands in its place
pub data IsVisited (g : Scene) (root : Path) : Branch → Entry → Type 0 where
  at_root : {e : Entry} → root_entry g root ≡ Ok e → IsVisited g root [] e
  listed : {b : Branch} {dir e : Entry} {name : Bytes} {kind : FileType} → IsVisited g root b dir → fate g root b dir ≡ enter
      → Contains (listing_of (g.tree.list dir.path)) (thing.Entry name kind) → child g root b (thing.Entry name kind) ≡ Ok e
      → IsVisited g root (name ∷ b) e

-- an entry is visited below a root, isn't skipped, and isn't above the least depth
pub record IsShown (g : Scene) (root : Path) (e : Entry) : Type 0 where
  pub place : Branch
  pub visited : IsVisited g root place e
  pub kept : is_skipped g root place e ≡ false
  pub deep : is_at_least g.settings.min_depth e.depth ≡ true

-- an entry is shown below one of some roots, which isn't standard input
pub record IsShownBelow (g : Scene) (roots : List Path) (e : Entry) : Type 0 where
  pub root : Path
  pub given : Contains roots root
  pub no_stdin : bytes_eq root (codes "-") ≡ false
  pub shown : IsShown g root e

-- an entry is listed in a directory that is visited and entered, and comes after these items: the
-- directory is among them, unless it is above the least depth
pub record IsAfterParent (g : Scene) (root : Path) (front : List Item) (e : Entry) : Type 0 where
  pub place : Branch
  pub dir : Entry
  pub name : Bytes
  pub kind : FileType
  pub visited : IsVisited g root place dir
  pub enters : fate g root place dir ≡ enter
  pub lists : Contains (listing_of (g.tree.list dir.path)) (thing.Entry name kind)
  pub is : child g root place (thing.Entry name kind) ≡ Ok e
  pub after : is_at_least g.settings.min_depth dir.depth ≡ true → IsYielded front dir
