-- What a list goes by over any files: the walk that its options ask for.
use Rattle.std.specs.Prelude.{◌≡◌, List, Option, None, Result, map, option_map}
use Rattle.std.specs.Iterator.{YieldsThen}
use Rattle.ignore_base.specs.declared.error.Error.{Error}
use Rattle.ignore_files.specs.declared.env.Env.{Env}
use Rattle.ignore_files.specs.declared.files.Files.{Ghosts as Files}
use Rattle.ignore_walk.specs.Entry.{Item, item_of}
use Rattle.ignore_walk.specs.Nexts.{NextGives}
use Rattle.ignore_walk.specs.declared.callbacks.Order.TheVariants.{Listed}
use Rattle.ignore_walk.specs.declared.entry.DirEntry.{DirEntry}
use Rattle.ignore_walk.specs.declared.walk.Walk.{Walk}
use Rattle.ignore.specs.Closures.{no_closures}
use Rattle.ignore.specs.Walks.{GoesBy}
use Rattle.ignore.specs.declared.options.WalkOptions.{WalkOptions}

-- over any files, a walk without closures goes by these settings, and begins at their roots
pub record IsWalkOf {F : Type 0} (files : Files F) (f : F) (env : Env) (b : WalkOptions) (w : Walk F (Unit {0})) : Type 0 where
  pub goes_by : GoesBy files f tt env b Listed w
  pub limit : w.left ≡ b.limit

-- these items are those that such a walk yielded before this answer
pub record HasYielded {F : Type 0} (files : Files F) (f : F) (env : Env) (b : WalkOptions) (items : List Item)
    (answer : Option (Result DirEntry Error)) : Type 0 where
  pub walk : Walk F (Unit {0})
  pub is_walk : IsWalkOf files f env b walk
  pub all : List (Result DirEntry Error)
  pub left : Walk F (Unit {0})
  pub yields : YieldsThen (λ old given new. NextGives files no_closures old (option_map item_of given) new) walk all answer left
  pub are : items ≡ map item_of all

-- these items are all that such a walk yields
abbrev pub AreWalked : {F : Type 0} → Files F → F → Env → WalkOptions → List Item → Type 0
AreWalked files f env b items = HasYielded files f env b items None

-- these items are the first that such a walk yields, or all of them
abbrev pub AreFirstWalked : {F : Type 0} → Files F → F → Env → WalkOptions → List Item → Type 0
AreFirstWalked files f env b items = (answer : Option (Result DirEntry Error)) × HasYielded files f env b items answer
