-- Which items the program lists: those of the walk of its roots.
use Rattle.std.specs.Prelude.{◌≡◌, ◌<◌, ◌⊎◌, ℕ, List, [], ◌∷◌, ◌++◌, All, Option, None, Err, IfSome}
use Rattle.std.specs.List.{AllZip}
use Rattle.ignore_base.specs.declared.fault.Fault.TheVariants.{StepLimit}
use Rattle.ignore_base.specs.Problem.{io}
use Rattle.ignore_base.specs.Text.{Bytes, Path, slash}
use Rattle.ignore_files.specs.Gives.{IsHonest}
use Rattle.ignore_files.specs.Tree.{Tree}
use Rattle.ignore_files.specs.declared.env.Env.{Env}
use Rattle.ignore_files.specs.declared.files.Files.{Ghosts as Files}
use Rattle.ignore_walk.specs.Entry.{Item}
use Rattle.ignore_walk.specs.declared.callbacks.Order.TheVariants.{ByName, Listed}
use Rattle.ignore.specs.Builder.{unset, with_limit, with_order, with_roots}
use Rattle.ignore.specs.Closures.{no_closures}
use Rattle.ignore.specs.Headline.{Headline, IsBareScene, IsOnlyList}
use Rattle.ignore.specs.ItsList.{ForItsList}
use Rattle.ignore.specs.declared.options.WalkOptions.{WalkOptions}

-- a root is the given one without the slashes at its end: it ends in a slash only where it is one
-- alone, and it is empty only where the given one is
pub record IsTrimmed (given root : Path) : Type 0 where
  pub slashes : Bytes
  pub only : All (λ b. b ≡ slash) slashes
  pub are : given ≡ root ++ slashes
  pub ends : (front : Bytes) → root ≡ front ++ slash ∷ [] → front ≡ []
  pub some : root ≡ [] → given ≡ []

-- how many steps the walk of a list may take
abbrev pub most_steps : ℕ
most_steps = 1000000000

-- the settings of a list: these with the given roots, each without the slashes at its end, after the
-- others, and with the limit of steps
abbrev pub HasRoots : List Path → WalkOptions → WalkOptions → Type 0
HasRoots given old b = (roots : List Path) × AllZip IsTrimmed given roots × (b ≡ with_limit (with_roots old roots) most_steps)

-- these are a beginning of some items, and then the error of the limit
pub record IsCut (all items : List Item) : Type 0 where
  pub front : List Item
  pub rest : List Item
  pub begins : items ≡ front ++ rest
  pub are : all ≡ front ++ Err (io StepLimit) ∷ []

-- the last of these is the error of the limit; before it they are a beginning of the list of the
-- definition, if there is one, and that takes more steps than the limit
abbrev pub AreCut : {F : Type 0} → Files F → F → Env → WalkOptions → List Item → Type 0
AreCut files f env b all =
    ((front : List Item) × (all ≡ front ++ Err (io StepLimit) ∷ []))
    × ((tree : Tree) → IsHonest files f tree → ForItsList (IsBareScene b tree) env b tree (λ g items n. (b.limit < n) × IsCut all items))

-- these items are all of a walk by these settings, without closures: the headline is true of them,
-- and no others are such a list; or they were cut by the limit
abbrev pub AreListed : {F : Type 0} → Files F → F → Env → WalkOptions → List Item → Type 0
AreListed files f env b all =
    (Headline files no_closures f tt env b Listed all × IsOnlyList files no_closures f tt env b Listed all) ⊎ AreCut files f env b all

-- this item comes after the items before these: it is the first of them, or the error of the limit,
-- where the walk takes more steps than that
abbrev pub ComesNext : ℕ → Item → List Item → ℕ → Type 0
ComesNext limit item rest n = ((others : List Item) × (rest ≡ item ∷ others)) ⊎ ((item ≡ Err (io StepLimit)) × (limit < n))

-- these are a beginning of the list of the definition, if there is one, and the next one, if one is
-- given, comes after them
abbrev pub AreBegun : {F : Type 0} → Files F → F → Env → WalkOptions → List Item → Option Item → Type 0
AreBegun files f env b all next =
    (tree : Tree) → IsHonest files f tree
    → ForItsList (IsBareScene b tree) env b tree
    (λ g items n. (rest : List Item) × (items ≡ all ++ rest) × IfSome next (λ item. ComesNext b.limit item rest n))

-- these items are all of the walk of the given roots by the settings at first, with the names of a
-- directory in the order of texts
abbrev pub AreListedOf : {F : Type 0} → Files F → F → Env → List Path → List Item → Type 0
AreListedOf files f env given all = (b : WalkOptions) × HasRoots given (with_order unset ByName) b × AreListed files f env b all

-- these are a beginning of the items of that walk, and the next one comes after them; or there are
-- none yet
abbrev pub AreBegunOf : {F : Type 0} → Files F → F → Env → List Path → List Item → Option Item → Type 0
AreBegunOf files f env given all next =
    ((all ≡ []) × (next ≡ None))
    ⊎ ((b : WalkOptions) × HasRoots given (with_order unset ByName) b × AreBegun files f env b all next)
