-- The headline of walks: what a finished walk of a builder has yielded, in every case.
use Rattle.std.specs.Prelude.{◌≡◌, ◌<◌, ◌≤◌, ℕ, List}
use Rattle.ignore_dir.specs.Load.{AreLoads}
use Rattle.ignore_dir.specs.declared.outside.Outside.{Outside}
use Rattle.ignore_files.specs.declared.env.Env.{Env}
use Rattle.ignore_files.specs.declared.files.Files.{Ghosts as Files}
use Rattle.ignore_files.specs.Gives.{IsHonest}
use Rattle.ignore_files.specs.Tree.{Tree}
use Rattle.ignore_walk.specs.Entry.{Item}
use Rattle.ignore_walk.specs.Scene.{Scene}
use Rattle.ignore_walk.specs.Suits.{IsOrderBy}
use Rattle.ignore_walk.specs.Whole.{Whole}
use Rattle.ignore_walk.specs.declared.callbacks.Callbacks.{Ghosts as Callbacks}
use Rattle.ignore_walk.specs.declared.callbacks.Order.{Order}
use Rattle.ignore_walk.specs.declared.callbacks.Order.TheVariants.{Listed}
use Rattle.ignore.specs.declared.options.WalkOptions.{WalkOptions}
use Rattle.ignore.specs.Asked.{IsOutside}
use Rattle.ignore.specs.Closures.{chosen_order, no_closures}
use Rattle.ignore.specs.ItsList.{ForItsList}

-- a scene is one of a walk in a tree, by options and rules from outside: it has the tree and the
-- loads of its directories, the settings, these rules, a function by which the filter of `owner`
-- answers, and, if an order is chosen, a strict weak order by which its comparison does
pub record IsSceneOf {S : Type 0} (calls : Callbacks S) (owner : S) (b : WalkOptions) (order : Order) (t : Tree) (o : Outside)
    (g : Scene) : Type 0 where
  pub tree : g.tree ≡ t
  pub loads : AreLoads g.tree g.settings g.loads
  pub settings : g.settings ≡ b.settings
  pub outside : g.outside ≡ o
  pub device : g.same_file_system ≡ b.same_file_system
  pub filter : calls.filters owner g.keep
  pub sorted : IsOrderBy (chosen_order b order) (calls.compares owner) g.order

-- a scene is one of a walk without closures, by options alone: each entry passes, and texts compare as
-- such
abbrev pub IsBareScene : WalkOptions → Tree → Outside → Scene → Type 0
IsBareScene b t o g = IsSceneOf no_closures tt b Listed t o g

-- each list that there is (there may be none) takes more steps than the limit, in each tree that
-- the files are consistent with
abbrev pub IsAboveLimit : {F S : Type 0} → Files F → Callbacks S → F → S → Env → WalkOptions → Order → Type 0
IsAboveLimit files calls f owner env b order =
    (tree : Tree) → IsHonest files f tree
    → ForItsList (IsSceneOf calls owner b order tree) env b tree (λ g items n. b.limit < n)

-- in each tree that the files are consistent with there are rules from outside, as they are read
-- there
abbrev pub ReadsOutside : {F : Type 0} → Files F → F → Env → WalkOptions → Type 0
ReadsOutside files f env b = (tree : Tree) → IsHonest files f tree → (outside : Outside) × IsOutside tree env b outside

-- by given rules from outside a finished walk in a tree has yielded these items: in each scene of
-- the walk they are what the roots give (`Whole`), in at most as many steps as the limit
abbrev pub HasYielded : {S : Type 0} → Callbacks S → S → WalkOptions → Order → Tree → Outside → List Item → Type 0
HasYielded calls owner b order tree outside all =
    (g : Scene) → IsSceneOf calls owner b order tree outside g → (n : ℕ) × (n ≤ b.limit) × Whole g b.roots all n

-- these items are the list of the definition in a tree: a finished walk has yielded them by any
-- rules from outside as they are read there, which are one by the law `one_outside`
abbrev pub IsListIn : {S : Type 0} → Callbacks S → S → Env → WalkOptions → Order → Tree → List Item → Type 0
IsListIn calls owner env b order tree all =
    (outside : Outside) → IsOutside tree env b outside → HasYielded calls owner b order tree outside all

-- the headline: these items are the list of the definition, in each tree that the files are
-- consistent with
abbrev pub Headline : {F S : Type 0} → Files F → Callbacks S → F → S → Env → WalkOptions → Order → List Item → Type 0
Headline files calls f owner env b order all = (tree : Tree) → IsHonest files f tree → IsListIn calls owner env b order tree all

-- no other list is that of the definition in a tree: by the rules from outside, as they are read
-- there, whatever the roots give in a scene of the walk is these items, in at most as many steps as
-- the limit
abbrev pub IsOnlyListIn : {S : Type 0} → Callbacks S → S → Env → WalkOptions → Order → Tree → List Item → Type 0
IsOnlyListIn calls owner env b order tree all =
    ForItsList (IsSceneOf calls owner b order tree) env b tree (λ g items n. (all ≡ items) × (n ≤ b.limit))

-- no other list is that of the definition, in each tree that the files are consistent with
abbrev pub IsOnlyList : {F S : Type 0} → Files F → Callbacks S → F → S → Env → WalkOptions → Order → List Item → Type 0
IsOnlyList files calls f owner env b order all = (tree : Tree) → IsHonest files f tree → IsOnlyListIn calls owner env b order tree all

-- these items are the one list of the definition in a tree: the rules from outside are as they were
-- read, there is a scene of the walk, its roots give these items, and the limit of steps allows
-- them; and in no scene of the walk do the roots give others
pub record IsTheList {S : Type 0} (calls : Callbacks S) (owner : S) (env : Env) (b : WalkOptions) (order : Order) (tree : Tree)
    (all : List Item) : Type 0 where
  pub outside : Outside
  pub read : IsOutside tree env b outside
  pub scene : Scene
  pub is : IsSceneOf calls owner b order tree outside scene
  pub steps : ℕ
  pub given : Whole scene b.roots all steps
  pub within : steps ≤ b.limit
  pub only : (g : Scene) (items : List Item) (n : ℕ) → IsSceneOf calls owner b order tree outside g → Whole g b.roots items n
      → all ≡ items
