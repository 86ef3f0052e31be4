-- Which scenes a walk of the code is a walk of.
use Rattle.std.specs.Prelude.{◌≡◌, Bool, Option, None, Some}
use Rattle.std.specs.Cmp.{IsStrictWeakOrder}
use Rattle.std.specs.Ordering.{is_lt}
use Rattle.std.specs.declared.cmp.Ordering.{Ordering}
use Rattle.ignore_base.specs.Text.{Bytes, Path}
use Rattle.ignore_base.specs.Paths.{join_of}
use Rattle.ignore_files.specs.Gives.{IsHonest}
use Rattle.ignore_files.specs.declared.files.Files.{Ghosts as Files}
use Rattle.ignore_dir.specs.Load.{AreLoads}
use Rattle.ignore_dir.specs.declared.outside.Outside.{Outside}
use Rattle.ignore_dir.specs.declared.settings.Settings.{Settings}
use Rattle.ignore_walk.specs.Scene.{Scene}
use Rattle.ignore_walk.specs.declared.callbacks.Callbacks.{Ghosts as Callbacks}
use Rattle.ignore_walk.specs.declared.callbacks.Options.{Options}
use Rattle.ignore_walk.specs.declared.callbacks.Order.{Order}
use Rattle.ignore_walk.specs.declared.callbacks.Order.TheVariants.{Listed, ByName, ByPath}
use Rattle.ignore_walk.specs.declared.ground.Ground.{Ground}

-- the order that is chosen, if one is: in it a name of a directory comes before another as a
-- comparison puts the two names, or their paths
abbrev pub order_by : Order → (Path → Path → Ordering) → Option (Path → Bytes → Bytes → Bool)
order_by Listed cmp = None
order_by ByName cmp = Some (λ dir a b. is_lt (cmp a b))
order_by ByPath cmp = Some (λ dir a b. is_lt (cmp (join_of dir a) (join_of dir b)))

-- what is chosen is the order of a comparison by which the value answers, and which is a strict
-- weak order (as the one is by which all tie)
abbrev pub IsOrderBy : Order → ((Path → Path → Ordering) → Type 0) → Option (Path → Bytes → Bytes → Bool) → Type 0
IsOrderBy order answers_by chosen =
    (cmp : Path → Path → Ordering) × answers_by cmp × IsStrictWeakOrder (λ a b. is_lt (cmp a b)) × (chosen ≡ order_by order cmp)

-- a view of files, the owner of a walk, and its settings suit a scene: the files are consistent
-- with the tree, and the owner answers by the filter and the order
pub record Suits {F S : Type 0} (files : Files F) (calls : Callbacks S) (f : F) (owner : S) (s : Settings) (o : Outside)
    (options : Options) (g : Scene) : Type 0 where
  pub honest : IsHonest files f g.tree
  pub loads : AreLoads g.tree g.settings g.loads
  pub settings : g.settings ≡ s
  pub outside : g.outside ≡ o
  pub device : g.same_file_system ≡ options.same_file_system
  pub filter : calls.filters owner g.keep
  pub order : IsOrderBy options.order (calls.compares owner) g.order

-- what stays the same in a walk of the code suits a scene
abbrev pub IsGroundOf : {F S : Type 0} → Files F → Callbacks S → Ground F S → Scene → Type 0
IsGroundOf files calls by g = Suits files calls by.files.now by.owner by.settings by.outside by.options g
