-- Worked walks: what a walk goes by over any files.
use Rattle.std.proofs.Common.{◌≡◌, ◌∙◌, Bool, [], ap, sym, subst}
use Rattle.ignore_files.specs.declared.env.Env.{Env}
use Rattle.ignore_files.specs.declared.files.Files.{Ghosts as Files}
use Rattle.ignore_walk.specs.Entry.{Entry}
use Rattle.ignore_walk.specs.Paces.{work_at, work_of}
use Rattle.ignore_walk.specs.declared.callbacks.Callbacks.{Ghosts as Callbacks}
use Rattle.ignore_walk.specs.declared.callbacks.Order.{Order}
use Rattle.ignore_walk.specs.declared.walk.Walk.{Walk}
use Rattle.ignore.specs.Walks.{GoesBy}
use Rattle.ignore.specs.declared.options.WalkOptions.{WalkOptions}

module _ {F S : Type 0} (files : Files F) (f : F) (owner : S) (env : Env) (b : WalkOptions) (order : Order) (w : Walk F S)
    (by : GoesBy files f owner env b order w) where
  -- its filter is that of the owner
  own_filter : (calls : Callbacks S) (keep : Entry → Bool) → calls.filters owner keep → calls.filters w.ground.owner keep
  own_filter calls keep is = subst (λ o. calls.filters o keep) (sym by.closures) is

  -- its overrides and its types are those of the options
  own_overrides : w.ground.outside.overrides ≡ b.overrides
  own_overrides = by.outside.overrides

  own_types : w.ground.outside.types ≡ b.types
  own_types = by.outside.types

  -- without roots it has nothing to do
  without_roots : b.roots ≡ [] → work_of w.stack ≡ work_at []
  without_roots none = by.roots ∙ ap work_at none
