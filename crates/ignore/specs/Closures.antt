-- What closures in boxes answer, as functions of what they are shown; and what goes where there are
-- none.
use Rattle.std.specs.Prelude.{◌≡◌, ◌↔◌, Bool, true, Option, None, Some}
use Rattle.std.specs.Cmp.Lexicographic.{slice_cmp}
use Rattle.std.specs.Ordering.{nat_cmp}
use Rattle.std.specs.declared.cmp.Ordering.{Ordering}
use denote.Bor.{Bor}
use Rattle.ignore_base.specs.Text.{Path}
use Rattle.ignore_walk.specs.Entry.{Entry, entry_of, problem_in}
use Rattle.ignore_walk.specs.declared.callbacks.Callbacks.{Ghosts as Callbacks}
use Rattle.ignore_walk.specs.declared.callbacks.Options.{Options}
use Rattle.ignore_walk.specs.declared.callbacks.Order.{Order}
use Rattle.ignore_walk.specs.declared.callbacks.Order.TheVariants.{Listed, ByName, ByPath}
use Rattle.ignore_walk.specs.declared.entry.DirEntry.{DirEntry}
use Rattle.ignore.specs.declared.options.WalkOptions.{WalkOptions}

-- a filter answers by a function: each answer about an entry without an error is that of the
-- function; where no filter is set, each entry passes
abbrev pub Filters : {X : Type 0} → Option X → (X → Bor DirEntry → Bool → Type 0) → (Entry → Bool) → Type 0
Filters None gives keep = (e : Entry) → keep e ≡ true
Filters (Some x) gives keep = (e : Bor DirEntry) (yes : Bool) → problem_in e.now ≡ None → gives x e yes → yes ≡ keep (entry_of e.now)

-- texts compare as such, byte by byte
abbrev pub ComparesTexts : (Path → Path → Ordering) → Type 0
ComparesTexts cmp = (a b : Path) → cmp a b ≡ slice_cmp nat_cmp a b

-- a comparison answers by a function; where none is set, texts compare as such
abbrev pub Compares : {X : Type 0} → Option X → (X → Bor Path → Bor Path → Ordering → Type 0) → (Path → Path → Ordering) → Type 0
Compares None gives cmp = ComparesTexts cmp
Compares (Some x) gives cmp = (a b : Bor Path) (order : Ordering) → gives x a b order → order ≡ cmp a.now b.now

-- the order that a comparison is asked for, or that of the listings where none is set
abbrev pub order_of : {X : Type 0} → (X → Order) → Option X → Order
order_of order None = Listed
order_of order (Some x) = order x

-- the order of a walk: the one that its comparison is asked for; or where there is none, that of the
-- settings
abbrev pub chosen_order : WalkOptions → Order → Order
chosen_order b Listed = b.order
chosen_order b ByName = ByName
chosen_order b ByPath = ByPath

-- the settings of a walk besides those of its directories
abbrev pub options_of : WalkOptions → Order → Options
options_of b order = record { order = chosen_order b order; same_file_system = b.same_file_system; limit = b.limit }

-- what a walk without closures is answered: each entry passes, and texts compare as such
abbrev pub no_closures : Callbacks (Unit {0})
no_closures = record { filters = λ owner keep. (e : Entry) → keep e ≡ true; compares = λ owner cmp. ComparesTexts cmp }

-- what keeps the closures of a walk answers as if there were none
pub record IsBare {S : Type 0} (calls : Callbacks S) (owner : S) : Type 0 where
  pub passes : (keep : Entry → Bool) → calls.filters owner keep ↔ ((e : Entry) → keep e ≡ true)
  pub compares : (cmp : Path → Path → Ordering) → calls.compares owner cmp ↔ ComparesTexts cmp
