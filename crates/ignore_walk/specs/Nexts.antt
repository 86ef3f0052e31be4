-- What a walk still gives, and what its `next` answers.
use Rattle.std.specs.Prelude.{◌≡◌, ◌<◌, ◌≤◌, ◌⊎◌, ⊤, ℕ, ◌+◌, ◌*◌, true, false, List, [], ◌∷◌, length, Option, None, Some, Err}
use Rattle.std.specs.Prelude.{if◌then◌else◌}
use Rattle.ignore_base.specs.declared.fault.Fault.TheVariants.{StepLimit}
use Rattle.ignore_base.specs.Problem.{io, memory}
use Rattle.ignore_base.specs.Text.{Path}
use Rattle.ignore_files.specs.declared.files.Files.{Ghosts as Files}
use Rattle.ignore_walk.specs.Below.{AnswersBelow, KeepsBelow}
use Rattle.ignore_walk.specs.Branch.{Branch}
use Rattle.ignore_walk.specs.Entry.{Item}
use Rattle.ignore_walk.specs.Finished.{IsEnd}
use Rattle.ignore_walk.specs.GoesOn.{GoesOn, HasNoEnd}
use Rattle.ignore_walk.specs.Left.{Remains, State}
use Rattle.ignore_walk.specs.Moves.{IsOfRoots, Precedes}
use Rattle.ignore_walk.specs.Paces.{Paces}
use Rattle.ignore_walk.specs.Scene.{Scene}
use Rattle.ignore_walk.specs.Stands.{Becomes, IsIn, Stands, state_of}
use Rattle.ignore_walk.specs.Suits.{IsGroundOf}
use Rattle.ignore_walk.specs.declared.callbacks.Callbacks.{Ghosts as Callbacks}
use Rattle.ignore_walk.specs.declared.walk.Walk.{Walk}

-- a walk that wasn't ended suits a scene, and still gives these items, in so many steps
pub record Remaining {F S : Type 0} (files : Files F) (calls : Callbacks S) (g : Scene) (w : Walk F S) (items : List Item) (n : ℕ)
    : Type 0 where
  pub suits : IsGroundOf files calls w.ground g
  pub goes_on : w.ended ≡ false
  pub stands : Stands g w.stack items n

-- an item was handed out, the first of those that remained; the walk may take fewer steps now, by
-- those that were taken for it
pub record Handed {F S : Type 0} (files : Files F) (calls : Callbacks S) (g : Scene) (a : Walk F S) (item : Item) (b : Walk F S)
    (items : List Item) (n : ℕ) : Type 0 where
  pub others : List Item
  pub k : ℕ
  pub are : items ≡ item ∷ others
  pub rest : Remaining files calls g b others k
  pub taken : n + b.left ≡ k + a.left

-- the walk was ended by an item: memory ran out; or the limit is reached, and then fewer steps were
-- left than what remains takes
abbrev pub EndsBy : Item → ℕ → ℕ → Type 0
EndsBy item left n = (item ≡ Err memory) ⊎ ((item ≡ Err (io StepLimit)) × (left < n))

-- a walk that wasn't ended suits a scene, and what remains of it is what these roots give
pub record Starts {F S : Type 0} (files : Files F) (calls : Callbacks S) (g : Scene) (w : Walk F S) (roots : List Path) : Type 0 where
  pub suits : IsGroundOf files calls w.ground g
  pub goes_on : w.ended ≡ false
  pub whole : Becomes g w.stack (IsOfRoots g roots)

-- what `next` shows of a list, where this was in hand and so many steps were left: by none, that
-- nothing remained, and that in steps that were left; by an item, unless it ended the walk, that the
-- item and then what remains now remained, in more steps by those that were taken for it
abbrev pub Shows : {F S : Type 0} → Scene → State → ℕ → Option Item → Walk F S → Type 0
Shows g s left None b = (n : ℕ) × (n ≤ left) × Remains g s [] n
Shows g s left (Some item) b =
    (IsEnd item × (b.ended ≡ true)) ⊎ ((k : ℕ) × (b.left + k ≡ left) × (b.ended ≡ false) × Becomes g b.stack (Precedes g s (item ∷ []) k))

-- what `next` answers where these items remain, in so many steps: none, where there are none and
-- the steps left were enough; the first of them, and then the others remain; or what ends the walk
abbrev pub Nexts : {F S : Type 0} → Files F → Callbacks S → Scene → Walk F S → Option Item → Walk F S → List Item → ℕ → Type 0
Nexts files calls g a None b items n = (items ≡ []) × (n ≤ a.left)
Nexts files calls g a (Some item) b items n =
    Handed files calls g a item b items n ⊎ (EndsBy item a.left n × (b.ended ≡ true))

-- no more items than this are still to come, whatever the files answer: at most four of a step,
-- those in hand, and one that ends the walk
abbrev pub items_at_most : {F S : Type 0} → Walk F S → ℕ
items_at_most w = 4 * w.left + (length w.stack.made.items + (if w.ended then 0 else 1))

-- a walk is over: it was ended, and no item is in hand
abbrev pub IsOver : {F S : Type 0} → Walk F S → Type 0
IsOver w = (w.ended ≡ true) × (length w.stack.made.items ≡ 0)

-- what a walk may end by: that there is no item more; that memory ran out; or the limit, and then
-- no step is left
abbrev pub IsLast : Option Item → ℕ → Type 0
IsLast None left = ⊤
IsLast (Some item) left = (item ≡ Err memory) ⊎ ((item ≡ Err (io StepLimit)) × (left ≡ 0))

-- a `next` handed out an item after which the walk goes on; or one that ends a walk, and then it is
-- over; or none
abbrev pub EndsOrGoesOn : {F S : Type 0} → Option Item → Walk F S → Type 0
EndsOrGoesOn None b = ⊤
EndsOrGoesOn (Some item) b = GoesOn item ⊎ (IsEnd item × IsOver b)

-- what one `next` of a walk answers, and what it makes of the walk. For files that are consistent
-- with a tree it is an item of what remains (`given`), and shows that this exists (`shows`). For all files: a walk that is over answers none; after
-- none it is over; where it wasn't ended and now is, it is over, and that was its last answer; the
-- steps that are left are fewer by exactly those that it took; where no item in hand ends a walk, as
-- at first, none does from then on but the last one that is handed out; and where all in hand is at
-- or below some roots, as at first, so is all from then on, and each entry that is handed out
pub record NextGives {F S : Type 0} (files : Files F) (calls : Callbacks S) (a : Walk F S) (answer : Option Item) (b : Walk F S)
    : Type 0 where
  pub given : (g : Scene) (items : List Item) (n : ℕ) → Remaining files calls g a items n → Nexts files calls g a answer b items n
  pub shows : (g : Scene) (root : Path) (place : Branch) (seen : List Path) → IsGroundOf files calls a.ground g → a.ended ≡ false
      → IsIn g root place seen a.stack → Shows g (state_of a.stack root place seen) a.left answer b
  pub over : IsOver a → answer ≡ None
  pub none : answer ≡ None → IsOver b
  pub last : a.ended ≡ false → b.ended ≡ true → IsOver b × IsLast answer b.left
  pub paced : Paces files a answer b
  pub ends : HasNoEnd a.stack → HasNoEnd b.stack × EndsOrGoesOn answer b
  pub below : (roots : List Path) → KeepsBelow roots a.stack → KeepsBelow roots b.stack × AnswersBelow roots answer
