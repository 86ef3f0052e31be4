-- What a walk has yielded when it answers none, and before.
use Rattle.std.specs.Prelude.{◌≡◌, ◌≤◌, ◌⊎◌, ⊤, ℕ, List, [], ◌∷◌, ◌++◌}
use Rattle.ignore_walk.specs.Entry.{Item}
use Rattle.ignore_walk.specs.Finished.{IsEnd}
use Rattle.ignore_walk.specs.GoesOn.{GoesOn}
use Rattle.ignore_walk.specs.Nexts.{EndsBy}

-- these are a beginning of the items that remained, and then what ended the walk
pub record EndsEarly (all items : List Item) (left n : ℕ) : Type 0 where
  pub front : List Item
  pub rest : List Item
  pub last : Item
  pub are : all ≡ front ++ last ∷ []
  pub begins : items ≡ front ++ rest
  pub ended : EndsBy last left n

-- these are what a walk has yielded when it answers none, where these items remained, in so many
-- steps: all of them, and the steps that it might take were enough; or a beginning of them, and
-- then what ended it
abbrev pub IsRun : List Item → List Item → ℕ → ℕ → Type 0
IsRun all items left n = ((all ≡ items) × (n ≤ left)) ⊎ EndsEarly all items left n

-- these, and then one item more, are what a walk has yielded so far, where these items remained, in
-- so many steps: they are a beginning of them, and the item is the next of them, or ended the walk
pub record IsBegun (all : List Item) (item : Item) (items : List Item) (left n : ℕ) : Type 0 where
  pub rest : List Item
  pub begins : items ≡ all ++ rest
  pub next : ((others : List Item) × (rest ≡ item ∷ others)) ⊎ EndsBy item left n

-- a walk goes on after each of these items, but for the last, which may have ended it
abbrev pub EndsLast : List Item → Type 0
EndsLast [] = ⊤
EndsLast (item ∷ []) = GoesOn item ⊎ IsEnd item
EndsLast (item ∷ (next ∷ items)) = GoesOn item × EndsLast (next ∷ items)
