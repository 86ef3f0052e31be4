-- What is left of a walk that is under way.
use Rattle.std.specs.Prelude.{◌≡◌, ℕ, suc, ◌+◌, List, [], ◌∷◌, ◌++◌, Result}
use Rattle.ignore_base.specs.Text.{Bytes, Path}
use Rattle.ignore_base.specs.Problem.{Problem}
use Rattle.ignore_files.specs.declared.types.Listed.{Listed}
use Rattle.ignore_walk.specs.Branch.{Branch}
use Rattle.ignore_walk.specs.Entry.{Entry, Item}
use Rattle.ignore_walk.specs.Scene.{Scene}
use Rattle.ignore_walk.specs.Walked.{WalkedOne, WalkedEach}
use Rattle.ignore_walk.specs.Whole.{WalkedRoots}

-- what a walk has in hand: items that are to be handed out; the root that was begun last; the place
-- of the directory that was entered last, and what of the listings isn't taken, that directory's
-- first and then those of the ones around it; the directories above roots that were begun; and the
-- roots that weren't
pub record State : Type 0 where
  pub made : List Item
  pub root : Path
  pub place : Branch
  pub rests : List (List Listed)
  pub seen : List Path
  pub roots : List Path

-- what the entered directories still give, the innermost first, and the steps that are left: what
-- is left of its listing, one step to leave it, and then the same of the ones around it
pub data Left (g : Scene) (root : Path) : Branch → List (List Listed) → List Item → ℕ → Type 0 where
  outermost : {xs : List Listed} {own : List Item} {m : ℕ} → WalkedEach g root [] xs own m → Left g root [] (xs ∷ []) own (suc m)
  inside : {name : Bytes} {b : Branch} {xs : List Listed} {rests : List (List Listed)} {own outer : List Item} {m n : ℕ}
      → WalkedEach g root (name ∷ b) xs own m → Left g root b rests outer n
      → Left g root (name ∷ b) (xs ∷ rests) (own ++ outer) (suc (m + n))

-- the same of a root, which may be done
abbrev pub LeftInRoot : Scene → Path → Branch → List (List Listed) → List Item → ℕ → Type 0
LeftInRoot g root b [] items n = (items ≡ []) × (n ≡ 0)
LeftInRoot g root b (xs ∷ rests) items n = Left g root b (xs ∷ rests) items n

-- all that a walk still gives, and the steps that are left, where an entry in hand gives its own:
-- the items that are made, that entry's, then the rest of the root that was begun, then the other
-- roots
pub record RemainsAfter (g : Scene) (s : State) (own : List Item) (m : ℕ) (items : List Item) (n : ℕ) : Type 0 where
  pub inner : List Item
  pub outer : List Item
  pub p : ℕ
  pub q : ℕ
  pub within : LeftInRoot g s.root s.place s.rests inner p
  pub after : WalkedRoots g s.seen s.roots outer q
  pub are : items ≡ s.made ++ (own ++ (inner ++ outer))
  pub count : n ≡ m + (p + q)

-- all that a walk still gives, and the steps that are left
abbrev pub Remains : Scene → State → List Item → ℕ → Type 0
Remains g s items n = RemainsAfter g s [] 0 items n

-- an entry or a problem is in hand that stands at a place below the root: what it gives, and all
-- else that the walk still gives, and the steps that are left
pub record InHand (g : Scene) (s : State) (b : Branch) (r : Result Entry Problem) (items : List Item) (n : ℕ) : Type 0 where
  pub own : List Item
  pub m : ℕ
  pub one : WalkedOne g s.root b r own m
  pub rest : RemainsAfter g s own m items n

-- a place is that of the root, or one name below that of the directory that was entered last
abbrev pub IsNext : Branch → Branch → List (List Listed) → Type 0
IsNext b place [] = b ≡ []
IsNext b place (xs ∷ rests) = (name : Bytes) × (b ≡ name ∷ place)
