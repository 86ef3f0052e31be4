-- Worked ends: which items end a walk, and which entry is so many names below a root.
use Rattle.std.proofs.Common.{◌≡◌, ℕ, List, [], ◌∷◌, length, Err, inl, inr, refl, sym, subst}
use Rattle.std.specs.Prelude.{Contains}
use Rattle.ignore_base.specs.Problem.{io, memory}
use Rattle.ignore_base.specs.Text.{Path}
use Rattle.ignore_base.specs.declared.fault.Fault.TheVariants.{StepLimit}
use Rattle.ignore_walk.specs.Below.{IsAtOrBelow}
use Rattle.ignore_walk.specs.Branch.{Branch, path_of}
use Rattle.ignore_walk.specs.Entry.{Item}
use Rattle.ignore_walk.specs.Finished.{IsFinished}

-- a walk that its limit of steps ended wasn't finished, nor one that was out of memory

not_by_the_limit : (items : List Item) → IsFinished (Err (io StepLimit) ∷ items) → ⊥
not_by_the_limit items done = done.0 (inr refl)

not_by_out_of_memory : (items : List Item) → IsFinished (Err memory ∷ items) → ⊥
not_by_out_of_memory items done = done.0 (inl refl)

-- what is no names below a root is one of the roots
of_no_depth : (roots : List Path) (path : Path) → IsAtOrBelow roots path 0 → Contains roots path
of_no_depth roots path h = go h.place h.is h.deep
  where
    go : (place : Branch) → path ≡ path_of h.root place → 0 ≡ length place → Contains roots path
    go [] is deep = subst (Contains roots) (sym is) h.given
    go (name ∷ place) is deep = absurd (cc deep)
