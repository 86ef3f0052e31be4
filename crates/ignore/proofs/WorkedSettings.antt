-- Limits of depth that are in order, and that aren't; items after which a walk was finished, and
-- items that end it.
use Rattle.std.proofs.Common.{◌<◌, inl, inr, ℕ, [], ◌∷◌, Option, None, Some, Ok, Err, refl, arith}
use Rattle.ignore_base.specs.declared.fault.Fault.TheVariants.{NotFound, StepLimit}
use Rattle.ignore_base.specs.Problem.{Problem, io, memory}
use Rattle.ignore_walk.specs.Entry.{Entry, stdin_entry}
use Rattle.ignore.specs.Depths.{AreOrdered}
use Rattle.ignore.specs.Finished.{IsEnd, IsFinished}

-- one depth may be both limits
ordered-same : AreOrdered (Some 3) (Some 3)
ordered-same = omega arith

-- a least depth above the greatest one isn't in order
ordered-never : (least greatest : ℕ) → greatest < least → AreOrdered (Some least) (Some greatest) → ⊥
ordered-never least greatest above ordered = omega (arith, above, ordered)

-- an entry ends no walk, whatever problem it has
entry-goes_on : (e : Entry) (p : Option Problem) → IsEnd (Ok (e, p)) → ⊥
entry-goes_on e p (inl h) = cc (h)
entry-goes_on e p (inr h) = cc (h)

-- a fault in the place of an entry ends no walk either
fault-goes_on : IsEnd (Err (io NotFound)) → ⊥
fault-goes_on (inl h) = cc (h)
fault-goes_on (inr h) = cc (h)

-- a walk that yielded nothing was finished
finished-nothing : IsFinished []
finished-nothing = tt

-- so was one that yielded standard input and a fault
finished-stdin : IsFinished (Ok (stdin_entry, None) ∷ (Err (io NotFound) ∷ []))
finished-stdin = (entry-goes_on stdin_entry None, (fault-goes_on, tt))

-- one that ran out of memory wasn't
finished-memory : IsFinished (Err memory ∷ []) → ⊥
finished-memory (not, done) = not (inl refl)

-- nor was one that reached the limit of steps after its first item
finished-limit : IsFinished (Ok (stdin_entry, None) ∷ (Err (io StepLimit) ∷ [])) → ⊥
finished-limit (first, (not, done)) = not (inr refl)
