-- Out of memory is never a soft problem, wherever it stands inside; each other problem that stands
-- alone is soft.
use Rattle.std.proofs.Common.{◌≡◌, ℕ, Bool, true, false, ◌||◌, List, [], ◌∷◌, ◌++◌, Option, Some, Err, refl, ap, ◌∙◌}
use Rattle.ignore_base.specs.declared.fault.Fault.{Fault}
use Rattle.ignore_base.specs.Problem.{Problem, several, at_line, at_path, at_depth, loop, io, glob, unrecognized}
use Rattle.ignore_base.specs.Problem.{invalid_definition, memory, problems_of}
use Rattle.ignore_dir.specs.Soft.{holds_memory, some_holds, IsSoft, AllSoft, IsSoftPlace}

-- out of memory itself
pub memory_holds : holds_memory memory ≡ true
memory_holds = refl

-- a problem at a line, a path or a depth holds what the problem inside holds
pub holds_inside : (p : Problem) (line depth : ℕ) (path : List ℕ) → holds_memory p ≡ true
    → (holds_memory (at_line line p) ≡ true) × (holds_memory (at_path path p) ≡ true) × (holds_memory (at_depth depth p) ≡ true)
holds_inside p line depth path h = (h, h, h)

some_holds_among : (before : List Problem) (p : Problem) (after : List Problem) → holds_memory p ≡ true
    → some_holds (problems_of (before ++ p ∷ after)) ≡ true
some_holds_among [] p after h = ap (λ b. b || some_holds (problems_of after)) h
some_holds_among (q ∷ before) p after h = ap (λ b. holds_memory q || b) (some_holds_among before p after h) ∙ or_true (holds_memory q)
  where
    or_true : (b : Bool) → (b || true) ≡ true
    or_true true = refl
    or_true false = refl

-- several problems hold what one of them holds, wherever it stands among them
pub holds_among : (before : List Problem) (p : Problem) (after : List Problem) → holds_memory p ≡ true
    → holds_memory (several (problems_of (before ++ p ∷ after))) ≡ true
holds_among before p after h = some_holds_among before p after h

-- out of memory at a path, among two at a line, at a depth
pub holds_far_inside : (fault : Fault) (path : List ℕ)
    → holds_memory (at_depth 2 (at_line 7 (several (problems_of (io fault ∷ at_path path memory ∷ []))))) ≡ true
holds_far_inside fault path = refl

-- none of the others that stand alone holds it
pub others_hold_none : (fault : Fault) (a b name : List ℕ) (pattern : Option (List ℕ))
    → (holds_memory (io fault) ≡ false) × (holds_memory (loop a b) ≡ false) × (holds_memory (glob pattern a) ≡ false)
    × (holds_memory (unrecognized name) ≡ false) × (holds_memory invalid_definition ≡ false)
others_hold_none fault a b name pattern = (refl, refl, refl, refl, refl)

never : {b : Bool} → b ≡ true → b ≡ false → ⊥
never h k = cc

-- what holds out of memory isn't soft, and no place is, on the way to which it was met
pub not_soft : (p : Problem) → holds_memory p ≡ true → (IsSoft (Some p) → ⊥) × (IsSoftPlace (Err p) → ⊥)
not_soft p h = (never h, never h)

-- nor are problems all soft where one of them holds it
pub not_all_soft : (before : List Problem) (p : Problem) (after : List Problem) → holds_memory p ≡ true
    → AllSoft (before ++ p ∷ after) → ⊥
not_all_soft [] p after h all = never h all.0
not_all_soft (q ∷ before) p after h all = not_all_soft before p after h all.1
