-- Worked: below `/`, what is kept of `a` and of `a/b`, whose levels have the offsets 3 and 5. What is
-- above the root has the text `/`, and the root the offset 1.
use Rattle.std.proofs.Common.{◌≡◌, ℕ, ◌+◌, ◌-◌, List, Some, codes, length, take, string_bytes, refl, ap, ◌∙◌, arith}
use Rattle.ignore_levels.specs.Levels.{floor_at, slots_of}
use Rattle.ignore_levels.specs.declared.list.Place.{Place}
use Rattle.ignore_levels.specs.declared.list.Slot.{Slot}
use Rattle.ignore_query.specs.declared.kept.Cache.{Cache}
use Rattle.ignore_query.specs.declared.kept.Kept.TheVariants.{Loaded}
use Rattle.ignore_query.specs.Forget.{IsFreed, key_of}
use Rattle.ignore_query.specs.Listed.{key_down_to}

down_by : (c : Cache) (at : Place) (m n : ℕ) (key : List ℕ) → floor_at (slots_of c.levels) (Some at) ≡ m → length (string_bytes c.base) ≡ n
    → key_down_to c at key ≡ take (m - n) key
down_by c at m n key f b = ap (λ x. take (x - length (string_bytes c.base)) key) f ∙ ap (λ x. take (m - x) key) b

-- down to `a`, the key of `a/b` is that of `a`
pub down_to_a : (c : Cache) (at : Place) → floor_at (slots_of c.levels) (Some at) ≡ 3 → string_bytes c.base ≡ codes "/"
    → key_down_to c at (codes "a/b/") ≡ codes "a/"
down_to_a c at f b = down_by c at 3 1 (codes "a/b/") f (ap (λ (t : List ℕ). length t) b)

-- where `a` is forgotten, the level at the place of `a` is dropped
pub own_of_a : (slots : List Slot) (at : Place) → floor_at slots (Some at) ≡ 3 → IsFreed slots (Loaded (Some at)) (1 + length (key_of (codes "a"))) at
own_of_a slots at f = (refl, omega (arith, f))

-- and where `a/b` is forgotten, which has no rules and stands at the place of `a`, that level stays
pub not_of_b : (slots : List Slot) (at : Place) → floor_at slots (Some at) ≡ 3
    → ¬ IsFreed slots (Loaded (Some at)) (1 + length (key_of (codes "a/b"))) at
not_of_b slots at f h = omega (arith, f, h.1)
