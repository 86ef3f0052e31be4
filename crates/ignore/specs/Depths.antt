-- Limits of depth: the one that is set last is moved to the other where it is past it.
use Rattle.std.specs.Prelude.{ℕ, ◌≤◌, ⊤, min, max, Option, None, Some}

-- the limits are in order: where both are set, the least depth is at most the greatest
abbrev pub AreOrdered : Option ℕ → Option ℕ → Type 0
AreOrdered None greatest = ⊤
AreOrdered (Some least) None = ⊤
AreOrdered (Some least) (Some greatest) = least ≤ greatest

-- a greatest depth, raised to the least one where both are set and it is below that: 3 and 1 give 3
abbrev pub raised : Option ℕ → Option ℕ → Option ℕ
raised None greatest = greatest
raised (Some least) None = None
raised (Some least) (Some greatest) = Some (max least greatest)

-- a least depth, lowered to the greatest one where both are set and it is above: 1 and 3 give 1
abbrev pub lowered : Option ℕ → Option ℕ → Option ℕ
lowered None least = least
lowered (Some greatest) None = None
lowered (Some greatest) (Some least) = Some (min greatest least)
