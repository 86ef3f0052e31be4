-- Paths of which one pass over their bytes tells that all their components are names.
use Rattle.std.specs.Prelude.{ℕ, Bool, true, ◌==◌, not, ◌&&◌, ◌||◌, [], ◌∷◌}
use Rattle.ignore_base.specs.Text.{Path, is_slash}

-- a byte may follow another: after a slash comes neither a slash nor a dot
abbrev pub may_follow : ℕ → ℕ → Bool
may_follow before byte = not (is_slash before) || (not (is_slash byte) && not (byte == 46))

-- each of these bytes may follow the one before it, and the first of them this one
abbrev pub all_follow : ℕ → Path → Bool
all_follow before [] = true
all_follow before (byte ∷ bytes) = may_follow before byte && all_follow byte bytes

-- the last of these bytes, and this one where there are none
abbrev pub last_of : ℕ → Path → ℕ
last_of before [] = before
last_of before (byte ∷ bytes) = last_of byte bytes
