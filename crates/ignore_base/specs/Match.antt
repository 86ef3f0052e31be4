-- The result of a query: no glob matched the path, or a glob that ignores or whitelists it.
use Rattle.std.specs.Prelude.{Bool, true, false, Option}
use Rattle.std.specs.Prelude as std
use Rattle.ignore_base.specs.declared.match_result.Match.{Match}
use Rattle.ignore_base.specs.declared.match_result.Match.TheVariants.{None, Ignore, Whitelist}

-- no glob matched the path
abbrev pub is_none : {T : Type 0} → Match T → Bool
is_none None = true
is_none _ = false

-- the path is ignored
abbrev pub is_ignore : {T : Type 0} → Match T → Bool
is_ignore (Ignore x) = true
is_ignore _ = false

-- the path is whitelisted
abbrev pub is_whitelist : {T : Type 0} → Match T → Bool
is_whitelist (Whitelist x) = true
is_whitelist _ = false

-- ignore and whitelist change places
abbrev pub invert : {T : Type 0} → Match T → Match T
invert None = None
invert (Ignore x) = Whitelist x
invert (Whitelist x) = Ignore x

-- the value of the match, if a glob matched the path
abbrev pub inner : {T : Type 0} → Match T → Option T
inner None = std.None
inner (Ignore x) = std.Some x
inner (Whitelist x) = std.Some x

-- the first match, or the second where the first is none
abbrev pub match_or : {T : Type 0} → Match T → Match T → Match T
match_or None other = other
match_or one other = one

-- the same variant, with f of its value
abbrev pub match_map : {T U : Type 0} → (T → U) → Match T → Match U
match_map f None = None
match_map f (Ignore x) = Ignore (f x)
match_map f (Whitelist x) = Whitelist (f x)

-- the two have the same variant, and R relates their values
abbrev pub IsMapped : {T U : Type 0} → (T → U → Type 0) → Match T → Match U → Type 0
IsMapped R None None = Unit {0}
IsMapped R (Ignore x) (Ignore y) = R x y
IsMapped R (Whitelist x) (Whitelist y) = R x y
IsMapped R _ _ = ⊥
