-- How the present name of a path begins.
use Rattle.std.specs.Prelude.{◌≡◌, ◌≢◌, ℕ, Bool, true, false, ◌==◌, cond, List}
use Rattle.ignore_base.specs.Text.{Chars, is_slash}
use Rattle.ignore_rules.specs.Rules.{Rule}
use Rattle.ignore_every.specs.Questions.{IsIgnored}
use Rattle.ignore_every.specs.declared.place.NameStart.{NameStart}
use Rattle.ignore_every.specs.declared.place.NameStart.TheVariants.{Empty, Dot, Dots, Named}

-- how a name begins after a dot more
abbrev pub after_dot : NameStart → NameStart
after_dot Empty = Dot
after_dot Dot = Dots
after_dot Dots = Named
after_dot Named = Named

-- how the present name begins after a character: after a slash it is empty
abbrev pub name_after : NameStart → ℕ → NameStart
name_after name c = cond (is_slash c) Empty (cond (c == 46) (after_dot name) Named)

-- the name may end here
abbrev pub is_named : NameStart → Bool
is_named Empty = false
is_named Dot = false
is_named Dots = false
is_named Named = true

-- The path goes on by the character, which isn't NUL: a slash follows a name only, and where only
-- reached paths are asked about, none that is ignored.
pub record IsNext (reached : Bool) (rules : List Rule) (path : Chars) (name : NameStart) (c : ℕ) : Type 0 where
  pub some : c ≢ 0
  pub named : is_slash c ≡ true → is_named name ≡ true
  pub free : is_slash c ≡ true → reached ≡ true → IsIgnored rules path true → ⊥
