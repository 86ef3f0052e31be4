-- Steps: the tests that together find a root clean, as functions of the program make them.
use Rattle.std.specs.Prelude.{◌≡◌, ◌≢◌, ◌⊎◌, Bool, true, nat_eq, List, [], ◌∷◌, ◌++◌, codes, if◌then◌else◌}
use Rattle.std.specs.List.{starts_with, list_all}
use Rattle.std.specs.Str.{bytes_eq}
use Rattle.ignore_base.specs.Text.{Bytes, Path}
use Rattle.ignore_base.specs.Paths.{components, is_absolute, trim_of, without_slash, is_proper}

-- the path without one slash at its end, if it has one
abbrev pub IsWithoutEnd : Path → Path → Type 0
IsWithoutEnd path body = ((path ≡ body) × ((prefix : Path) → path ≢ prefix ++ codes "/")) ⊎ (path ≡ body ++ codes "/")

-- the component is `..`
abbrev pub is_up : Bytes → Bool
is_up component = bytes_eq component (codes "..")

-- components `..`, if any, and then names, if any
abbrev pub rises : List Bytes → Bool
rises [] = true
rises (component ∷ more) = if is_up component then rises more else list_all is_proper (component ∷ more)

-- names after `./` or a slash, or after components `..`
abbrev pub is_rooted : Path → Bool
is_rooted body =
    if starts_with nat_eq body (codes "./") then list_all is_proper (components (trim_of body))
    else if is_absolute body then list_all is_proper (components (without_slash body))
    else rises (components body)
