-- Directories along the names of a path, by offsets.
use Rattle.std.specs.Prelude.{ℕ, ◌+◌, List, [], ◌∷◌, ◌++◌, length}
use Rattle.ignore_base.specs.Text.{Bytes, Path}
use Rattle.ignore_dir.specs.declared.dir.Dir.{Dir}
use Rattle.ignore_dir.specs.Lists.{Placed}

-- names, each followed by a slash
abbrev pub slashed : List Bytes → Path
slashed [] = []
slashed (name ∷ names) = name ++ 47 ∷ slashed names

-- directories on the way along some names, each with its offset in the text of the names, where
-- that of the first is given. `d`, `e` from 1 along `ab`, `c` have the offsets 1 and 4
abbrev pub placed_along : ℕ → List Dir → List Bytes → List Placed
placed_along offset [] names = []
placed_along offset (dir ∷ dirs) [] = (dir, offset) ∷ []
placed_along offset (dir ∷ dirs) (name ∷ names) = (dir, offset) ∷ placed_along (offset + length name + 1) dirs names
