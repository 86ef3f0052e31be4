-- Places below a root, and the directories around them.
use Rattle.std.specs.Prelude.{List, [], ◌∷◌, ◌++◌, length, reverse}
use Rattle.ignore_base.specs.Text.{Bytes, Path}
use Rattle.ignore_base.specs.Paths.{join_of}
use Rattle.ignore_dir.specs.Above.{names_above, paths_above, dirs_above}
use Rattle.ignore_dir.specs.Chains.{slashed, placed_along}
use Rattle.ignore_dir.specs.Lists.{Placed}
use Rattle.ignore_walk.specs.Scene.{Scene}

-- the names that lead from a root to a place below it, the last first; the root itself has none
abbrev pub Branch : Type 0
Branch = List Bytes

-- the path of a place
abbrev pub path_of : Path → Branch → Path
path_of root [] = root
path_of root (name ∷ b) = join_of (path_of root b) name

-- the paths of the directories from a place up to its root, the nearest first
abbrev pub entered : Path → Branch → List Path
entered root [] = root ∷ []
entered root (name ∷ b) = path_of root (name ∷ b) ∷ entered root b

-- a place as the directories around it see it: `/`, the names of the canonical path of the root as
-- far as the directories above it are asked for, and the names to the place, each with a slash
abbrev pub text_at : Scene → Path → Branch → Path
text_at g root [] = 47 ∷ slashed (names_above g.tree g.settings root)
text_at g root (name ∷ b) = text_at g root b ++ (name ++ 47 ∷ [])

-- the directories from a place up to its root, the nearest first; each is asked about what follows
-- its own text
abbrev pub placed_at : Scene → Path → Branch → List Placed
placed_at g root [] = ((g.loads root).0, length (text_at g root [])) ∷ []
placed_at g root (name ∷ b) = ((g.loads (path_of root (name ∷ b))).0, length (text_at g root (name ∷ b))) ∷ placed_at g root b

-- what counts of the directories above a root, the nearest first
abbrev pub placed_above : Scene → Path → List Placed
placed_above g root =
    reverse (placed_along 1 (dirs_above g.loads g.settings (paths_above g.tree g.settings root)) (names_above g.tree g.settings root))

-- the directories from a place up to `/`, the nearest first
abbrev pub placed_to : Scene → Path → Branch → List Placed
placed_to g root b = placed_at g root b ++ placed_above g root

-- the directories around a place up to `/`, the nearest first: those above the root, where the place
-- is that of the root
abbrev pub placed_around : Scene → Path → Branch → List Placed
placed_around g root [] = placed_above g root
placed_around g root (name ∷ b) = placed_to g root b

-- the place around a place; that of a root is its own
abbrev pub around : Branch → Branch
around [] = []
around (name ∷ b) = b
