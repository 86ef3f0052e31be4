-- A worked example of the directories above a root, `/a/b`.
use Rattle.std.proofs.Common.{◌≡◌, ℕ, List, [], ◌∷◌, codes, refl}
use Rattle.ignore_dir.specs.Above.{kept_above}
use Rattle.ignore_dir.specs.Lists.{Placed}
use Rattle.ignore_walk.specs.Scene.{Scene}
use Rattle.ignore_walk.specs.Shared.{placed_down, placed_through}

-- what counts of a directory above, which is asked from an offset on
abbrev from : Scene → List ℕ → ℕ → Placed
from g path offset = (kept_above g.settings (g.loads path).0, offset)

-- `/a` is asked about what follows `/a/`, and `/` about what follows its slash
through-one : (g : Scene) → placed_through g (codes "/a") ≡ from g (codes "/a") 3 ∷ (from g (codes "/") 1 ∷ [])
through-one g = refl

-- on the way to `/a` stands `/` alone
down-one : (g : Scene) → placed_down g (codes "a" ∷ []) ≡ from g (codes "/") 1 ∷ []
down-one g = refl

-- nothing stands above `/`
down-none : (g : Scene) → placed_down g [] ≡ []
down-none g = refl
