-- Worked examples of the definitions of queries, computed.
use Rattle.std.proofs.Common.{◌≡◌, true, false, List, [], ◌∷◌, codes, Some, refl}
use Rattle.ignore_dir.specs.declared.dir.Dir.{Dir}
use Rattle.ignore_dir.specs.Limits.{is_above, is_below, is_deepest}
use Rattle.ignore_dir.specs.Lists.{Asked}
use Rattle.ignore_dir.specs.Query.{ancestors, depth_of_path, is_asked}
use Rattle.ignore_dir.specs.Scene.{asked_along}

-- the proper ancestors of `a/b` are the root and `a`
pub ancestors_of_two : ancestors (codes "a" ∷ codes "b" ∷ []) ≡ [] ∷ (codes "a" ∷ []) ∷ []
ancestors_of_two = refl

-- the root is asked about `a/b`, and `a` about `b`
pub asked_of_two : (d e : Dir) → let links : List Asked = (d, codes "a/b") ∷ (e, codes "b") ∷ [] in
    asked_along (d ∷ e ∷ []) (codes "a" ∷ codes "b" ∷ []) ≡ links
asked_of_two d e = refl

-- `./foo`, `a//b`, `../x` and `/x` aren't asked about, and nothing is below the root `-`
pub not_asked : (is_asked (codes "/t") (codes "./foo") ≡ false) × (is_asked (codes "/t") (codes "a//b") ≡ false)
    × (is_asked (codes "/t") (codes "../x") ≡ false) × (is_asked (codes "/t") (codes "/x") ≡ false)
    × (is_asked (codes "-") (codes "x") ≡ false)
not_asked = (refl, refl, refl, refl, refl)

-- `a/b/c` and the empty path are, at the depths 3 and 0
pub asked_at : (is_asked (codes "/t") (codes "a/b/c") ≡ true) × (depth_of_path (codes "a/b/c") ≡ 3)
    × (is_asked (codes "/t") [] ≡ true) × (depth_of_path [] ≡ 0)
asked_at = (refl, refl, refl, refl)

-- between the depths 2 and 3: 1 is above them, 3 the greatest, and 4 below
pub depths : (is_above (Some 2) 1 ≡ true) × (is_above (Some 2) 2 ≡ false) × (is_deepest (Some 3) 3 ≡ true)
    × (is_below (Some 3) 3 ≡ false) × (is_below (Some 3) 4 ≡ true)
depths = (refl, refl, refl, refl, refl)
