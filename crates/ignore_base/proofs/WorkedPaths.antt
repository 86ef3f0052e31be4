-- Worked examples of paths in normal form, and of known working directories.
use Rattle.std.proofs.Common.{◌≡◌, true, Some, None, codes, refl, sym, subst}
use Rattle.ignore_base.specs.Text.{Path}
use Rattle.ignore_base.specs.Paths.{join_of, is_absolute}
use Rattle.ignore_base.specs.Normalize.{normalize_of, IsKnown}

-- in `/c`, below `./r`: `r/../r/./a` is `a`, `/c/r` the empty path, and `/c/s` none
pub below_a_relative_root : (normalize_of (Some (codes "/c")) (codes "./r") (codes "r/../r/./a") ≡ Some (codes "a"))
    × (normalize_of (Some (codes "/c")) (codes "./r") (codes "/c/r") ≡ Some (codes ""))
    × (normalize_of (Some (codes "/c")) (codes "./r") (codes "/c/s") ≡ None)
unfolding normalize_of join_of
below_a_relative_root = (refl, refl, refl)

-- in `/c/d`, below `../`: `../a` is `a`
pub below_the_directory_above : normalize_of (Some (codes "/c/d")) (codes "../") (codes "../a") ≡ Some (codes "a")
unfolding normalize_of join_of
below_the_directory_above = refl

-- `/t/abc` isn't below `/t/ab`, and nothing is below `-`
pub names_are_whole : (normalize_of None (codes "/t/ab") (codes "/t/abc") ≡ None)
    × (normalize_of (Some (codes "/c")) (codes "-") (codes "/c/-") ≡ None)
unfolding normalize_of join_of
names_are_whole = (refl, refl)

-- each absolute path is a known working directory
pub absolute_is_known : (text : Path) → is_absolute text ≡ true → IsKnown (Some text)
absolute_is_known text absolute = (text, refl, absolute)

-- `/` is one, and so is `/w/a`
pub known_directories : IsKnown (Some (codes "/")) × IsKnown (Some (codes "/w/a"))
known_directories = ((codes "/", refl, refl), (codes "/w/a", refl, refl))

-- none is known where there is none
pub none_is_unknown : IsKnown None → ⊥
none_is_unknown (text, none, absolute) = cc

-- `w` isn't known, since it is relative
pub relative_is_unknown : IsKnown (Some (codes "w")) → ⊥
relative_is_unknown (text, same, absolute) = relative text same absolute
  where
    never : is_absolute (codes "w") ≡ true → ⊥
    never e = cc

    relative : (path : Path) → Some (codes "w") ≡ Some path → is_absolute path ≡ true → ⊥
    relative path e f = let here : codes "w" ≡ path = cc e in never (subst (λ (p : Path). is_absolute p ≡ true) (sym here) f)
