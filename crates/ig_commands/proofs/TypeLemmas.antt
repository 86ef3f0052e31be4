-- What is written of the globs of a type.
use Rattle.std.proofs.Common.{◌≡◌, ℕ, List, [], ◌∷◌, ◌++◌, Option, length, map, string_bytes, refl, sym, ap, subst, arith}
use Rattle.std.specs.Io.KnownBytes.{Appends}
use Rattle.std.specs.List.{flat_map}
use Rattle.std.specs.declared.alloc.Global.{Global}
use Rattle.std.specs.declared.string.String.{String}
use Rattle.commands.proofs.LineLemmas.{appends_nothing, appends_on}
use Rattle.ig_commands.specs.Types.{after_comma, glob_list}

pub no_globs : (globs : List (String Global)) (a : Option (List ℕ)) → length globs ≡ 0 → Appends a a (glob_list (map string_bytes globs))
no_globs [] a none = appends_nothing a
no_globs (g ∷ globs) a none = absurd (omega (arith, none))

each_after : (globs : List (String Global))
    → flat_map (λ (g : String Global). after_comma (string_bytes g)) globs ≡ flat_map after_comma (map string_bytes globs)
each_after [] = refl
each_after (g ∷ globs) = ap (λ bs. after_comma (string_bytes g) ++ bs) (each_after globs)

-- the first glob, and then the others after commas
pub globs_after : (globs : List (String Global)) (first : String Global) (rest : List (String Global)) (a b c : Option (List ℕ))
    → globs ≡ first ∷ rest → Appends a b (string_bytes first)
    → Appends b c (flat_map (λ (g : String Global). after_comma (string_bytes g)) rest) → Appends a c (glob_list (map string_bytes globs))
globs_after globs first rest a b c is one others =
    subst (λ (gs : List (String Global)). Appends a c (glob_list (map string_bytes gs))) (sym is)
    (appends_on a b c (string_bytes first) (flat_map after_comma (map string_bytes rest)) one
    (subst (Appends b c) (each_after rest) others))
