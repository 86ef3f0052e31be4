use Rattle.std.proofs.Common.{List, Option, map, drop, ℕ}
use Rattle.std.specs.Option.{option_copied}
use Rattle.ignore_excludes.specs.ExcludesSearch.{FilesGive, IsFirstValue}
use Rattle.ignore_excludes.proofs.config.first_path.Given as goal

-- the places that are left decide for all
abbrev pub invariant-loop-place : goal.invariant-loop-place
invariant-loop-place g l = (found : Option (List ℕ)) → IsFirstValue (FilesGive (g.F.Files.contents_gives l.files))
    (map option_copied (drop l.place-index l.places)) found →
    IsFirstValue (FilesGive (g.F.Files.contents_gives l.files)) (map option_copied l.places) found
