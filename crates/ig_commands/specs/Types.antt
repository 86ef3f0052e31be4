-- What the program writes for file types.
use Rattle.std.specs.Prelude.{◌≡◌, ◌⊎◌, ℕ, List, [], ◌∷◌, ◌++◌, codes}
use Rattle.std.specs.List.{AllZip, flat_map}
use Rattle.ignore_base.specs.Text.{Bytes}
use Rattle.ignore_base.specs.Problem.{Problem}
use Rattle.ignore_types.specs.Types.{Definition, Draft, IsAscending, IsSortedCopy}
use Rattle.ig_options.specs.Choices.{AddsTypes, RefusesDefinitions}
use Rattle.ig_commands.specs.Reports.{report_line}

-- a glob after a comma
abbrev pub after_comma : Bytes → Bytes
after_comma glob = codes ", " ++ glob

-- globs, between commas
abbrev pub glob_list : List Bytes → Bytes
glob_list [] = []
glob_list (glob ∷ globs) = glob ++ flat_map after_comma globs

-- the line of a type: its name and its globs
abbrev pub type_line : Definition → Bytes
type_line d = d.name ++ (codes ": " ++ (glob_list d.globs ++ 10 ∷ []))

-- the types that a draft has at first, and those of these definitions, are written in text order,
-- each with its globs sorted, and the status is 0; or a definition is rejected, nothing was
-- written, the problem was reported, and the status is 2
abbrev pub ListsTypes : List Bytes → Draft → ℕ → (Bytes → Type 0) → (Bytes → Type 0) → Type 0
ListsTypes definitions first status out err =
    ((draft : Draft) × (types : List Definition) × AddsTypes definitions first draft × AllZip IsSortedCopy draft.definitions types
    × IsAscending types × (status ≡ 0) × out (flat_map type_line types) × err [])
    ⊎ ((problem : Problem) × RefusesDefinitions definitions first problem × (status ≡ 2) × out [] × err (report_line problem))
