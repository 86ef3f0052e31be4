-- The rule lists of a directory, and chains of directories.
use Rattle.std.specs.Prelude.{◌≡◌, ℕ, ◌<◌, ◌≤◌, ◌-◌, Bool, List, length, drop, map, slice_index, refl}
use Rattle.std.specs.Coded.{Coded, code_by, coded×, coded_bool, coded_ℕ}
use Rattle.ignore_base.specs.Text.{Path}
use Rattle.ignore_rules.specs.Rules.{Ruleset}
use Rattle.ignore_rules.specs.RuleCodes.{ruleset_code}
use Rattle.ignore_dir.specs.declared.dir.Dir.{Dir}
use Rattle.ignore_dir.specs.declared.dir.Rank.{Rank}
use Rattle.ignore_dir.specs.declared.dir.Rank.TheVariants.{Custom, Ignore, Gitignore, Exclude}

-- the list of a directory for a rank
abbrev pub list_of : Rank → Dir → Ruleset
list_of Custom dir = dir.custom
list_of Ignore dir = dir.ignore
list_of Gitignore dir = dir.gitignore
list_of Exclude dir = dir.exclude

-- a directory of a chain, and the path past it: the names below it, joined
abbrev pub Asked : Type 0
Asked = Dir × Path

-- a directory of a chain, and the offset at which the path past it begins in a text
abbrev pub Placed : Type 0
Placed = Dir × ℕ

-- each directory with the rest of the text after its offset
abbrev pub asked_in : Path → List Placed → List Asked
asked_in text chain = map (λ link. (link.0, drop link.1 text)) chain

-- the offset is directly after a slash of the text
abbrev pub IsAfterSlash : Path → ℕ → Type 0
IsAfterSlash text offset = (0 < offset) × (offset ≤ length text) × (slice_index text (offset - 1) ≡ 47)

-- the code of a directory
abbrev pub dir_code : Coded Dir
dir_code =
    code_by (Ruleset × (Ruleset × (Ruleset × (Ruleset × Bool))))
    (coded× ruleset_code (coded× ruleset_code (coded× ruleset_code (coded× ruleset_code coded_bool))))
    (λ d. (d.custom, (d.ignore, (d.gitignore, (d.exclude, d.mark)))))
    (λ p. record { custom = p.0; ignore = p.1.0; gitignore = p.1.1.0; exclude = p.1.1.1.0; mark = p.1.1.1.1 }) (λ _. refl)

-- the code of a directory with an offset
abbrev pub placed_code : Coded Placed
placed_code = coded× dir_code coded_ℕ
