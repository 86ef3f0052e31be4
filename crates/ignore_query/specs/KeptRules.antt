-- The rules of the directories that a matcher keeps.
use Rattle.std.specs.Prelude.{ℕ, ◌+◌, ◌==◌, List, [], ◌∷◌, ◌++◌, Option, None, Some, map, length, string_bytes, if◌then◌else◌}
use Rattle.std.specs.List.{flat_map}
use Rattle.ignore_base.specs.Text.{Bytes, Path}
use Rattle.ignore_rules.specs.Rules.{Rule}
use Rattle.ignore_dir.specs.declared.dir.Dir.{Dir}
use Rattle.ignore_dir.specs.Above.{path_along}
use Rattle.ignore_dir.specs.Chains.{slashed}
use Rattle.ignore_dir.specs.Query.{is_ignored}
use Rattle.ignore_dir.specs.Scene.{QueryScene, names_to}
use Rattle.ignore_levels.specs.Levels.{level_at, slots_of}
use Rattle.ignore_levels.specs.declared.list.Level.{Level}
use Rattle.ignore_query.specs.declared.kept.Cache.{Cache}
use Rattle.ignore_query.specs.declared.kept.Kept.{Kept}
use Rattle.ignore_query.specs.declared.kept.Kept.TheVariants.{Ignored, Loaded}
use Rattle.ignore_why.specs.Cited.{Named, named_rule}
use Rattle.ignore_why.specs.declared.cause.RuleRank.{RuleRank}
use Rattle.ignore_why.specs.declared.cause.RuleRank.TheVariants.{Custom, Ignore, Gitignore, Exclude}

-- a rule of the list of a rank in a directory, by name
abbrev pub named_in : Path → RuleRank → Rule → Named
named_in dir rank rule = named_rule rank (Some dir) rule

-- the rules that a directory holds: the lists in the order of their ranks, each in the order of its
-- lines
abbrev pub rules_in : Path → Dir → List Named
rules_in path dir =
    map (named_in path Custom) dir.custom.rules
    ++ (map (named_in path Ignore) dir.ignore.rules
    ++ (map (named_in path Gitignore) dir.gitignore.rules ++ map (named_in path Exclude) dir.exclude.rules))

-- the rules of a directory by the tree: those of its load, and none where it is ignored. Its path
-- has the names from the top
abbrev pub rules_of : QueryScene → List Bytes → List Named
rules_of g names = if is_ignored g names then [] else rules_in (47 ∷ slashed (names_to g names)) (g.loads (path_along g.root names)).0

-- a level, where its offset is this one
abbrev pub level_from : ℕ → Option Level → Option Level
level_from offset None = None
level_from offset (Some level) = if level.offset == offset then Some level else None

-- the level of the directory with a key, by what is kept of it: none where it is ignored, and where
-- it stands at the level of a directory above it, whose offset is less
abbrev pub own_level : Cache → Path → Kept → Option Level
own_level c key Ignored = None
own_level c key (Loaded None) = None
own_level c key (Loaded (Some place)) = level_from (length (string_bytes c.base) + length key) (level_at (slots_of c.levels) place)

-- the rules of a level, which is that of the directory at a path
abbrev pub rules_at : Path → Option Level → List Named
rules_at path None = []
rules_at path (Some level) = rules_in path level.dir

-- the rules of the directory with a key, by what is kept of it. Its path has what is above the root
-- before the key
abbrev pub rules_kept : Cache → Path → Kept → List Named
rules_kept c key kept = rules_at (string_bytes c.base ++ key) (own_level c key kept)

-- the rules of all directories that are kept, in the order of their keys: a directory before those
-- below it
abbrev pub kept_rules : Cache → List Named
kept_rules c = flat_map (λ entry. rules_kept c (string_bytes entry.0) entry.1) c.dirs.map.entries
