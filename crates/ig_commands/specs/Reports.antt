-- What the program reports of the items of a walk.
use Rattle.std.specs.Prelude.{◌≡◌, ℕ, ◌-◌, ◌==◌, Bool, true, false, List, [], ◌∷◌, ◌++◌, codes, Option, None, Some, Ok, Err, option_map}
use Rattle.std.specs.Prelude.{if◌then◌else◌}
use Rattle.std.specs.Fmt.{decimal}
use Rattle.std.specs.Option.{option_or}
use Rattle.ignore_base.specs.Text.{Bytes, Path}
use Rattle.ignore_base.specs.Errors.{problem_text}
use Rattle.ignore_base.specs.Problem.{Problem, several, at_line, at_path, at_depth, loop, io, glob, unrecognized, invalid_definition}
use Rattle.ignore_base.specs.Problem.{memory}
use Rattle.ignore_base.specs.declared.fault.Fault.{Fault}
use Rattle.ignore_base.specs.declared.fault.Fault.TheVariants.{BadName}
use Rattle.ignore_walk.specs.Entry.{Item}
use Rattle.ig_options.specs.declared.options.Options.{Options}
use Rattle.ig_commands.specs.Names.{names_told, still, told_at, told_before, with_name}
use Rattle.ig_commands.specs.declared.names.Unnamed.{Unnamed}

-- the text of a problem, and the end of its line
abbrev pub line_text : Problem → Bytes
line_text problem = problem_text problem ++ 10 ∷ []

-- the line that reports a problem
abbrev pub report_line : Problem → Bytes
report_line problem = codes "ig: " ++ line_text problem

-- the line that reports a problem, if there is one
abbrev pub report_of : Option Problem → Bytes
report_of None = []
report_of (Some p) = report_line p

-- there is a problem
abbrev pub is_known : Option Problem → Bool
is_known None = false
is_known (Some p) = true

-- a problem of files of rules, where it is to be reported: none with `--no-ignore-messages`
abbrev pub to_report : Options → Option Problem → Option Problem
to_report o problem = if o.no_ignore_messages then None else problem

-- something is reported of an item
abbrev pub is_reported : Options → Item → Bool
is_reported o (Ok (e, p)) = is_known (to_report o p)
is_reported o (Err p) = true

-- the path of an entry, where an item is one at this depth
abbrev pub path_at : ℕ → Item → Option Path
path_at depth (Ok (e, p)) = if depth == e.depth then Some e.path else None
path_at depth (Err p) = None

-- the path of the last entry at this depth among some items
abbrev pub last_at : List Item → ℕ → Option Path
last_at [] depth = None
last_at (item ∷ items) depth = option_or (last_at items depth) (path_at depth item)

-- the last entries at each depth become these by one item more
abbrev pub Notes : Item → (ℕ → Option Path) → (ℕ → Option Path) → Type 0
Notes item old new = (depth : ℕ) → new depth ≡ option_or (path_at depth item) (old depth)

-- the depth of a problem of which no path is known, as that of a name that isn't UTF-8
abbrev pub bare_depth : Problem → Option ℕ
bare_depth (several ps) = None
bare_depth (at_line line p) = None
bare_depth (at_path path p) = None
bare_depth (at_depth depth p) = Some depth
bare_depth (loop ancestor child) = None
bare_depth (io fault) = None
bare_depth (glob pattern err) = None
bare_depth (unrecognized name) = None
bare_depth invalid_definition = None
bare_depth memory = None

-- the folder that something at a depth is in: the last entry one level up
abbrev pub folder_above : (ℕ → Option Path) → ℕ → Option Path
folder_above last depth = if depth == 0 then None else last (depth - 1)

-- a text after where something is: its folder, or its depth, where the folder isn't among the entries
abbrev pub after_place : Option Path → ℕ → Bytes → Bytes
after_place (Some folder) depth text = folder ++ (codes ": " ++ text)
after_place None depth text = codes "depth " ++ (decimal depth ++ (codes ": " ++ text))

-- a text after where a problem is: with a depth alone, in the last entry one level up
abbrev pub placed : (ℕ → Option Path) → Option ℕ → Bytes → Bytes
placed last None text = text
placed last (Some depth) text = after_place (folder_above last depth) depth text

-- the line that reports a problem in the place of an entry
abbrev pub fault_line : (ℕ → Option Path) → Problem → Bytes
fault_line last problem = codes "ig: " ++ placed last (bare_depth problem) (line_text problem)

-- a fault is that of a name that isn't UTF-8
abbrev pub is_bad : Fault → Bool
is_bad BadName = true
is_bad _ = false

-- the same of a problem that is a fault
abbrev pub is_bad_name : Problem → Bool
is_bad_name (several ps) = false
is_bad_name (at_line line p) = false
is_bad_name (at_path path p) = false
is_bad_name (at_depth depth p) = false
is_bad_name (loop ancestor child) = false
is_bad_name (io fault) = is_bad fault
is_bad_name (glob pattern err) = false
is_bad_name (unrecognized name) = false
is_bad_name invalid_definition = false
is_bad_name memory = false

-- the depth of a name that isn't UTF-8, where a problem in the place of an entry is one
abbrev pub name_depth : Problem → Option ℕ
name_depth (several ps) = None
name_depth (at_line line p) = None
name_depth (at_path path p) = None
name_depth (at_depth depth p) = if is_bad_name p then Some depth else None
name_depth (loop ancestor child) = None
name_depth (io fault) = None
name_depth (glob pattern err) = None
name_depth (unrecognized name) = None
name_depth invalid_definition = None
name_depth memory = None

-- where something at a depth is: its folder, or its depth, where the folder isn't among the entries
abbrev pub place_of : Option Path → ℕ → Path
place_of (Some folder) depth = folder
place_of None depth = codes "depth " ++ decimal depth

-- the place of something at a depth, where these are the last entries at each depth
abbrev pub place_at : (ℕ → Option Path) → ℕ → Path
place_at last depth = place_of (folder_above last depth) depth

-- what is reported at once of a problem in the place of an entry, where these names were counted: of a
-- further name those at another place
abbrev pub fault_told : (ℕ → Option Path) → Option Unnamed → Problem → Option ℕ → Bytes
fault_told last names problem None = fault_line last problem
fault_told last names problem (Some depth) = told_before (place_at last depth) names

-- the names that are counted after it
abbrev pub fault_names : (ℕ → Option Path) → Option Unnamed → Option ℕ → Option Unnamed
fault_names last names None = names
fault_names last names (Some depth) = Some (with_name (place_at last depth) depth names)

-- what is reported of an item, where these are the last entries at each depth, and these names were
-- counted: at an entry, the names of a folder that is left, and then its problem
abbrev pub reports_of : Options → (ℕ → Option Path) → Option Unnamed → Item → Bytes
reports_of o last names (Ok (e, p)) = told_at e.depth names ++ report_of (to_report o p)
reports_of o last names (Err p) = fault_told last names p (name_depth p)

-- the names that are counted after an item
abbrev pub names_after : (ℕ → Option Path) → Option Unnamed → Item → Option Unnamed
names_after last names (Ok (e, p)) = still e.depth names
names_after last names (Err p) = fault_names last names (name_depth p)

-- what is reported of items in turn, after these, and where these names were counted
abbrev pub reports_after : Options → List Item → Option Unnamed → List Item → Bytes
reports_after o before names [] = []
reports_after o before names (item ∷ items) =
    reports_of o (last_at before) names item ++ reports_after o (before ++ item ∷ []) (names_after (last_at before) names item) items

-- the names that are counted after them
abbrev pub names_left : List Item → Option Unnamed → List Item → Option Unnamed
names_left before names [] = names
names_left before names (item ∷ items) = names_left (before ++ item ∷ []) (names_after (last_at before) names item) items

-- what is reported of the first items of a walk
abbrev pub first_reports : Options → List Item → Bytes
first_reports o items = reports_after o [] None items

-- what is reported of all items of a walk: at the end the names that were counted last
abbrev pub whole_reports : Options → List Item → Bytes
whole_reports o items = first_reports o items ++ names_told (names_left [] None items)
