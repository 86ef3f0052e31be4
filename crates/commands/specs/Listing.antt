-- What the program writes for the items of a walk.
use Rattle.std.specs.Prelude.{◌≡◌, ◌≢◌, ℕ, Bool, true, false, All, List, [], ◌∷◌, ◌++◌, codes, Option, None, Some, Ok, Err, IfSome}
use Rattle.std.specs.Prelude.{if◌then◌else◌}
use Rattle.std.specs.List.{flat_map, list_any}
use Rattle.ignore_base.specs.Text.{Bytes}
use Rattle.ignore_base.specs.Errors.{problem_text}
use Rattle.ignore_base.specs.Problem.{Problem, memory}
use Rattle.ignore_walk.specs.Entry.{Item}

-- the line of a path
abbrev pub path_line : Bytes → Bytes
path_line path = path ++ 10 ∷ []

-- the line that reports a problem
abbrev pub report_line : Problem → Bytes
report_line problem = codes "igwalk: " ++ (problem_text problem ++ 10 ∷ [])

-- the lines of an item on the output: its path where it is an entry
abbrev pub lines_of : Item → Bytes
lines_of (Ok (e, p)) = path_line e.path
lines_of (Err p) = []

-- the line that reports a problem, if there is one
abbrev pub report_of : Option Problem → Bytes
report_of None = []
report_of (Some p) = report_line p

-- what is reported of an item: the problem of an entry, or the one in its place
abbrev pub reports_of : Item → Bytes
reports_of (Ok (e, p)) = report_of p
reports_of (Err p) = report_line p

-- there is a problem
abbrev pub is_known : Option Problem → Bool
is_known None = false
is_known (Some p) = true

-- something is reported of an item
abbrev pub is_reported : Item → Bool
is_reported (Ok (e, p)) = is_known p
is_reported (Err p) = true

-- none is given, or this item, and then it isn't out of memory, which ends a walk
abbrev pub IsOf : Item → Option Item → Type 0
IsOf item next = IfSome next (λ i. (i ≡ item) × (i ≢ Err memory))

-- the paths of these items are written to the output in turn, each on a line, and their problems
-- are reported as errors; the status is 1 where there is one. And none of them is out of memory,
-- which ends a walk
pub record Lists (items : List Item) (status : ℕ) (out err : Bytes → Type 0) : Type 0 where
  pub lists : out (flat_map lines_of items)
  pub reports : err (flat_map reports_of items)
  pub ends : status ≡ (if list_any is_reported items then 1 else 0)
  pub enough : All (λ item. item ≢ Err memory) items
