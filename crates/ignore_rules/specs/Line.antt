-- Parsing a line of a gitignore file to its parts, before its glob is parsed. A text is a list of
-- bytes.
use Rattle.std.specs.Prelude.{◌==◌, ◌-◌, Bool, false, not, ◌&&◌, ◌||◌, if◌then◌else◌, [], ◌∷◌, ◌++◌, length, take, drop, reverse, codes}
use Rattle.std.specs.Prelude.{nat_eq, Option, None, Some}
use Rattle.std.specs.List.{starts_with, ends_with}
use Rattle.std.specs.Str.{trim_end, bytes_eq}
use Rattle.ignore_base.specs.Text.{Bytes}
use Rattle.ignore_base.specs.Paths.{has_slash}

-- the text begins with this prefix
abbrev pub has_prefix : Bytes → Bytes → Bool
has_prefix start text = starts_with nat_eq text start

-- the text ends with this suffix
abbrev pub has_suffix : Bytes → Bytes → Bool
has_suffix end text = ends_with nat_eq text end

-- the text without this prefix, where it has it
abbrev pub without_prefix : Bytes → Bytes → Bytes
without_prefix start text = if has_prefix start text then drop (length start) text else text

-- the text without this suffix, where it has it
abbrev pub without_suffix : Bytes → Bytes → Bytes
without_suffix end text = if has_suffix end text then take (length text - length end) text else text

-- the line without trailing white space, unless it ends with a backslash and one space: the rule of
-- the original
abbrev pub default_trimmed : Bytes → Bytes
default_trimmed line = if has_suffix (codes "\\ ") line then line else trim_end line

-- a text, read from its end, begins with an odd number of backslashes
abbrev pub is_odd : Bytes → Bool
is_odd [] = false
is_odd (c ∷ before) = c == 92 && not (is_odd before)

-- a text, read from its end, without the spaces it begins with that follow an even number of
-- backslashes
abbrev pub without_spaces : Bytes → Bytes
without_spaces [] = []
without_spaces (c ∷ before) = if c == 32 && not (is_odd before) then without_spaces before else c ∷ before

-- the line without such spaces at its end: git's own rule
abbrev pub git_trimmed : Bytes → Bytes
git_trimmed line = reverse (without_spaces (reverse line))

-- the line without trailing white space, by git's own rule or by that of the original
abbrev pub trimmed : Bool → Bytes → Bytes
trimmed as_git line = if as_git then git_trimmed line else default_trimmed line

-- the line is a comment, or only white space
abbrev pub is_silent : Bool → Bytes → Bool
is_silent as_git line = has_prefix (codes "#") line || length (trimmed as_git line) == 0

-- What follows is about a trimmed line.

-- a leading `!` makes the rule a whitelist
abbrev pub is_whitelist_line : Bytes → Bool
is_whitelist_line line = has_prefix (codes "!") line

-- then a leading `/` anchors it to its root
abbrev pub is_anchored : Bytes → Bool
is_anchored line = has_prefix (codes "/") (without_prefix (codes "!") line)

-- the line begins with an escaped `!` or `#`
abbrev pub is_escaped : Bytes → Bool
is_escaped line = has_prefix (codes "\\!") line || has_prefix (codes "\\#") line

-- the line without what precedes its pattern
abbrev pub body : Bytes → Bytes
body line = if is_escaped line then drop 1 line else without_prefix (codes "/") (without_prefix (codes "!") line)

-- a final `/` makes the rule apply to directories only
abbrev pub is_only_dir : Bytes → Bool
is_only_dir line = has_suffix (codes "/") (body line)

-- the pattern: the final `/` is stripped, and so is a backslash directly before it
abbrev pub pattern : Bytes → Bytes
pattern line = if is_only_dir line then without_suffix (codes "\\") (without_suffix (codes "/") (body line)) else body line

-- a pattern without a slash that isn't anchored matches at every depth; `**` alone does so as it is
abbrev pub is_floating : Bytes → Bool
is_floating line = (not (is_anchored line) && not (has_slash (pattern line))) && not (bytes_eq (pattern line) (codes "**"))

-- the pattern, prefixed with `**/` where it floats
abbrev pub placed : Bytes → Bytes
placed line = if is_floating line then codes "**/" ++ pattern line else pattern line

-- the glob: one that matches all below a directory must not match the directory
abbrev pub actual : Bytes → Bytes
actual line = if has_suffix (codes "/**") (placed line) then placed line ++ codes "/*" else placed line

-- a parsed line: the line without trailing white space, its glob, and its two flags
pub record ParsedLine : Type 0 where
  pub original : Bytes
  pub actual : Bytes
  pub is_whitelist : Bool
  pub is_only_dir : Bool

-- what a trimmed line parses to
abbrev pub parsed_as : Bytes → ParsedLine
parsed_as line = record { original = line; actual = actual line; is_whitelist = is_whitelist_line line; is_only_dir = is_only_dir line }

-- what a line parses to; comments and blank lines parse to nothing
abbrev pub parsed_line : Bool → Bytes → Option ParsedLine
parsed_line as_git line = if is_silent as_git line then None else Some (parsed_as (trimmed as_git line))
