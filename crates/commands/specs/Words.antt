-- Parsing the words after the program's name.
use Rattle.std.specs.Prelude.{Bool, true, false, List, [], ◌∷◌, codes, map, Option, None, Some, option_map, string_bytes}
use Rattle.std.specs.Prelude.{if◌then◌else◌}
use Rattle.std.specs.Str.{bytes_eq}
use Rattle.ignore_base.specs.Text.{Bytes, Path}
use Rattle.commands.specs.declared.words.Command.{Command as Read}
use Rattle.commands.specs.declared.words.Command.TheVariants as read
use Rattle.commands.specs.declared.words.Request.{Request}

-- a question: the answer of the rules in a text, relative to a root, for a path that is a directory
-- or not
pub record Question : Type 0 where
  pub root : Path
  pub rules : Bytes
  pub path : Path
  pub is_dir : Bool

-- `d` is a directory, `f` is none, and other words are invalid
abbrev pub kind_of : Bytes → Option Bool
kind_of word = if bytes_eq word (codes "d") then Some true else (if bytes_eq word (codes "f") then Some false else None)

-- the question of these words, where the last one is valid
abbrev pub ask : Path → Bytes → Path → Option Bool → Option Question
ask root rules path None = None
ask root rules path (Some is_dir) = Some (record { root = root; rules = rules; path = path; is_dir = is_dir })

-- `ROOT RULES PATH d|f`
abbrev pub question_of : List Bytes → Option Question
question_of (root ∷ rules ∷ path ∷ kind ∷ []) = ask root rules path (kind_of kind)
question_of _ = None

-- `ROOT..`, with a root or more
abbrev pub roots_of : List Bytes → Option (List Path)
roots_of (root ∷ roots) = Some (root ∷ roots)
roots_of _ = None

-- `ROOT PATH..`, with a path or more: the root and the paths
abbrev pub paths_of : List Bytes → Option (Path × List Path)
paths_of (root ∷ path ∷ paths) = Some (root, path ∷ paths)
paths_of _ = None

-- a command: a question, a list of the entries below roots, or a check of paths below a root
pub data Command : Type 0 where
  of_match : Question → Command
  of_list : List Path → Command
  of_check : Path → List Path → Command

-- the command of these words: `match`, `list` or `check`, and what it is about; none where the first
-- word is another, or the others are invalid
abbrev pub command_of : List Bytes → Option Command
command_of [] = None
command_of (name ∷ words) =
    if bytes_eq name (codes "match") then option_map of_match (question_of words)
    else (if bytes_eq name (codes "list") then option_map of_list (roots_of words)
    else (if bytes_eq name (codes "check") then option_map (λ c. of_check c.0 c.1) (paths_of words) else None))

-- the question that the program's value stands for
abbrev pub request_view : Request → Question
request_view q = record { root = q.root.now; rules = q.rules.now; path = q.path.now; is_dir = q.is_dir }

-- the command that the program's value stands for
abbrev pub command_view : Read → Command
command_view (read.Match request) = of_match (request_view request)
command_view (read.List roots) = of_list (map string_bytes roots.now)
command_view (read.Check root paths) = of_check root.now (map string_bytes paths.now)
