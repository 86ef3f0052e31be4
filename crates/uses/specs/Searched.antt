-- What a search for a word finds in the files of a walk.
use Rattle.std.specs.Prelude.{◌≡◌, ℕ, ◌+◌, Bool, false, ◌||◌, nat_eq, List, [], ◌∷◌, ◌++◌, map, filter, Option, None, Some, Result, Ok, Err}
use Rattle.std.specs.Prelude.{if◌then◌else◌}
use Rattle.std.specs.Fmt.{decimal}
use Rattle.std.specs.List.{enumerate_from, flat_map, starts_with}
use Rattle.std.specs.Option.{option_to_list}
use Rattle.std.specs.Str.{is_utf8}
use Rattle.std.specs.Str.Lines.{lines}
use Rattle.ignore.specs.FileWords.{Contents, FileType, Tree, is_file}
use Rattle.ignore.specs.WalkWords.{Item}
use Rattle.ignore.specs.Words.{Bytes, Fault, InvalidData, Path, Problem, at_path, io, problem_of}
use Rattle.uses.specs.declared.search.Found.{Found}
use Rattle.uses.specs.declared.search.Hit.{Hit}

-- a line has a word: some end of the line begins with it
abbrev pub has_word : Bytes → Bytes → Bool
has_word word [] = starts_with nat_eq [] word
has_word word (b ∷ line) = starts_with nat_eq (b ∷ line) word || has_word word line

-- the hits among lines, each with its index: those that have the word, by numbers from 1
abbrev pub hits_among : Bytes → Path → List (ℕ × Bytes) → List Hit
hits_among word path lines = map (λ l. record { path = path; line = l.0 + 1 }) (filter (λ l. has_word word l.1) lines)

-- the hits in a text: each of its lines that has the word
abbrev pub hits_in : Bytes → Path → Bytes → List Hit
hits_in word path text = hits_among word path (enumerate_from 0 (lines text))

-- the text of bytes that were read: all of them, where they are UTF-8; or the fault
abbrev pub text_by : Bytes → Option Fault → Result Bytes Fault
text_by bytes None = if is_utf8 bytes then Ok bytes else Err InvalidData
text_by bytes (Some fault) = Err fault

-- the text of what was read of a file, or the fault
abbrev pub text_of : Result Contents Fault → Result Bytes Fault
text_of (Ok contents) = text_by contents.bytes contents.fault
text_of (Err fault) = Err fault

-- the hits in a text, if there is one
abbrev pub hits_by : Bytes → Path → Result Bytes Fault → List Hit
hits_by word path (Ok text) = hits_in word path text
hits_by word path (Err fault) = []

-- why there is no text, if there is none
abbrev pub problems_by : Path → Result Bytes Fault → List Problem
problems_by path (Ok text) = []
problems_by path (Err fault) = at_path path (io fault) ∷ []

-- the hits in the text of the file at a path of a tree
abbrev pub hits_at : Tree → Bytes → Path → List Hit
hits_at tree word path = hits_by word path (text_of (tree.contents path))

-- why the file at a path of a tree has no text, if it has none
abbrev pub problems_at : Tree → Path → List Problem
problems_at tree path = problems_by path (text_of (tree.contents path))

-- the kind is that of a file
abbrev pub is_file_of : Option FileType → Bool
is_file_of None = false
is_file_of (Some kind) = is_file kind

-- the path of an item that is a file
abbrev pub file_in : Item → List Path
file_in (Ok (e, p)) = if is_file_of e.kind then e.path ∷ [] else []
file_in (Err p) = []

-- the problem of an item, or the one in its place
abbrev pub its_problem : Item → List Problem
its_problem (Ok (e, p)) = option_to_list p
its_problem (Err p) = p ∷ []

-- the hits of an item
abbrev pub hits_in_files : Tree → Bytes → Item → List Hit
hits_in_files tree word item = flat_map (hits_at tree word) (file_in item)

-- the problems of an item: its own, and why its file has no text
abbrev pub problems_of : Tree → Item → List Problem
problems_of tree item = its_problem item ++ flat_map (problems_at tree) (file_in item)

-- a search came to these hits and problems more
pub record Adds (old new : Found) (more : List Hit) (wrong : List Problem) : Type 0 where
  pub hits : new.hits.items ≡ old.hits.items ++ more
  pub problems : map problem_of new.problems.items ≡ map problem_of old.problems.items ++ wrong

-- a search of these items found, in a tree: the hits in the texts of the files among them, each
-- file in its turn; and the problems of the items, and of files without a text, in the same order
pub record Finds (tree : Tree) (word : Bytes) (items : List Item) (found : Found) : Type 0 where
  pub hits : found.hits.items ≡ flat_map (hits_at tree word) (flat_map file_in items)
  pub problems : map problem_of found.problems.items ≡ flat_map (problems_of tree) items

-- the line that shows a hit
abbrev pub hit_line : Hit → Bytes
hit_line hit = hit.path ++ (58 ∷ (decimal hit.line ++ 10 ∷ []))
