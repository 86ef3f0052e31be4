-- How what is wrong with a line is said: as a text, and as an object of JSON.
use Rattle.std.specs.Prelude.{ℕ, ◌==◌, List, [], ◌∷◌, ◌++◌, codes, length, map, if◌then◌else◌}
use Rattle.std.specs.Fmt.{decimal}
use Rattle.std.specs.List.{flat_map}
use Rattle.serde_json.specs.Data.{Data, number, unsigned, string, array, object, member, no_members}
use Rattle.serde_json.specs.View.{items_of}
use Rattle.serde_json.specs.Written.{compact_text}
use Rattle.ignore_base.specs.Text.{Bytes, Path}
use Rattle.ig_every.specs.declared.diagnostic.Diagnostic.{Diagnostic}
use Rattle.ig_every.specs.declared.diagnostic.Wrong.{Wrong}
use Rattle.ig_every.specs.declared.diagnostic.Wrong.TheVariants.{NotUtf8, Mark, Return, Space, GitSpace, Invalid, Again, Nothing, Overruled}
use Rattle.ig_every.specs.declared.diagnostic.Wrong.TheVariants.{InFolders, Unreached, NoEffect}

-- a number after a comma
abbrev pub after_comma : ℕ → Bytes
after_comma n = codes ", " ++ decimal n

-- what follows the word `line` where there are so many more
abbrev pub line_end : List ℕ → Bytes
line_end more = if length more == 0 then codes " " else codes "s "

-- numbers of lines after the word `line`
abbrev pub lines_text : List ℕ → Bytes
lines_text [] = []
lines_text (first ∷ more) = line_end more ++ (decimal first ++ flat_map after_comma more)

-- that a rule decides in ignored folders alone, as in this one, which the rule of this line ignores
abbrev pub folder_text : Bytes → ℕ → Bytes
folder_text folder line =
    codes "decides only in ignored folders, as " ++ (folder ++ (codes "/ by line " ++ (decimal line
    ++ (codes ", unless another file re-includes " ++ (folder ++ codes "/")))))

-- what is wrong, as a text
abbrev pub wrong_text : Wrong → Bytes
wrong_text NotUtf8 = codes "isn't UTF-8: neither this line nor any after it is read"
wrong_text Mark = codes "has a byte order mark that isn't the first of the file"
wrong_text Return = codes "has a carriage return that isn't the last of the line"
wrong_text Space = codes "the white space at its end counts"
wrong_text GitSpace = codes "git reads the white space at its end otherwise"
wrong_text (Invalid why) = codes "invalid: " ++ why
wrong_text (Again line) = codes "stands again at line " ++ decimal line
wrong_text Nothing = codes "matches no path"
wrong_text (Overruled lines) = codes "decides on no path: overruled by line" ++ lines_text lines.items
wrong_text (InFolders folder line) = folder_text folder line
wrong_text Unreached = codes "decides on no path outside of ignored folders"
wrong_text NoEffect = codes "note: re-includes nothing"

-- what is wrong, as a word
abbrev pub kind_word : Wrong → Bytes
kind_word NotUtf8 = codes "not-utf8"
kind_word Mark = codes "byte-order-mark"
kind_word Return = codes "carriage-return"
kind_word Space = codes "space"
kind_word GitSpace = codes "git-space"
kind_word (Invalid why) = codes "invalid"
kind_word (Again line) = codes "again"
kind_word Nothing = codes "nothing"
kind_word (Overruled lines) = codes "overruled"
kind_word (InFolders folder line) = codes "ignored-folders"
kind_word Unreached = codes "unreached"
kind_word NoEffect = codes "note"

-- the numbers of the lines that are named by what is wrong
abbrev pub lines_named : Wrong → List ℕ
lines_named NotUtf8 = []
lines_named Mark = []
lines_named Return = []
lines_named Space = []
lines_named GitSpace = []
lines_named (Invalid why) = []
lines_named (Again line) = line ∷ []
lines_named Nothing = []
lines_named (Overruled lines) = lines.items
lines_named (InFolders folder line) = line ∷ []
lines_named Unreached = []
lines_named NoEffect = []

-- a number as data
abbrev pub number_data : ℕ → Data
number_data n = number (unsigned n)

-- what is wrong with a line of a file, as an object
abbrev pub finding_data : Path → Diagnostic → Data
finding_data file d =
    object (member (codes "file") (string file) (member (codes "kind") (string (kind_word d.wrong))
    (member (codes "line") (number_data d.line) (member (codes "lines") (array (items_of (map number_data (lines_named d.wrong))))
    (member (codes "rule") (string d.rule) (member (codes "text") (string (wrong_text d.wrong)) no_members))))))

-- the same as JSON without white space
abbrev pub finding_json : Path → Diagnostic → Bytes
finding_json file d = compact_text (finding_data file d)
