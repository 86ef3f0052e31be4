-- What a host is asked, by what it told.
use Rattle.std.specs.Prelude.{◌≡◌, Bool, true, false, not, ◌&&◌, ◌||◌, List, Option, None, Some, is_some}
use Rattle.std.specs.List.{find}
use Rattle.ignore_base.specs.Text.{Path}
use Rattle.ignore_excludes.specs.ExcludesSearch.{FilesGive, LeadsTo}
use Rattle.ignore_files.specs.declared.env.Env.{Env}
use Rattle.ignore_guide.specs.Answers.{answer_at}
use Rattle.ignore_guide.specs.Told.{ReadTold, is_lacked}
use Rattle.ignore_guide.specs.declared.missing.Question.{Question}
use Rattle.ignore_guide.specs.declared.missing.Wanted.{Wanted}
use Rattle.ignore_guide.specs.declared.missing.Wanted.TheVariants as wanted
use Rattle.ignore_guide.specs.declared.told.Told.{Told}

-- what can be read at a path was told
abbrev pub is_read : Told → Path → Bool
is_read told path = is_some (answer_at told.reads.list.items path)

-- what a path leads to was told: nothing is at what is lacked
abbrev pub is_known : Told → Path → Bool
is_known told path = is_lacked told path || is_some (answer_at told.kinds.list.items path)

-- what is wanted of a path was told: of a file both
abbrev pub is_answered : Wanted → Told → Path → Bool
is_answered wanted.Kind told path = is_known told path
is_answered wanted.File told path = is_lacked told path || (is_known told path && is_read told path)
is_answered wanted.Canonical told path = is_some (answer_at told.paths.list.items path)

-- what a question asks was told
abbrev pub is_told : Told → Question → Bool
is_told told q = is_answered q.wanted told q.path

-- the question for a file
abbrev pub of_file : Path → Question
of_file path = record { wanted = wanted.File; path = path }

-- the first of some paths of which it wasn't told what can be read there
abbrev pub first_unread : Told → List Path → Option Path
first_unread told paths = find (λ path. not (is_read told path)) paths

-- the file at a path, if there is one, was told
abbrev pub IsRead : Told → Option Path → Type 0
IsRead told None = Unit {0}
IsRead told (Some path) = is_read told path ≡ true

-- next on the way to git's global file: a file that wasn't told; or nothing, where what was told leads
-- to a file that was told, or to none
abbrev pub AsksOutside : Told → Env → Option Question → Type 0
AsksOutside told env (Some q) = (q.wanted ≡ wanted.File) × (is_read told q.path ≡ false)
AsksOutside told env None = (found : Option Path) × LeadsTo (FilesGive (ReadTold told)) env found × IsRead told found
