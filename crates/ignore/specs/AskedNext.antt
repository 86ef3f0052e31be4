-- What a host is asked next of the rules from outside of a guide.
use Rattle.std.specs.Prelude.{◌≡◌, Bool, true, false, List, Option, None, Some}
use Rattle.ignore_base.specs.Text.{Path}
use Rattle.ignore_files.specs.declared.env.Env.{Env}
use Rattle.ignore_guide.specs.Asking.{AsksOutside, first_unread, of_file}
use Rattle.ignore_guide.specs.declared.missing.Question.{Question}
use Rattle.ignore_guide.specs.declared.told.Told.{Told}
use Rattle.ignore.specs.Asked.{base_dir}
use Rattle.ignore.specs.declared.options.WalkOptions.{WalkOptions}

-- what leads to git's global file, where that is asked for
abbrev pub AsksGlobal : Told → Env → Bool → Option Question → Type 0
AsksGlobal told env false q = q ≡ None
AsksGlobal told env true q = AsksOutside told env q

-- a file that wasn't told, if there is one; else that
abbrev pub AsksFile : Told → Env → Bool → Option Path → Option Question → Type 0
AsksFile told env global (Some path) q = q ≡ Some (of_file path)
AsksFile told env global None q = AsksGlobal told env global q

-- nothing where no directory is known that rules from outside are relative to
abbrev pub AsksFrom : Told → Env → Bool → Option Path → List Path → Option Question → Type 0
AsksFrom told env global None paths q = q ≡ None
AsksFrom told env global (Some dir) paths q = AsksFile told env global (first_unread told paths) q

-- what is asked next before files of rules at some paths can be added, and then a guide be made: of these
-- files the first that wasn't told; then what leads to git's global file, and that, where it is asked for
abbrev pub AsksNext : Told → Env → WalkOptions → List Path → Option Question → Type 0
AsksNext told env b paths q = AsksFrom told env b.settings.git_global (base_dir b env) paths q
