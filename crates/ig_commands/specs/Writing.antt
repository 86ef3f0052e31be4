-- What the program writes for an entry.
use Rattle.std.specs.Prelude.{Bool, true, false, ◌||◌, ◌&&◌, ◌==◌, not, length, slice_index, [], ◌∷◌, ◌++◌, Option, None, Some, Ok, Err, if◌then◌else◌}
use Rattle.std.specs.List.{list_any}
use Rattle.ignore_base.specs.Paths.{trim_of}
use Rattle.ignore_base.specs.Text.{Bytes, Path}
use Rattle.ignore_files.specs.declared.types.FileType.{FileType}
use Rattle.ignore_files.specs.declared.types.FileType.TheVariants.{File, Dir, Symlink, Other}
use Rattle.ignore_walk.specs.Entry.{Item}
use Rattle.ig_options.specs.declared.options.Options.{Options}

-- the path as it is written: where no root is given, without one leading `./`
abbrev pub shown : Bool → Path → Path
shown is_bare path = if is_bare then trim_of path else path

-- what a path ends in: NUL, or a newline
abbrev pub end_of : Options → Bytes
end_of o = if o.null then 0 ∷ [] else 10 ∷ []

-- what is written for a path
abbrev pub record_of : Options → Path → Bytes
record_of o path = shown o.is_bare path ++ end_of o

-- a kind is one of those that are chosen
abbrev pub is_chosen : Options → Option FileType → Bool
is_chosen o None = false
is_chosen o (Some File) = o.files
is_chosen o (Some Dir) = o.dirs
is_chosen o (Some Symlink) = o.links
is_chosen o (Some Other) = false

-- a kind is chosen
abbrev pub chooses : Options → Bool
chooses o = o.files || (o.dirs || o.links)

-- no kind is chosen, or this one is
abbrev pub is_of_kind : Options → Option FileType → Bool
is_of_kind o kind = not (chooses o) || is_chosen o kind

-- a glob lists what it matches: it doesn't begin with `!`
abbrev pub is_positive : Bytes → Bool
is_positive glob = not (slice_index glob 0 == 33)

-- files are asked for: a type is chosen, or a glob lists what it matches
abbrev pub asks_for_files : Options → Bool
asks_for_files o = not (length o.types == 0) || (list_any is_positive o.globs || list_any is_positive o.iglobs)

-- a kind is that of a file
abbrev pub is_regular : Option FileType → Bool
is_regular None = false
is_regular (Some File) = true
is_regular (Some Dir) = false
is_regular (Some Symlink) = false
is_regular (Some Other) = false

-- an entry is listed: its kind is chosen; or no kind is, and it is a file, where files are asked for
abbrev pub is_listed : Options → Option FileType → Bool
is_listed o kind = if chooses o then is_chosen o kind else not (asks_for_files o) || is_regular kind

-- an item is an entry that is listed
abbrev pub is_found : Options → Item → Bool
is_found o (Ok (e, p)) = is_listed o e.kind
is_found o (Err p) = false

-- what is written for an item: its path, where it is an entry that is listed
abbrev pub lines_of : Options → Item → Bytes
lines_of o (Ok (e, p)) = if is_listed o e.kind && not o.quiet then record_of o e.path else []
lines_of o (Err p) = []
