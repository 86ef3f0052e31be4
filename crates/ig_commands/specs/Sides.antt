-- The two files that `same` compares.
use Rattle.std.specs.Prelude.{ℕ, Bool, ◌||◌, ◌==◌, [], Option, None, Some, slice_get, if◌then◌else◌}
use Rattle.ignore_base.specs.Text.{Bytes, Path}
use Rattle.ignore_every.specs.declared.said.Counted.{Counted}
use Rattle.ignore_every.specs.declared.said.Counted.TheVariants.{Verdicts, Ignored}
use Rattle.ignore_every.specs.declared.said.Wanted.{Wanted}
use Rattle.ignore_files.specs.Tree.{Tree}
use Rattle.ig_every.specs.Reading.{IsSide, is_input}
use Rattle.ig_every.specs.declared.reading.HowRead.{HowRead}
use Rattle.ig_options.specs.declared.given.Given.{Given}
use Rattle.ig_options.specs.declared.given.Given.TheVariants.{Path as Named, NotText, BadlyQuoted}
use Rattle.ig_options.specs.declared.options.Options.{Options}
use Rattle.ig_commands.specs.declared.sides.Sides.{Sides}

-- the path that is given in a place; the empty path for none
abbrev pub path_in : Option Given → Path
path_in None = []
path_in (Some (Named path)) = path
path_in (Some (NotText number)) = []
path_in (Some (BadlyQuoted number)) = []

-- the file that is given at a place, from 0
abbrev pub given_at : Options → ℕ → Path
given_at o place = path_in (slice_get o.paths.items place)

-- one of the two files is standard input
abbrev pub takes_input : Options → Bool
takes_input o = is_input (given_at o 0) || is_input (given_at o 1)

-- how files of rules are read
abbrev pub how_read : Options → HowRead
how_read o = record { case_insensitive = o.ignore_file_case_insensitive; git_trailing_spaces = o.git_trailing_spaces }

-- which verdicts count as the same: with `--ignored` none and whitelist
abbrev pub counted_by : Options → Counted
counted_by o = if o.only_ignored then Ignored else Verdicts

-- how many differences are wanted: one, where no number is given, or 0
abbrev pub most_by : Option ℕ → ℕ
most_by None = 1
most_by (Some most) = if most == 0 then 1 else most

-- which differences are wanted, where so many paths are written at most
abbrev pub wanted_by : Options → Option ℕ → Wanted
wanted_by o most = record { counted = counted_by o; most = most_by most }

-- what was read of both files is so, where standard input has these bytes
abbrev pub AreRead : Tree → Bytes → Options → Sides → Type 0
AreRead tree input o sides = IsSide tree input (how_read o) (given_at o 0) sides.old × IsSide tree input (how_read o) (given_at o 1) sides.new
