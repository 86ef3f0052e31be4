-- What a chosen type keeps beside its globs, so that it is found fast whether one matches.
use Rattle.std.specs.Prelude.{false}
use Rattle.ignore_glob.specs.Reading.{Reading}
use Rattle.ignore_set.specs.Sets.{Member}

-- a glob of a type is no glob for directories only: a directory has no type
abbrev pub name_member : Reading → Member
name_member reading = record { reading = reading; only_dir = false }
