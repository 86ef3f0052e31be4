-- The view of a place.
use Rattle.std.specs.Prelude.{None, Some, Ok, Err, string_bytes}
use Rattle.ignore_base.specs.Problem.{problem_of}
use Rattle.ignore_dir.specs.declared.exclude.ExcludePlace.{ExcludePlace}
use Rattle.ignore_dir.specs.declared.exclude.ExcludePlace.TheVariants.{At, Nowhere, Failed}
use Rattle.ignore_dir.specs.Exclude.{Place}

-- a place as plain data
abbrev pub place_of : ExcludePlace → Place
place_of (At path) = Ok (Some (string_bytes path))
place_of Nowhere = Ok None
place_of (Failed error) = Err (problem_of error)
