-- Why rules aren't judged over all paths.
use Rattle.ignore_every.specs.declared.error.Error.{Error}
use Rattle.ignore_every.specs.declared.error.Error.TheVariants as every
use Rattle.ignore_kept.specs.declared.stopped.Stopped.{Stopped}
use Rattle.ignore_kept.specs.declared.stopped.Stopped.TheVariants.{Memory, Invalid, TooLarge}

-- why a search over all paths has no result; that its check refuses what it left is `Invalid`
abbrev pub search_stop : Error → Stopped
search_stop every.TooLarge = TooLarge
search_stop every.Rejected = Invalid
search_stop every.Memory = Memory

-- one of these
abbrev pub IsUnjudged : Stopped → Type 0
IsUnjudged TooLarge = Unit {0}
IsUnjudged Invalid = Unit {0}
IsUnjudged Memory = Unit {0}
IsUnjudged other = ⊥
