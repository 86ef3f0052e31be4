-- The pattern that a matcher of the program is of.
use Rattle.ignore_glob.specs.Reading.{Reading}
use Rattle.ignore_glob.specs.declared.glob.matcher.Matcher.{Matcher}
use Rattle.ignore_glob.specs.declared.glob.matcher.Matcher.TheVariants.{Exact, Automaton}

-- the pattern of a matcher
abbrev pub reading_of : Matcher → Reading
reading_of (Exact exact) = exact
reading_of (Automaton automaton) = automaton.value
