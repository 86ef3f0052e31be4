-- What a search of the program goes over.
use Rattle.ignore_every.specs.declared.places.Search.{Search}
use Rattle.ignore_every.specs.declared.places.Side.{Side}
use Rattle.ignore_every.specs.Rows.{table_of}
use Rattle.ignore_every.specs.Searches.{Tabled, Scope}

-- the rules of a list with their table
abbrev pub side_of : Side → Tabled
side_of side = record { rules = side.rules.now; table = table_of side.rows.now }

-- what the search goes over
abbrev pub scope_of : Search → Scope
scope_of search =
    record {
      reached = search.reached;
      both = search.both;
      left = side_of search.left;
      right = side_of search.right;
      letters = search.letters.now;
    }
