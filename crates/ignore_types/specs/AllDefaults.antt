-- The rows of the table of all default types, in its order. It stands in five parts.
use Rattle.std.specs.Prelude.{List, ◌++◌, map}
use Rattle.ignore_types.specs.Defaults.{Row}
use Rattle.ignore_types.specs.declared.all_default_types.TheConstants.{FIRST_TYPES, SECOND_TYPES, THIRD_TYPES, FOURTH_TYPES, FIFTH_TYPES}

-- the rows of the first part
unfoldable pub first_rows : List Row
first_rows = map (λ r. (map (λ n. n.now) r.0.now, map (λ g. g.now) r.1.now)) FIRST_TYPES

-- the rows of the second part
unfoldable pub second_rows : List Row
second_rows = map (λ r. (map (λ n. n.now) r.0.now, map (λ g. g.now) r.1.now)) SECOND_TYPES

-- the rows of the third part
unfoldable pub third_rows : List Row
third_rows = map (λ r. (map (λ n. n.now) r.0.now, map (λ g. g.now) r.1.now)) THIRD_TYPES

-- the rows of the fourth part
unfoldable pub fourth_rows : List Row
fourth_rows = map (λ r. (map (λ n. n.now) r.0.now, map (λ g. g.now) r.1.now)) FOURTH_TYPES

-- the rows of the last part
unfoldable pub fifth_rows : List Row
fifth_rows = map (λ r. (map (λ n. n.now) r.0.now, map (λ g. g.now) r.1.now)) FIFTH_TYPES

-- all rows of the table
unfoldable pub all_default_rows : List Row
all_default_rows = first_rows ++ (second_rows ++ (third_rows ++ (fourth_rows ++ fifth_rows)))
