-- Adding the rows of a table of default types.
use Rattle.std.specs.Prelude.{List, [], ◌∷◌}
use Rattle.ignore_base.specs.Text.{Bytes}
use Rattle.ignore_types.specs.Types.{Definition, Draft, with_names}

-- a row of the table: some names, and the globs of each
abbrev pub Row : Type 0
Row = List Bytes × List Bytes

-- the definitions with the globs of each row, in turn, for each of its names
abbrev pub with_rows : List Row → List Definition → List Definition
with_rows [] ds = ds
with_rows (row ∷ rows) ds = with_rows rows (with_names row.0 row.1 ds)

-- the draft with the globs of each row, in turn, for each of its names
abbrev pub with_defaults : List Row → Draft → Draft
with_defaults rows draft = record { definitions = with_rows rows draft.definitions; choices = draft.choices }
