-- Listed things with their paths, as they are sorted.
use Rattle.std.specs.Prelude.{Bool, []}
use Rattle.std.specs.Ordering.{is_lt}
use Rattle.std.specs.declared.cmp.Ordering.{Ordering}
use Rattle.ignore_base.specs.Text.{Path}
use Rattle.ignore_base.specs.Paths.{join_of}
use Rattle.ignore_files.specs.declared.types.Listed.{Listed}
use Rattle.ignore_files.specs.declared.types.Listed.TheVariants as thing
use Rattle.ignore_walk.specs.declared.arrange.PathListed.{PathListed}
use Rattle.ignore_walk.specs.Walked.{comes_before}

-- the path of a listed thing in a directory; a fault has none
abbrev pub path_in : Path → Listed → Path
path_in dir (thing.Entry name kind) = join_of dir name
path_in dir (thing.Fault fault) = []

-- a listed thing with its path
abbrev pub key_of : Path → Listed → PathListed
key_of dir x = record { path = path_in dir x; listed = x }

-- a listed thing by another name; a fault has none
abbrev pub renamed : Path → Listed → Listed
renamed path (thing.Entry name kind) = thing.Entry path kind
renamed path (thing.Fault fault) = thing.Fault fault

-- one comes before another: a fault before an entry, and entries as their paths do
abbrev pub comes_first : (Path → Path → Ordering) → PathListed → PathListed → Bool
comes_first cmp a b = comes_before (λ x y. is_lt (cmp x y)) (renamed a.path a.listed) (renamed b.path b.listed)
