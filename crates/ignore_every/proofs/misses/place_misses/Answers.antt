use Rattle.ignore_every.specs.Findings.{Misses}
use Rattle.ignore_every.specs.Rows.{table_of}
use Rattle.ignore_every.proofs.RowLemmas.{both_kinds}
use Rattle.ignore_every.proofs.misses.place_misses.Goals as goal

pub returns : goal.returns
returns c = λ yes named near is_dir.
    both_kinds (λ d. Misses (table_of c.args.rows.now) c.args.place.now.left d c.args.index) (c.misses.ensures c.if-not-misses.false)
    (c.misses-2.ensures yes) is_dir
