use Rattle.std.proofs.Common.{◌≡◌, ◌≤◌, ℕ, zero, suc, Bool, true, false, List, Option, None, Some, length, arith}
use Rattle.ignore_every.specs.Rows.{decider_of, table_of}
use Rattle.ignore_every.specs.declared.row.Row.{Row}
use Rattle.ignore_every.proofs.Pairs.{none_right}
use Rattle.ignore_every.proofs.RowLemmas.{decider_past}
use Rattle.ignore_every.proofs.nodes.is_none_right.Goals as goal

-- nothing decides in a table of one state where nothing decides
undecided : (rows : List Row) → length rows ≤ 1 → decider_of rows 0 false ≡ Some None → decider_of rows 0 true ≡ Some None
    → (s : ℕ) (is_dir : Bool) (k : Option ℕ) → decider_of rows s is_dir ≡ Some k → k ≡ None
undecided rows size file dir zero false k is = cc (is, file)
undecided rows size file dir zero true k is = cc (is, dir)
undecided rows size file dir (suc s) is_dir k is = absurd (decider_past rows (suc s) is_dir k (omega (arith, size)) is)

pub returns : goal.returns
returns c = λ yes rules letters.
    let rows = c.args.rows.now in
    let same : c.args.low ≡ c.args.high = omega arith in
    let size : length rows ≤ 1 = omega arith in
    none_right rules letters c.args.low c.args.high same (table_of rows)
    (undecided rows size (c.is_undecided.ensures c.if-not-is_undecided.false) (c.is_undecided-2.ensures yes))
