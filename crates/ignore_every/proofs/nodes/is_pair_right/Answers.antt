use Rattle.std.proofs.Common.{◌≡◌, ◌≤◌, arith, ap}
use Rattle.ignore_every.specs.Rows.{table_of, part_of}
use Rattle.ignore_every.specs.Trees.{made_rows}
use Rattle.ignore_every.proofs.Pairs.{two_right}
use Rattle.ignore_every.proofs.nodes.is_pair_right.Goals as goal

pub returns : goal.returns
returns c = λ yes rules letters l r.
    let left = c.args.left.now in
    let right = c.args.right.now in
    let pair = c.args.pair.now in
    let starts : left.low ≡ c.args.low = omega arith in
    let meet : left.high ≡ right.low = omega arith in
    let ends : right.high ≡ c.args.high = omega arith in
    let order : c.args.low ≤ left.high = omega arith in
    let more : left.high ≤ c.args.high = omega arith in
    two_right rules letters c.args.low left.low left.high right.low right.high c.args.high starts meet ends order more
    (table_of (made_rows left.made)) (table_of (made_rows right.made)) (table_of c.rows.result.now) (table_of c.rows-2.result.now)
    (table_of pair.rows.items) (part_of pair.parts.items) l r (ap table_of c.rows.ensures) (ap table_of c.rows-2.ensures)
    (c.is_right.ensures yes)
