use Rattle.std.proofs.Common.{◌-◌, ◌*◌, ◌%◌, ◌^◌, arith}
use Rattle.std.specs.Prelude.{bit_and}
use Rattle.ignore_glob.proofs.WordBits.{has_and, has_none}
use Rattle.ignore_glob.proofs.WordCertain.{one_bit}
use Rattle.ignore_glob.proofs.glob.word.Masks.matches_all.Goals as goal

pub returns-then-end-eq0 : goal.returns-then-end-eq0
returns-then-end-eq0 c p h = absurd (has_none p h)

pub returns : goal.returns
returns c p h =
    let m = c.args.self in
    let k = c.args.end - 1 in
    let outer = (has_and (bit_and m.insides m.free) (1 * 2 ^ k % 2 ^ 64) p).0 h in
    let inner = (has_and m.insides m.free p).0 outer.0 in
    let same = one_bit k p (omega (arith, c.requires)) outer.1 in
    (inner.0, inner.1, omega (arith, same, c.if-end-eq0.false))
