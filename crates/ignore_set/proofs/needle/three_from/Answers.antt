use Rattle.std.proofs.Common.{arith, sym}
use Rattle.ignore_set.proofs.BucketLemmas.{three_missing}
use Rattle.ignore_set.proofs.needle.three_from.Goals as goal

pub returns-then-bytes-at-clause-value : goal.returns-then-bytes-at-clause-value
returns-then-bytes-at-clause-value c = sym (three_missing c.args.at c.args.bytes.now (omega (arith, c.if-bytes-at.true)))
