-- What came of the line is what is counted.
use Rattle.std.proofs.Common.{sym, ◌∙◌, rules}
use Rattle.vectors.proofs.Counting.{judged_line}
use Rattle.vectors.proofs.run.count_line.Goals as goal

pub returns-in-Ok : goal.returns-in-Ok
returns-in-Ok g c =
    let counts = judged_line (g.K.Kinds.gives c.args.kinds.now)
    (g.K.Kinds.waits c.args.kinds.now) c.args.line.bytes.now c.args.tally.now c.count.new.self c.in-Ok.verdict
    (sym c.is_empty.ensures ∙ c.if-is_empty.false) c.in-Ok.ensures c.count.ensures.counts in
    search rules
