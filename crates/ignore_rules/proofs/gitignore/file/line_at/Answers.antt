use Rattle.std.proofs.Common.{arith}
use Rattle.std.proofs.lemmas.List.{take_rest}
use Rattle.ignore_rules.proofs.CutLemmas.{one_segment, read_before_end, read_at_last}
use Rattle.ignore_rules.proofs.gitignore.file.line_at.Goals as goal

pub last_line-requires : goal.last_line-requires
last_line-requires c = one_segment _ c.in-None.ensures

pub returns-in-Some : goal.returns-in-Some
returns-in-Some c =
    read_before_end c.args.bytes.now c.args.fault c.args.at c.in-Some.end _ _ (take_rest c.args.bytes.now c.args.at) c.in-Some.ensures
    (grind (arith, c.without_return.ensures)) c.line_of.result c.line_of.ensures

pub returns-in-None : goal.returns-in-None
returns-in-None c =
    read_at_last c.args.bytes.now c.args.fault c.args.at _ (take_rest c.args.bytes.now c.args.at) c.last_line.result c.last_line.ensures
