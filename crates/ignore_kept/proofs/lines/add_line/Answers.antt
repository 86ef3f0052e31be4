-- The line is added to what the handle keeps.
use Rattle.std.proofs.Common.{rules}
use Rattle.ignore_kept.proofs.Adding.{line_adds}
use Rattle.ignore_kept.proofs.lines.add_line.Goals as goal

-- src/lines.rt:34:1
pub returns : goal.returns
returns c = search (line_adds, rules)
