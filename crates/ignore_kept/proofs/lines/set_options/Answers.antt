-- The options are set of the lines that the handle keeps.
use Rattle.std.proofs.Common.{rules}
use Rattle.ignore_kept.proofs.Adding.{sets_options}
use Rattle.ignore_kept.proofs.lines.set_options.Goals as goal

-- src/lines.rt:55:1
pub returns : goal.returns
returns c = search (sets_options, rules)
