use Rattle.std.proofs.Common.{sym}
use Rattle.ignore.proofs.builder.WalkBuilder.build.Goals as goal

pub returns-clause-whole : goal.returns-clause-whole
returns-clause-whole g c = rw (sym c.order.ensures) c.walk.ensures.whole
