-- Nothing was told before.
use Rattle.std.proofs.Common.{subst}
use Rattle.ignore_base.specs.Text.{Path}
use Rattle.ignore_kept.specs.Guides.{Reads}
use Rattle.ignore_kept.proofs.entering.first_root.Goals as goal

pub returns-in-Ok-read_outside : goal.returns-in-Ok-read_outside
returns-in-Ok-read_outside c = λ is. (
  c.nothing-told.result,
  c.nothing-told.ensures,
  subst (λ (p : Path). Reads c.args.guided.now p c.nothing-told.result c.in-Ok-read_outside.place c.read_outside.new.guided) c.in-Ok.ensures
      c.in-Ok-read_outside.ensures.reads,
)
