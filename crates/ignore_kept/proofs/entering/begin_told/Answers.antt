-- The rules from outside were read, and the root was begun.
use Rattle.std.proofs.Common.{inr, subst}
use Rattle.std.proofs.lemmas.Result.{IfOk-weaker}
use Rattle.ignore_base.specs.Text.{Path}
use Rattle.ignore_guide.specs.declared.hosted.Call.TheVariants as call
use Rattle.ignore_kept.specs.Guides.{Steps}
use Rattle.ignore_kept.proofs.entering.begin_told.Goals as goal

pub returns-clause-reads : goal.returns-clause-reads
returns-clause-reads c = λ asks.
    IfOk-weaker c.begin.result _ _ (λ place h. inr (
      c.in_ok-begun.begun,
      h.1,
      h.0,
      asks,
      c.in_ok-begun.ensures,
      h.2,
      subst (λ (p : Path). Steps c.in_ok-begun.begun (call.Root p) h.0 place h.1) c.as_str.ensures h.3,
      h.4,
    )) c.begin.ensures.steps
