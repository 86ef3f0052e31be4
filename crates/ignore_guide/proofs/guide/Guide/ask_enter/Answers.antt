use Rattle.std.proofs.Common.{IfOk, List, ℕ, subst}
use Rattle.std.proofs.lemmas.Result.{IfOk-weaker}
use Rattle.ignore_guide.specs.Hosted.{StepGives, StepPlaces}
use Rattle.ignore_guide.specs.contracts.told.ToldFiles.TheImpl.{ghosts}
use Rattle.ignore_guide.specs.declared.hosted.Call.TheVariants as call
use Rattle.ignore_guide.proofs.guide.Guide.ask_enter.Goals as goal

pub returns-clause-gives : goal.returns-clause-gives
returns-clause-gives c =
    IfOk-weaker c.go.result _ _ (λ step h. (
      c.lacking-told.result,
      c.lacking-told.ensures.fresh,
      subst (λ (p : List ℕ). StepGives ghosts (call.Enter c.args.parent p) c.lacking-told.result c.args.self.now step c.go.new.self) c.in_ok-name.ensures h,
    )) c.go.ensures.gives

pub returns-clause-placed : goal.returns-clause-placed
returns-clause-placed c =
    subst (λ (p : List ℕ). IfOk c.go.result (λ step. StepPlaces (call.Enter c.args.parent p) c.args.self.now.places step c.go.new.self.places))
    c.in_ok-name.ensures c.go.ensures.placed
