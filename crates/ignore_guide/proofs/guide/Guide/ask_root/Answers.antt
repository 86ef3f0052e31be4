use Rattle.std.proofs.Common.{IfOk, List, ℕ, subst}
use Rattle.std.proofs.lemmas.Result.{IfOk-weaker}
use Rattle.ignore_guide.specs.Hosted.{StepGives, StepPlaces}
use Rattle.ignore_guide.specs.contracts.told.ToldFiles.TheImpl.{ghosts}
use Rattle.ignore_guide.specs.declared.hosted.Call.TheVariants as call
use Rattle.ignore_guide.proofs.guide.Guide.ask_root.Goals as goal

pub returns-clause-gives : goal.returns-clause-gives
returns-clause-gives c =
    IfOk-weaker c.go.result _ _ (λ step h. (
      c.nothing-told.result,
      c.nothing-told.ensures,
      subst (λ (p : List ℕ). StepGives ghosts (call.Root p) c.nothing-told.result c.args.self.now step c.go.new.self) c.in_ok-root.ensures h,
    )) c.go.ensures.gives

pub returns-clause-placed : goal.returns-clause-placed
returns-clause-placed c =
    subst (λ (p : List ℕ). IfOk c.go.result (λ step. StepPlaces (call.Root p) c.args.self.now.places step c.go.new.self.places))
    c.in_ok-root.ensures c.go.ensures.placed
