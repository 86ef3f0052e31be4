use Rattle.std.proofs.Common.{subst}
use Rattle.ignore_dir.specs.Steps.{Reached}
use Rattle.ignore_guide.specs.Guide.{StandsFor}
use Rattle.ignore_guide.proofs.laws.each_place_is_on_its_way.Goals as goal

pub returns : goal.returns
returns c = λ guide place depth g front n s.
    subst (λ (at : Reached). StandsFor guide place depth at) (c.steps_are_whole.ensures.entered g front n) s
