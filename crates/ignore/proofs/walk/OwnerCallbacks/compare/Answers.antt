use Rattle.ignore.proofs.SceneLemmas.{when_some}
use Rattle.ignore.proofs.walk.OwnerCallbacks.compare.Goals as goal

pub returns-in-Some : goal.returns-in-Some
returns-in-Some g c = λ cmp answers. c.compared.ensures cmp (when_some _ _ _ c.in-Some.builder c.in-Some.is answers)
