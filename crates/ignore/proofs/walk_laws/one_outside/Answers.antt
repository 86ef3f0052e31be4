use Rattle.ignore.proofs.OutsideOnly.{IsOutside-one}
use Rattle.ignore.proofs.walk_laws.one_outside.Goals as goal

pub returns : goal.returns
returns c = IsOutside-one
