use Rattle.ignore_every.specs.Agreement.{AgreesAt}
use Rattle.ignore_every.specs.Scopes.{scope_of}
use Rattle.ignore_every.proofs.RowLemmas.{both_kinds}
use Rattle.ignore_every.proofs.places.Search.place_agrees.Goals as goal

pub returns : goal.returns
returns c = λ yes named near is_dir.
    both_kinds (λ d. AgreesAt c.args.counted (scope_of c.args.self.now) c.args.place.now d) (c.agrees.ensures c.if-not-agrees.false)
    (c.agrees-2.ensures yes) is_dir
