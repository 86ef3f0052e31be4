use Rattle.std.proofs.Common.{◌≡◌, true, subst}
use Rattle.ignore_every.specs.Agreement.{AgreesAt}
use Rattle.ignore_every.specs.Findings.{is_before}
use Rattle.ignore_every.specs.Names.{is_named}
use Rattle.ignore_every.specs.Scopes.{scope_of}
use Rattle.ignore_every.specs.declared.place.Place.{Place}
use Rattle.ignore_every.proofs.places.Search.number_agrees.Goals as goal

pub returns-in-Some : goal.returns-in-Some
returns-in-Some c = λ yes place at named near is_dir.
    let same : c.in-Some.place ≡ place = cc (at, c.in-Some.is, c.place_at.ensures) in
    let P : Place → Type 0 = λ p. is_named p.name ≡ true → is_before p.depth c.args.bound ≡ true
    → AgreesAt c.args.counted (scope_of c.args.self.now) p is_dir in
    subst P same (λ n b. c.place_agrees.ensures yes n b is_dir) named near
