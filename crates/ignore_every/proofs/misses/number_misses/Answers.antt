use Rattle.std.proofs.Common.{◌≡◌, true, subst}
use Rattle.ignore_every.specs.Findings.{Misses, is_before}
use Rattle.ignore_every.specs.Names.{is_named}
use Rattle.ignore_every.specs.Rows.{table_of}
use Rattle.ignore_every.specs.declared.place.Place.{Place}
use Rattle.ignore_every.proofs.misses.number_misses.Goals as goal

pub returns-in-Some : goal.returns-in-Some
returns-in-Some c = λ yes place at named near is_dir.
    let same : c.in-Some.place ≡ place = cc (at, c.in-Some.is, c.place_at.ensures) in
    let P : Place → Type 0 = λ p. is_named p.name ≡ true → is_before p.depth c.args.bound ≡ true → Misses (table_of c.args.rows.now) p.left is_dir c.args.index in
    subst P same (λ n b. c.place_misses.ensures yes n b is_dir) named near
