-- Worked examples: the two files that are compared, and what comes of it.
use Rattle.std.proofs.Common.{◌≡◌, [], Option, None, Some, true, false, refl}
use Rattle.ig_options.specs.declared.given.Given.TheVariants.{NotText}
use Rattle.ig_commands.specs.Same.{do_differ, status_by}
use Rattle.ig_commands.specs.Sides.{most_by, path_in}

-- a file that isn't given has the empty path
pub paths : (path_in None ≡ []) × (path_in (Some (NotText 3)) ≡ [])
paths = (refl, refl)

-- one path is wanted where no number is given, and with 0
pub most : (most_by None ≡ 1) × (most_by (Some 0) ≡ 1) × (most_by (Some 7) ≡ 7)
most = (refl, refl, refl)

-- the status is 2 where something was reported, whether the files differ or not
pub statuses : (status_by true true ≡ 2) × (status_by true false ≡ 2) × (status_by false true ≡ 1) × (status_by false false ≡ 0)
statuses = (refl, refl, refl, refl)

-- files that differ at no question don't
pub alike : do_differ [] ≡ false
alike = refl
