use Rattle.std.proofs.Common.{◌≡◌, take, map}
use Rattle.ignore_glob.specs.View.{view}
use Rattle.ignore_glob.proofs.glob.copies.copied.Given as goal

abbrev pub invariant-loop-token : goal.invariant-loop-token
invariant-loop-token l = map view l.copies.items ≡ map view (take l.token-index l.token-items)
