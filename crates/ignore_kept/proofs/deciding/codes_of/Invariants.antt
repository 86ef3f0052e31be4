use Rattle.std.proofs.Common.{◌≡◌, map, take}
use Rattle.ignore_kept.specs.Deciding.{listed_code}
use Rattle.ignore_kept.proofs.deciding.codes_of.Given as goal

-- the codes are those of what was found before this
abbrev pub invariant-loop-one : goal.invariant-loop-one
invariant-loop-one l = l.codes.items ≡ map listed_code (take l.one-index l.found)
