use Rattle.std.proofs.Common.{◌≡◌, true, drop}
use Rattle.ignore_query.specs.Plain.{all_follow, last_of}
use Rattle.ignore_query.proofs.clean.is_plain.Given as goal

-- what is left answers for the whole
abbrev pub invariant-loop-byte : goal.invariant-loop-byte
invariant-loop-byte l =
    (l.is_plain ≡ true → all_follow l.before (drop l.byte-index l.path) ≡ true → all_follow 47 l.path ≡ true)
    × (last_of l.before (drop l.byte-index l.path) ≡ last_of 47 l.path)
