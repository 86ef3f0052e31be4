use Rattle.std.proofs.Common.{◌≡◌, ◌++◌, drop, map}
use Rattle.std.specs.Prelude.{string_bytes}
use Rattle.ignore_base.specs.Paths.{joined}
use Rattle.ignore_base.proofs.NormalLemmas.{after_slashes}
use Rattle.ignore_base.proofs.text.normal.joined.Given as goal

-- the text so far, with the names that are left, is all of them
abbrev pub invariant-loop-name : goal.invariant-loop-name
invariant-loop-name l =
    string_bytes l.text ++ after_slashes (map (λ n. n.now) (drop l.name-index l.rest)) ≡ joined (map (λ n. n.now) l.names)
