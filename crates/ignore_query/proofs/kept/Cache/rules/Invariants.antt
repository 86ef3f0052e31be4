use Rattle.std.proofs.Common.{◌≡◌, map, string_bytes}
use Rattle.std.specs.List.{flat_map}
use Rattle.ignore_query.specs.KeptRules.{rules_kept}
use Rattle.ignore_why.specs.Cited.{named_of}
use Rattle.ignore_query.proofs.kept.Cache.rules.Given as goal

-- the rules of the directories before this one are appended
abbrev pub invariant-loop-key : goal.invariant-loop-key
invariant-loop-key l = map named_of l.rules.items ≡ flat_map (λ e. rules_kept l.self (string_bytes e.0.now) e.1.now) l.yielded
