use Rattle.std.proofs.Common.{◌≡◌, ◌++◌, map, take}
use Rattle.ignore_query.specs.KeptRules.{named_in}
use Rattle.ignore_why.specs.Cited.{named_of}
use Rattle.ignore_query.proofs.rules.push_list.Given as goal

-- the rules before this one are appended
abbrev pub invariant-loop-glob : goal.invariant-loop-glob
invariant-loop-glob l = map named_of l.rules.items ≡ map named_of l.fn.rules.items ++ map (named_in l.dir l.rank) (take l.glob-index l.globs)
