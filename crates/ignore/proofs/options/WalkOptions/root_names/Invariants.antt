use Rattle.std.proofs.Common.{◌≡◌, take}
use Rattle.ignore.proofs.options.WalkOptions.root_names.Given as goal

-- the names are those of the roots before this one
abbrev pub invariant-loop-root : goal.invariant-loop-root
invariant-loop-root l = l.names.items ≡ take l.root-index l.root-items
