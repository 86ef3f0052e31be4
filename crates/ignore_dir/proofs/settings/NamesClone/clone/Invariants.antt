use Rattle.std.proofs.Common.{◌≡◌, ◌++◌, drop}
use Rattle.ignore_dir.proofs.settings.NamesClone.clone.Given as goal

-- the names so far, and those that are left, are all names
abbrev pub invariant-loop-name : goal.invariant-loop-name
invariant-loop-name l = l.names ++ drop l.name-index l.items ≡ l.items
