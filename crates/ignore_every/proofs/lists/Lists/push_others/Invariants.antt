use Rattle.std.proofs.Common.{◌≡◌, Some, slice_get}
use Rattle.ignore_every.specs.Differences.{AreDifferencesOf}
use Rattle.ignore_every.specs.declared.said.Difference.{Difference}
use Rattle.ignore_every.proofs.lists.Lists.push_others.Given as goal

-- what was so of those before is so of those now, and the first is the first
abbrev pub invariant-loop-at : goal.invariant-loop-at
invariant-loop-at l = record {
  kept : AreDifferencesOf l.self l.most l.initial.found.items → AreDifferencesOf l.self l.most l.found.items;
  first : (d : Difference) → slice_get l.initial.found.items 0 ≡ Some d → slice_get l.found.items 0 ≡ Some d;
}
