-- A search over two lists whose parts are right.
use Rattle.std.specs.Prelude.{◌≡◌, true}
use Rattle.ignore_every.specs.declared.lists.Lists.{Lists}
use Rattle.ignore_every.specs.Scopes.{scope_of}
use Rattle.ignore_every.specs.Searches.{IsSoundSearch}

-- the search is over what both lists reach, and is sound
pub record IsOverBoth (lists : Lists) : Type 0 where
  pub old : lists.search.left.rules.now ≡ lists.old.now.rules
  pub new : lists.search.right.rules.now ≡ lists.new.now.rules
  pub reached : lists.search.reached ≡ true
  pub both : lists.search.both ≡ true
  pub sound : IsSoundSearch (scope_of lists.search) lists.trail.places.items
