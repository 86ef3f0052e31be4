-- A search whose parts are right.
use Rattle.std.specs.Prelude.{◌≡◌, Bool, List}
use Rattle.ignore_rules.specs.Rules.{Rule}
use Rattle.ignore_every.specs.declared.judge.Judge.{Judge}
use Rattle.ignore_every.specs.Scopes.{scope_of}
use Rattle.ignore_every.specs.Searches.{IsSoundSearch}

-- the search is over the rules, and is sound
pub record IsSound (judge : Judge) : Type 0 where
  pub same : judge.search.left.rules.now ≡ judge.rules.now.rules
  pub sound : IsSoundSearch (scope_of judge.search) judge.trail.places.items

-- it is over these rules, and over all paths or those that the rules reach
pub record IsOver (reached : Bool) (rules : List Rule) (judge : Judge) : Type 0 where
  pub sound : IsSound judge
  pub mode : judge.search.reached ≡ reached
  pub own : judge.rules.now.rules ≡ rules
