use Rattle.ignore_walk.proofs.ParentLemmas.{parents}
use Rattle.ignore_walk.proofs.ShownLemmas.{shows, whole_shows}
use Rattle.ignore_walk.proofs.laws.walk_yields_what_it_shows.Goals as goal

pub returns-clause-below : goal.returns-clause-below
returns-clause-below c = shows

pub returns-clause-whole : goal.returns-clause-whole
returns-clause-whole c = whole_shows

pub returns-clause-parents : goal.returns-clause-parents
returns-clause-parents c = parents
