use Rattle.ignore_every.proofs.Closed.{asked_place}
use Rattle.ignore_every.proofs.laws.a_closed_search_misses_nothing.Goals as goal

pub returns : goal.returns
returns c scope places sound path asked = asked_place scope places sound path asked
