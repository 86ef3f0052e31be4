use Rattle.std.proofs.Common.{◌≡◌, ◌++◌, map}
use Rattle.uses.specs.Searched.{hits_among}
use Rattle.uses.proofs.HitLemmas.{numbered}
use Rattle.uses.proofs.search.search_text.Given as goal

-- the lines so far that have the word are hits
abbrev pub invariant-loop-index : goal.invariant-loop-index
invariant-loop-index l = l.hits.items ≡ l.fn.hits.items ++ hits_among l.word l.path (map numbered l.yielded)
