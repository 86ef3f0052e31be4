-- What a question leaves of a matcher, whatever it is answered.
use Rattle.std.specs.Prelude.{◌≡◌, ◌≢◌, true}
use Rattle.ignore_files.specs.declared.files.Files.{Ghosts as Files}
use Rattle.ignore_query.specs.declared.incremental.IncrementalIgnore.{IncrementalIgnore}
use Rattle.ignore_query.specs.Agrees.{Agrees}
use Rattle.ignore_query.specs.InTurn.{Question}
use Rattle.ignore_query.specs.KeptLoads.{KeepsLoads}
use Rattle.ignore_query.specs.Needs.{Stays, is_decided}
use Rattle.ignore_query.specs.Where.{WhereAgrees}

-- a question leaves this of a matcher, with an answer or out of memory: it asks about the same; what
-- was kept stays kept, and what comes to it was loaded by answers of the files; where they are
-- consistent with a tree that what was kept agrees with, all that is kept agrees with it, and nothing
-- comes to it unless the rules decide
pub record LeavesMatcher {F : Type 0} (files : Files F) (f : F) (q : Question) (old new : IncrementalIgnore) : Type 0 where
  pub same : new.asked ≡ old.asked
  pub stays : Stays old.cache new.cache
  pub loaded : KeepsLoads files f old.asked old.cache new.cache
  pub agrees : WhereAgrees files f old (λ g. Agrees g new.cache)
  pub unchanged : WhereAgrees files f old (λ g. is_decided g q.0 q.1 ≢ true → new.cache ≡ old.cache)
