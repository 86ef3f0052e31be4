use Rattle.std.proofs.Common.{rules}
use Rattle.commands.proofs.run.write_answer.Goals as goal
use Rattle.commands.proofs.run.write_answer.Goals.{in-Ok-None, in-Ok-Ignore, in-Ok-Whitelist, in-Err}

-- what can't be written is what the writing of the answer says
pub returns-clause-said : goal.returns-clause-said
returns-clause-said g c =
    elim c.match-matched.branch [
      | in-Ok-None w ↦ rw (w.result-is, w.out-is) search rules
      | in-Ok-Ignore w ↦ rw (w.result-is, w.out-is) search rules
      | in-Ok-Whitelist w ↦ rw (w.result-is, w.out-is) search rules
      | in-Err w ↦ rw w.result-is tt
    ]
