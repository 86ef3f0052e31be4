use Rattle.ig_commands.proofs.asking.asked_met.Goals as goal

pub returns-clause-read : goal.returns-clause-read
returns-clause-read g c = λ tree honest.
    (c.in_ok-asked.asked.walk, c.in_ok-asked.ensures.read tree honest, c.meet_hidden.ensures)
