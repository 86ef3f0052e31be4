use Rattle.std.proofs.Common.{◌≡◌, ◌≢◌, ◌⊎◌, inl, inr}
use Rattle.ignore_base.specs.Problem.{Problem, memory, problem_of}
use Rattle.ig_commands.proofs.sources.find_sources.Goals as goal

-- what isn't out of memory is the other
other : {Refused : Type 0} (p : Problem) → p ≢ memory → (p ≡ memory) ⊎ Refused → Refused
other p enough (inl out) = absurd (enough out)
other p enough (inr refused) = refused

pub returns-in_ok-refuse_or_end-in-Err-clause-refused : goal.returns-in_ok-refuse_or_end-in-Err-clause-refused
returns-in_ok-refuse_or_end-in-Err-clause-refused g c =
    let h = c.in_ok-refuse_or_end-in-Err.ensures in
    λ none. (problem_of c.in-Err.error, other (problem_of c.in-Err.error) h.enough c.in-Err.ensures, h.reports.1)
