use Rattle.std.proofs.Common.{Bool, IfOk, option_map, subst, sym, ◌∙◌}
use Rattle.ignore_base.specs.Problem.{problem_of}
use Rattle.ig_every.specs.Reading.{IsRead, read_of}
use Rattle.ig_every.proofs.reading.read_side.Goals as goal

-- standard input
pub returns-then-is_input-clause-read : goal.returns-then-is_input-clause-read
returns-then-is_input-clause-read g c = λ tree honest.
    subst (λ (b : Bool). IfOk c.read_bytes.result (λ r. IsRead c.args.how c.args.path.now (read_of b tree c.args.input.now c.args.path.now) r.rules (option_map problem_of r.problem)))
    (sym c.if-is_input.true ∙ c.is_input.ensures) c.read_bytes.ensures.read

-- a file
pub returns-clause-read : goal.returns-clause-read
returns-clause-read g c = λ tree honest.
    subst (λ (b : Bool). IfOk c.read_file.result (λ r. IsRead c.args.how c.args.path.now (read_of b tree c.args.input.now c.args.path.now) r.rules (option_map problem_of r.problem)))
    (sym c.if-is_input.false ∙ c.is_input.ensures) (c.read_file.ensures.read tree honest)
