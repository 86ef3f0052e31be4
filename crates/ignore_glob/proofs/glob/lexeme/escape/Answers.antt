use Rattle.std.proofs.Common.{◌≡◌, ◌∷◌, [], arith}
use Rattle.std.proofs.lemmas.Grind.{common_steps}
use Rattle.ignore_glob.specs.Lexing.{escape, dangling}
use Rattle.ignore_glob.proofs.glob.lexeme.escape.Goals as goal

pub returns-in-Some-clause-lexeme : goal.returns-in-Some-clause-lexeme
returns-in-Some-clause-lexeme c o =
    let e : c.args.text.now ≡ c.in-Some.c.now ∷ c.in-Some.rest.now = grind (arith, common_steps) in
    rw e (escape c.args.depth c.in-Some.c.now c.in-Some.rest.now)

pub returns-in-None-clause-fault : goal.returns-in-None-clause-fault
returns-in-None-clause-fault c o =
    let e : c.args.text.now ≡ [] = grind (arith, common_steps) in
    rw e (dangling c.args.depth)
