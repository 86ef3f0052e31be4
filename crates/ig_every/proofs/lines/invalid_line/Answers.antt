use Rattle.std.proofs.Common.{◌≡◌, Option, ap, option_map, rules, string_bytes, ◌∙◌}
use Rattle.std.proofs.lemmas.Result.{IfOk-weaker}
use Rattle.ignore_base.specs.Problem.{glob, problem_of}
use Rattle.ignore_base.specs.Text.{Bytes}
use Rattle.ignore_base.specs.declared.error.Error.{the_lemmas}
use Rattle.ig_every.proofs.lines.invalid_line.Goals as goal

-- it is the error of a glob
pub returns-in-Glob : goal.returns-in-Glob
returns-in-Glob c =
    let why = string_bytes c.in-Glob.err in
    let is : problem_of c.args.error ≡ glob (option_map string_bytes c.in-Glob.glob) why = search (rules, the_lemmas) in
    IfOk-weaker c.invalid_rule.result _ _
    (λ p q. (why, is ∙ ap (λ (n : Option Bytes). glob n why) q.0, q.1)) c.invalid_rule.ensures
