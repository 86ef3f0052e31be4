use Rattle.std.proofs.Common.{◌≡◌, List, ℕ, ap, ◌∙◌}
use Rattle.ignore_base.specs.Paths.{join_of}
use Rattle.ignore_guide.proofs.open.open.Goals as goal

pub returns-clause-dir : goal.returns-clause-dir
returns-clause-dir g c = λ tree loads honest are.
    let path : c.as_str-3.result.now ≡ join_of c.args.around.now.path c.args.name.now = c.as_str-3.ensures.value
    ∙ (c.in_ok-path.ensures ∙ ap (λ (p : List ℕ). join_of p c.args.name.now) c.as_str.ensures) in
    c.in_ok-dir.ensures.dir tree loads honest are ∙ ap (λ (p : List ℕ). (loads p).0) path

pub returns-clause-problem : goal.returns-clause-problem
returns-clause-problem g c = λ tree loads honest are.
    let path : c.as_str-3.result.now ≡ join_of c.args.around.now.path c.args.name.now = c.as_str-3.ensures.value
    ∙ (c.in_ok-path.ensures ∙ ap (λ (p : List ℕ). join_of p c.args.name.now) c.as_str.ensures) in
    c.in_ok-dir.ensures.problem tree loads honest are ∙ ap (λ (p : List ℕ). (loads p).1) path
