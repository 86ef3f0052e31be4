use Rattle.std.proofs.Common.{◌≡◌, ◌∙◌, rules, string_bytes}
use Rattle.ig_every.proofs.JudgeLemmas.{is_hidden}
use Rattle.ig_every.proofs.dead.hidden.Goals as goal

pub returns : goal.returns
returns c = λ index text never is.
    let copied : string_bytes c.in_ok-clone.field-0 ≡ string_bytes c.args.example.now.folder = search rules in
    is_hidden c.args.rules.now index c.args.example.now c.new-folder.result c.line_of.result never is (c.new-folder.ensures ∙ copied) c.line_of.ensures
