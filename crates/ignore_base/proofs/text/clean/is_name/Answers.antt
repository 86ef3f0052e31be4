use Rattle.std.proofs.Common.{◌&&◌, not, sym, ap, ◌∙◌}
use Rattle.std.proofs.lemmas.Bool.Decides.{Decides-at}
use Rattle.ignore_base.specs.Paths.{is_proper, has_slash}
use Rattle.ignore_base.proofs.CleanLemmas.{Decides-name}
use Rattle.ignore_base.proofs.text.clean.is_name.Goals as goal

pub returns-then-is_proper : goal.returns-then-is_proper
returns-then-is_proper c =
    let text = c.args.text.now in
    Decides-at _ (is_proper text && not (has_slash text))
    (ap not c.has_slash.ensures ∙ ap (λ b. b && not (has_slash text)) (sym (sym c.is_proper.ensures ∙ c.if-is_proper.true)))
    (Decides-name text)

pub returns-else-is_proper : goal.returns-else-is_proper
returns-else-is_proper c =
    let text = c.args.text.now in
    Decides-at _ (is_proper text && not (has_slash text))
    (c.if-is_proper.false ∙ ap (λ b. b && not (has_slash text)) (sym (sym c.is_proper.ensures ∙ c.if-is_proper.false)))
    (Decides-name text)
