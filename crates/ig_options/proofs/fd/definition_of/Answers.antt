use Rattle.std.proofs.Common.{◌∙◌, ◌++◌, ap, codes}
use Rattle.ig_options.proofs.fd.definition_of.Goals as goal

pub returns : goal.returns
returns c =
    c.in_ok-push_str.ensures.bytes ∙ (ap (λ t. t ++ c.without_dot.result.now) c.in_ok-text.ensures.ok
    ∙ ap (λ t. codes "extension:*." ++ t) c.without_dot.ensures)
