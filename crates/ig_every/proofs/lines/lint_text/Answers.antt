use Rattle.std.proofs.Common.{◌∙◌}
use Rattle.ig_every.proofs.LineLemmas.{line_told}
use Rattle.ig_every.proofs.lines.lint_text.Goals as goal

pub returns : goal.returns
returns c =
    line_told c.args.how c.args.number c.args.text.now c.content_of-content.result.now c.as_str.result.now c.in_ok-rule.field-0.why
    c.mark_wrong.result c.return_wrong.result c.in_ok-space_wrong.field-0 c.invalid_of.result
    c.args.found.now.items c.add.new.found.items c.add-2.new.found.items c.add-3.new.found.items c.add-4.new.found.items
    c.content_of-content.ensures (c.as_str.ensures ∙ c.in_ok-rule.ensures.0) c.in_ok-rule.ensures.1
    c.mark_wrong.ensures c.return_wrong.ensures c.in_ok-space_wrong.ensures
    c.invalid_of.ensures
    c.in_ok-add.ensures c.in_ok-add-2.ensures c.in_ok-add-3.ensures c.in_ok-add-4.ensures
