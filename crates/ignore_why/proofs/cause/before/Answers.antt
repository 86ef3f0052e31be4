use Rattle.std.proofs.Common.{◌∙◌}
use Rattle.ignore_why.proofs.TextLemmas.{take_before}
use Rattle.ignore_why.proofs.cause.before.Goals as goal

pub returns : goal.returns
returns c = record {
  front = c.in_ok-from_str.ensures.ok ∙ (c.range.ensures.value ∙ take_before c.args.text.now c.args.offset c.requires.0);
}
