use Rattle.std.proofs.Common.{◌∙◌, ◌++◌, ap}
use Rattle.ig_options.proofs.fd.exclusion_of.Goals as goal

pub returns : goal.returns
returns c = c.in_ok-push_str.ensures.bytes ∙ ap (λ t. t ++ c.args.glob.now) c.in_ok-text.ensures.ok
