use Rattle.std.proofs.Common.{ap, ◌∙◌}
use Rattle.ignore_base.specs.Paths.{has_slash}
use Rattle.ignore_base.proofs.PathLemmas.{has_slash-found}
use Rattle.ignore_base.proofs.text.prefix.has_slash.Goals as goal

pub returns : goal.returns
returns c =
    c.is_some.ensures ∙ has_slash-found c.as_bytes.result.now c.memchr.result c.memchr.ensures ∙ ap has_slash c.as_bytes.ensures.value
