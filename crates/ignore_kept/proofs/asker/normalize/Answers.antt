-- The text is that of the matcher that the handle keeps.
use Rattle.std.proofs.Common.{ap, string_bytes, ◌∙◌}
use Rattle.ignore.specs.WalkWords.{dir_of, normalize_of}
use Rattle.ignore_base.specs.Text.{Path}
use Rattle.ignore_kept.specs.Kinds.{matcher_in}
use Rattle.ignore_kept.proofs.asker.normalize.Goals as goal

pub returns-in-Ok-normalize : goal.returns-in-Ok-normalize
returns-in-Ok-normalize c =
    let m = c.in-Matcher.matcher in (
      m,
      ap matcher_in c.in-Matcher.is,
      c.in-Ok-normalize.ensures.value
          ∙ ap (λ (p : Path). normalize_of (dir_of m.asked) (string_bytes m.asked.root) p) c.in-Ok.ensures.value,
    )
