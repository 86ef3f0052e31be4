use Rattle.std.proofs.Common.{sym, ◌∙◌}
use Rattle.ignore_every.proofs.letters.is_interval_right.Goals as goal

pub returns : goal.returns
returns c = λ alike d low high.
    let kind = c.is_same_kind.ensures in
    let same = c.if-not-is_same_kind.false in (
      c.in-Some.mark,
      sym c.letter_at.ensures ∙ c.in-Some.is,
      c.are_all_alike.ensures alike d low high,
      kind.slash same d low high,
      kind.dot same d low high,
    )
