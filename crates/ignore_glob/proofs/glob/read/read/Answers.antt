use Rattle.std.proofs.Common.{◌≡◌, ap, rules, ◌∙◌}
use Rattle.std.proofs.lemmas.Str.{chars_from_encodes}
use Rattle.std.specs.Str.{chars}
use Rattle.ignore_glob.specs.View.{tokens_view}
use Rattle.ignore_glob.specs.LexemeViews.{row_view}
use Rattle.ignore_glob.proofs.ReadLemmas.{balanced_at, reads_at}
use Rattle.ignore_glob.proofs.glob.read.read.Goals as goal

pub read_level-requires : goal.read_level-requires
read_level-requires c =
    let read : c.in_ok-characters.characters.items ≡ chars c.args.text.now = search (rules, chars_from_encodes) in (
      0,
      balanced_at c.args.options (chars c.args.text.now) c.as_slice.result.now (c.as_slice.ensures.value ∙ read)
          (row_view c.in_ok-row.row.items) (row_view c.as_slice-2.result.now)
          (ap row_view c.as_slice-2.ensures.value) c.in_ok-row.ensures.row,
    )

pub returns-clause-value : goal.returns-clause-value
returns-clause-value c =
    let level = c.in_ok-tokens.ensures in
    let read : c.in_ok-characters.characters.items ≡ chars c.args.text.now = search (rules, chars_from_encodes) in
    reads_at c.args.options (chars c.args.text.now) c.as_slice.result.now (c.as_slice.ensures.value ∙ read) (row_view c.in_ok-row.row.items)
    (row_view c.as_slice-2.result.now) (ap row_view c.as_slice-2.ensures.value) c.in_ok-row.ensures.row
    (tokens_view c.in_ok-tokens.tokens.items) (row_view c.in_ok-tokens.field-0-1.now) level.level level.ends level.balance

pub returns-in_err-row-clause-fault : goal.returns-in_err-row-clause-fault
returns-in_err-row-clause-fault c =
    let read : c.in_ok-characters.characters.items ≡ chars c.args.text.now = search (rules, chars_from_encodes) in
    let at : c.as_slice.result.now ≡ chars c.args.text.now = c.as_slice.ensures.value ∙ read in
    search rules
