-- Each character is tested.
use Rattle.std.proofs.Common.{◌≡◌, ◌∙◌, ap, ◌&&◌, rules}
use borrow.Author.Tests.{tests}
use Rattle.std.specs.List.{list_all}
use Rattle.std.specs.Str.{chars}
use Rattle.std.proofs.lemmas.Iterator.{YieldsList-from_chars}
use Rattle.std.proofs.lemmas.Iterator.Search.{all_from_yields_List}
use Rattle.ignore_types.specs.TypeNames.{is_name_char}
use Rattle.ignore_types.proofs.types.name.is_allowed.Goals as goal

pub returns-then-ne : goal.returns-then-ne
returns-then-ne c =
    let each : c.all.result ≡ list_all is_name_char
    (chars c.args.name.now) = all_from_yields_List is_name_char _ _ c.all.result c.all.ensures.ran
    (YieldsList-from_chars c.args.name.now c.utf8.name c.chars.ensures.rest) (λ x b q k. search (rules, tests)) in
    each ∙ ap (λ b. b && list_all is_name_char (chars c.args.name.now)) c.if-ne.ensures
