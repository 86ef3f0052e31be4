use Rattle.std.proofs.Common.{◌∙◌, IsUtf8, ap, subst, vec_items}
use Rattle.std.proofs.lemmas.Str.{IsUtf8-string_bytes}
use Rattle.ig_options.proofs.given.text_of.Goals as goal

pub returns-in-Ok : goal.returns-in-Ok
returns-in-Ok c =
    let same = ap vec_items c.in-Ok.ensures.ok in
    (c.new.ensures ∙ same, subst IsUtf8 same (IsUtf8-string_bytes c.in-Ok.text))
