use Rattle.std.proofs.Common.{◌∙◌, Ok, ap, subst, sym}
use Rattle.std.proofs.lemmas.Str.{IsUtf8-string_bytes}
use Rattle.std.proofs.lemmas.Bool.{false≢true}
use Rattle.std.specs.Str.{IsUtf8}
use Rattle.uses.proofs.FoundLemmas.{as_text, no_text}
use Rattle.uses.proofs.search.decoded.Goals as goal

pub returns-in-Ok : goal.returns-in-Ok
returns-in-Ok c =
    let text = c.in-Ok.text in
    let is = ap (λ v. v.items) c.in-Ok.ensures.ok ∙ c.into_vec.ensures in
    as_text c.args.contents.bytes c.args.contents.fault c.in_default.not-Some (subst IsUtf8 is (IsUtf8-string_bytes text)) ∙ ap Ok (sym is)

pub returns : goal.returns
returns c =
    no_text c.args.contents.bytes c.args.contents.fault c.in_default.not-Some
    (λ utf8. false≢true (c.in-Err.ensures.succeeds (subst IsUtf8 (sym c.into_vec.ensures) utf8)))
