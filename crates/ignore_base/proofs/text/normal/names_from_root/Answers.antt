use Rattle.std.proofs.Common.{◌∙◌, sym, ap, map, Some}
use Rattle.std.specs.Option.{option_copied}
use Rattle.ignore_base.specs.Normalize.{names_from_root, steps}
use Rattle.ignore_base.specs.Paths.{components}
use Rattle.ignore_base.proofs.NormalLemmas.{names-relative}
use Rattle.ignore_base.proofs.text.normal.names_from_root.Goals as goal

pub returns : goal.returns
returns c =
    let path = c.args.path.now in
    let dir = c.in-Some.dir.now in
    ap Some (c.in_ok-steps-3.ensures
    ∙ ap (λ l. steps l (components path)) (c.in_ok-steps-2.ensures
    ∙ ap (λ l. steps (map (λ n. n.now) l) (components dir)) c.new-names.ensures.items))
    ∙ sym (names-relative dir path (sym c.is_absolute.ensures ∙ c.if-is_absolute.false)
    (sym c.is_absolute-2.ensures ∙ c.if-not-is_absolute.false))
    ∙ sym (ap (λ d. names_from_root (option_copied d) path) c.in-Some.is)
