use Rattle.std.proofs.Common.{◌∙◌, ◌-◌, ◌≤◌, length, sym, ap, map, drop, Some, arith, length-drop}
use Rattle.std.proofs.lemmas.List.{take_all}
use Rattle.ignore_base.specs.Paths.{joined}
use Rattle.ignore_base.proofs.NormalLemmas.{rest-none, rest-some}
use Rattle.ignore_base.proofs.text.normal.rest_below.Goals as goal

pub returns-then-not-starts_with : goal.returns-then-not-starts_with
returns-then-not-starts_with c =
    rest-none c.args.root.now c.args.names.now (sym c.starts_with.ensures.value ∙ c.if-not-starts_with.true)

pub returns : goal.returns
returns c =
    let n = length c.args.root.now in
    let names = c.args.names.now in
    let short : length (drop n names) ≤ length names - n = omega (arith, length-drop n names) in
    ap Some c.in_ok-joined.ensures
    ∙ ap (λ l. Some (joined (map (λ n. n.now) l))) (take_all (length names - n) (drop n names) short)
    ∙ rest-some c.args.root.now names (sym c.starts_with.ensures.value ∙ c.if-not-starts_with.false)
