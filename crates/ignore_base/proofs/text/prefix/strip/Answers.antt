use Rattle.std.proofs.Common.{unwrap_or, sym, ap, ◌∙◌}
use Rattle.std.specs.Option.{option_map}
use Rattle.ignore_base.specs.Paths.{below, without_slash}
use Rattle.ignore_base.proofs.PathLemmas.{below-dot, below-flat, below-deep}
use Rattle.ignore_base.proofs.text.prefix.strip.Goals as goal
use Rattle.ignore_base.proofs.text.prefix.strip.Goals.{then-is_dot-via-then-is_dot, then-is_dot-via-else-is_dot+then-not-has_slash}

pub returns-then-is_dot : goal.returns-then-is_dot
returns-then-is_dot c =
    let root = c.args.root.now in
    let path = c.trim_root-path.result.now in
    sym (ap (below root) (sym c.trim_root-path.ensures) ∙ elim c.then-is_dot.branch [
      | then-is_dot-via-then-is_dot w ↦ below-dot root path (sym c.is_dot.ensures ∙ w.if-is_dot.true)
      | then-is_dot-via-else-is_dot+then-not-has_slash w ↦ below-flat root path (sym w.has_slash.ensures ∙ w.if-not-has_slash.true)
    ])

pub returns-in-Some : goal.returns-in-Some
returns-in-Some c =
    let root = c.args.root.now in
    let path = c.trim_root-path.result.now in
    c.without_slash.ensures ∙ sym (ap (below root) (sym c.trim_root-path.ensures)
    ∙ below-deep root path (sym c.is_dot.ensures ∙ c.if-is_dot.false) (sym c.has_slash.ensures ∙ c.if-not-has_slash.false)
    ∙ ap (λ o. unwrap_or (option_map without_slash o) path) (sym c.in-Some.ensures))

pub returns-in-None : goal.returns-in-None
returns-in-None c =
    let root = c.args.root.now in
    let path = c.trim_root-path.result.now in
    sym (ap (below root) (sym c.trim_root-path.ensures)
    ∙ below-deep root path (sym c.is_dot.ensures ∙ c.if-is_dot.false) (sym c.has_slash.ensures ∙ c.if-not-has_slash.false)
    ∙ ap (λ o. unwrap_or (option_map without_slash o) path) (sym c.in-None.ensures))
