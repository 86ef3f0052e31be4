use Rattle.std.proofs.Common.{◌∙◌, sym, ap, map}
use Rattle.std.specs.Option.{option_copied}
use Rattle.ignore_base.specs.Normalize.{rest_below}
use Rattle.ignore_base.proofs.NormalLemmas.{normalize_of-none, normal-no_root, normal-no_path, normal-rest}
use Rattle.ignore_base.proofs.text.normal.normalize.Goals as goal

pub returns-then-is_without_names-clause-value : goal.returns-then-is_without_names-clause-value
returns-then-is_without_names-clause-value c =
    sym (normalize_of-none (option_copied c.args.dir) c.args.root.now c.args.path.now
    (sym c.is_without_names.ensures ∙ c.if-is_without_names.true))

pub returns-in_default-clause-value : goal.returns-in_default-clause-value
returns-in_default-clause-value c =
    normal-no_root (option_copied c.args.dir) c.args.root.now c.args.path.now (sym c.is_without_names.ensures ∙ c.if-is_without_names.false)
    (rw c.in_default.is at c.in_ok-front.ensures)

pub returns-in_default-2-clause-value : goal.returns-in_default-2-clause-value
returns-in_default-2-clause-value c =
    normal-no_path (option_copied c.args.dir) c.args.root.now c.args.path.now _ (sym c.is_without_names.ensures ∙ c.if-is_without_names.false)
    (rw c.in-Some.is at c.in_ok-front.ensures) (rw c.in_default-2.is at c.in_ok-names.ensures)

pub returns-clause-value : goal.returns-clause-value
returns-clause-value c =
    c.in_ok-rest_below.ensures
    ∙ ap (λ l. rest_below (map (λ n. n.now) l) (map (λ n. n.now) c.as_slice-2.result.now)) c.as_slice.ensures.value
    ∙ ap (λ l. rest_below (map (λ n. n.now) c.in-Some.front.items) (map (λ n. n.now) l)) c.as_slice-2.ensures.value
    ∙ normal-rest (option_copied c.args.dir) c.args.root.now c.args.path.now _ _ (sym c.is_without_names.ensures ∙ c.if-is_without_names.false)
    (rw c.in-Some.is at c.in_ok-front.ensures) (rw c.in-Some-2.is at c.in_ok-names.ensures)
