-- The first twelve bytes are the key, and an equals sign follows.
use Rattle.std.proofs.Common.{◌≡◌, ◌∷◌, take, drop, length, subst, sym, ◌∙◌, ap, arith}
use Rattle.std.specs.Option.{option_copied}
use Rattle.std.proofs.lemmas.Bool.{iff_false}
use Rattle.ignore_excludes.specs.Excludes.{trimmed_start, IsKey}
use Rattle.ignore_excludes.proofs.ExcludesKeys.{key_nothing, key_value}
use Rattle.ignore_excludes.proofs.excludes.value_of_key.Goals as goal

pub returns-then-not-eq_ignore_ascii_case : goal.returns-then-not-eq_ignore_ascii_case
returns-then-not-eq_ignore_ascii_case c =
    let other = iff_false c.eq_ignore_ascii_case.ensures.test c.if-not-eq_ignore_ascii_case.true in
    key_nothing c.args.text.now (λ key rest e. other (subst IsKey (sym c.in_ok-key.ensures.cases.1) key))

pub returns-in_err-equals : goal.returns-in_err-equals
returns-in_err-equals c =
    let back = ap trimmed_start c.in_ok-key.ensures.cases.2 in
    rw c.from_residual-in_err-equals.ensures (key_nothing c.args.text.now (λ key rest e. (
    let none = c.in_err-equals.ensures.cases in
    let len = ap length (c.trim.ensures ∙ (back ∙ e)) in
    omega arith
    )))

pub returns-then-equals-ne61 : goal.returns-then-equals-ne61
returns-then-equals-ne61 c =
    let back = ap trimmed_start c.in_ok-key.ensures.cases.2 in
    key_nothing c.args.text.now (λ key rest e. c.if-equals-ne61.true (
    let whole : c.in_ok-equals.equals.now ∷ c.in_ok-equals.rest.now ≡ 61 ∷ rest = sym c.in_ok-equals.ensures.cases.0
    ∙ (c.trim.ensures ∙ (back ∙ e)) in
    cc
    ))

pub returns : goal.returns
returns c =
    let back = ap trimmed_start c.in_ok-key.ensures.cases.2 in
    let rest = c.in_ok-equals.rest.now in
    let key : IsKey (take 12 c.args.text.now) = subst IsKey c.in_ok-key.ensures.cases.1
    (c.eq_ignore_ascii_case.ensures.test.0 c.if-not-eq_ignore_ascii_case.false) in
    let first : trimmed_start (drop 12 c.args.text.now) ≡ 61 ∷ rest = sym back
    ∙ (sym c.trim.ensures ∙ (c.in_ok-equals.ensures.cases.0 ∙ ap (λ b. b ∷ rest) c.if-equals-ne61.false)) in
    key_value c.args.text.now rest (option_copied c.assigned_value.result) key first c.assigned_value.ensures
