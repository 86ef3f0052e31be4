use Rattle.std.proofs.Common.{◌≡◌, true, IfSome, string_bytes, subst}
use Rattle.std.specs.Str.{chars}
use Rattle.ignore_every.specs.Findings.{IsInFolder}
use Rattle.ignore_every.specs.Questions.{HasNoIgnoredAncestor, IsAsked}
use Rattle.ignore_every.specs.Verdicts.{IsSaid}
use Rattle.ignore_every.proofs.sayings.said_of.Goals as goal

pub returns-in-Some : goal.returns-in-Some
returns-in-Some c =
    let text = c.args.text.now in
    let on = c.in-Some.on in
    let found : IsInFolder c.rules.result.now text (chars (string_bytes on.0)) on.1 =
    subst (λ o. IfSome o (λ f. IsInFolder c.rules.result.now text (chars (string_bytes f.0)) f.1)) c.in-Some.is c.in_ok-found.ensures in
    subst (λ rs. IsInFolder rs text (chars (string_bytes on.0)) on.1) c.rules.ensures found

pub returns : goal.returns
returns c =
    let rules = c.args.rules.now.rules in
    let text = c.args.text.now in
    let bytes = string_bytes c.in-Some-asked.path in
    let asked : IsAsked true rules (chars bytes) =
    subst (λ o. IfSome o (λ p. IsAsked true rules (chars (string_bytes p)))) c.in-Some-asked.is c.in_ok-asked.ensures.asked in
    let same : chars bytes ≡ text = subst (λ o. IfSome o (λ p. chars (string_bytes p) ≡ text)) c.in-Some-asked.is c.in_ok-asked.ensures.same in
    let by_bytes : HasNoIgnoredAncestor c.rules-2.result.now (chars bytes) → IsSaid c.rules-2.result.now (chars bytes) c.args.is_dir c.in_ok-said.said =
    subst (λ bs. HasNoIgnoredAncestor c.rules-2.result.now (chars bs) → IsSaid c.rules-2.result.now (chars bs) c.args.is_dir c.in_ok-said.said)
    c.as_str.ensures.value c.in_ok-said.ensures in
    let by_rules : HasNoIgnoredAncestor rules (chars bytes) → IsSaid rules (chars bytes) c.args.is_dir c.in_ok-said.said =
    subst (λ rs. HasNoIgnoredAncestor rs (chars bytes) → IsSaid rs (chars bytes) c.args.is_dir c.in_ok-said.said) c.rules-2.ensures by_bytes in
    subst (λ t. IsSaid rules t c.args.is_dir c.in_ok-said.said) same (by_rules asked.1)
