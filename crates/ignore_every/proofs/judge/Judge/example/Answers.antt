use Rattle.std.proofs.Common.{◌≡◌, IfSome, string_bytes, subst, ◌∙◌, ap}
use Rattle.std.specs.Str.{chars}
use Rattle.ignore_every.specs.Findings.{IsInFolder}
use Rattle.ignore_every.proofs.judge.Judge.example.Goals as goal

pub returns : goal.returns
returns c = λ never shortest.
    let rules = c.args.self.now.rules.now.rules in
    let bytes = string_bytes c.args.question.path in
    let text : c.deref.result.now ≡ chars bytes = c.deref.ensures.value ∙ (c.in_ok-text.ensures ∙ ap chars c.as_str.ensures.value) in
    let folder = chars (string_bytes c.in-Some.on.0) in
    let found : IsInFolder c.rules.result.now c.deref.result.now folder c.in-Some.on.1 =
    subst (λ o. IfSome o (λ on. IsInFolder c.rules.result.now c.deref.result.now (chars (string_bytes on.0)) on.1)) c.in-Some.is c.in_ok-found.ensures in
    let by_rules : IsInFolder rules c.deref.result.now folder c.in-Some.on.1 =
    subst (λ rs. IsInFolder rs c.deref.result.now folder c.in-Some.on.1) c.rules.ensures found in
    (never, (shortest, subst (λ t. IsInFolder rules t folder c.in-Some.on.1) text by_rules))
