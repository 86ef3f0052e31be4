use Rattle.std.proofs.Common.{◌∙◌, ◌++◌, sym, ap, map}
use Rattle.ignore_base.specs.Paths.{joined}
use Rattle.ignore_base.proofs.NormalLemmas.{after_slashes, joined-first}
use Rattle.ignore_base.proofs.text.normal.joined.Goals as goal

pub loop-name-init : goal.loop-name-init
loop-name-init c =
    let rest = map (λ n. n.now) c.in-Some.rest.now in
    ap (λ t. t ++ after_slashes rest) (c.in_ok-push_str.ensures.bytes ∙ ap (λ t. t ++ c.in-Some.first.now.now) c.in_ok-text.ensures.bytes)
    ∙ joined-first c.in-Some.first.now.now rest
    ∙ sym (ap (λ l. joined (map (λ n. n.now) l)) c.in-Some.ensures.cases.0)
