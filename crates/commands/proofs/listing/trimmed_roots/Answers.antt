use Rattle.std.proofs.Common.{◌∙◌, List, ℕ, string_bytes, subst, subst₂, sym}
use Rattle.std.proofs.lemmas.List.Elements.{AllZip-push}
use Rattle.std.specs.List.{AllZip}
use Rattle.commands.specs.Walking.{IsTrimmed}
use Rattle.commands.proofs.CheckLemmas.{map-take-push}
use Rattle.commands.proofs.listing.trimmed_roots.Goals as goal

pub loop-root-preserved : goal.loop-root-preserved
loop-root-preserved c =
    let given = string_bytes c.root-item.result in
    let cut = subst (λ (g : List ℕ). IsTrimmed g c.trimmed.result.now) c.as_str.ensures.value c.trimmed.ensures in
    let one = subst (λ (r : List ℕ). IsTrimmed given r) (sym (c.new.ensures ∙ c.in_ok-from_str.ensures.ok)) cut in
    subst₂ (λ (gs rs : List (List ℕ)). AllZip IsTrimmed gs rs)
    (sym (map-take-push string_bytes c.args.roots.now c.loop-root.root-index c.root-item.result c.loop-root-test.true c.root-item.is))
    (sym c.in_ok-push.ensures.items) (AllZip-push IsTrimmed _ _ given c.new.result c.loop-root.invariant one)
