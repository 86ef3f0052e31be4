use Rattle.std.proofs.Common.{sym, ◌∙◌, codes}
use Rattle.std.proofs.lemmas.Bool.{both_ways, not-true}
use Rattle.std.proofs.lemmas.Bool.Decides.{Decides-at}
use Rattle.std.proofs.lemmas.Slice.Eq.{bytes_eq-Decides}
use Rattle.ignore_base.specs.RootSteps.{is_rooted}
use Rattle.ignore_base.proofs.CleanRootLemmas.{Decides-clean_root}
use Rattle.ignore_base.proofs.text.clean.is_clean_root.Goals as goal

pub returns-then-ne : goal.returns-then-ne
returns-then-ne c =
    let root = c.args.root.now in
    Decides-at _ (is_rooted c.without_end.result.now) c.is_rooted.ensures
    (Decides-clean_root root c.without_end.result.now c.without_end.ensures
    (λ e. both_ways _ c.if-eq.false (c.eq.ensures ∙ (bytes_eq-Decides root (codes ".")).1 e))
    (λ e. both_ways _ c.if-eq-2.false (c.eq-else-eq.ensures ∙ (bytes_eq-Decides root (codes "./")).1 e))
    (λ e. both_ways _ c.if-eq-3.false (c.eq-else-eq-2.ensures ∙ (bytes_eq-Decides root (codes "/")).1 e))
    (λ e. both_ways _ (not-true _ (sym c.ne.ensures ∙ c.if-ne.true)) ((bytes_eq-Decides root (codes "-")).1 e)))
