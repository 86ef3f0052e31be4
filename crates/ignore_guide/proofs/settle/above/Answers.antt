use Rattle.std.proofs.Common.{◌≡◌, ◌∷◌, reverse, sym, subst}
use Rattle.ignore_dir.specs.Lists.{Placed}
use Rattle.ignore_levels.specs.Levels.{IsBelow, IsChain, counting}
use Rattle.ignore_levels.specs.Levels.IsChain.{no_level}
use Rattle.ignore_levels.proofs.PassLemmas.{keeps-then}
use Rattle.ignore_levels.proofs.RisingLemmas.{rising-below, rising-last, turned}
use Rattle.ignore_guide.proofs.ForestLemmas.{fresh-more}
use Rattle.ignore_guide.proofs.settle.above.Goals as goal

pub loop-placed-init : goal.loop-placed-init
loop-placed-init c = record { levels = λ place level e. e; chain = λ rising. no_level; fresh = λ rising passed passes. elim passes [ ] }

pub loop-placed-preserved : goal.loop-placed-preserved
loop-placed-preserved c =
    let before = c.loop-placed.yielded in
    let inv = c.loop-placed.invariant in
    let x : Placed = c.in-Some.placed in
    let own = c.placed.inside in
    let view : x ≡ (own.dir, own.offset) = sym c.placed.view_is in
    let new = c.add.new.self.slots.items in
    record {
      levels = keeps-then _ _ _ inv.levels c.in_ok-place.ensures.levels;
      chain = λ rising.
          let r = rising-last 0 before x rising in
          let below = subst (λ (y : Placed). IsBelow y.1 (counting (reverse before))) view (rising-below x.1 before r.1.1) in
          let done = c.in_ok-place.ensures.chain (counting (reverse before)) (inv.chain r.1.0) below in
          subst (λ l. IsChain new c.in_ok-place.place (counting l)) (sym (turned before x))
          (subst (λ (y : Placed). IsChain new c.in_ok-place.place (counting (y ∷ reverse before))) (sym view) done);
      fresh = λ rising.
          let r = rising-last 0 before x rising in
          fresh-more _ _ new inv.levels c.in_ok-place.ensures.levels _ c.in_ok-place.place (counting (reverse before)) (inv.chain r.1.0)
          c.in_ok-place.ensures.below (inv.fresh r.1.0);
    }
