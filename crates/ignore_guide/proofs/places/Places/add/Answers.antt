use Rattle.std.proofs.Common.{rules, ◌≡◌, ◌+◌, ℕ, Some, sym, subst}
use Rattle.std.proofs.Math.Logic.{∥∥₁_map}
use Rattle.ignore_guide.specs.Spots.{IsCounted, IsPut}
use Rattle.ignore_guide.specs.declared.places.Held.TheVariants.{Entered as Holds}
use Rattle.ignore_guide.specs.declared.places.Place.{Place}
use Rattle.ignore_guide.proofs.PlaceLemmas.{others-added, some-is, spotted}
use Rattle.ignore_guide.proofs.SpotLemmas.{Around, counted-added}
use Rattle.ignore_guide.proofs.places.Places.add.Goals as goal

pub invariant_of-self-2 : goal.invariant_of-self-2
invariant_of-self-2 c =
    let old = c.args.self.now in
    let serial : c.in-Some.serial ≡ old.serial + 1 = search rules in
    let around : (p : Place) → c.args.entered.parent ≡ Some p → Around old.spots.items p c.in_ok-children.children = λ p e.
    let d = some-is _ (c.requires.inside p e) in
    let s = spotted old p d.0 d.1 in
    record { spot = s.spot; at = s.at; serial = s.own; more = c.in_ok-children.ensures p s.spot e s.at } in
    let put = subst (λ (k : ℕ). IsPut old.spots.items c.vacant-index.result (record { serial = k; children = 0; held = Holds c.args.entered }) c.put.new.spots.items)
    serial (c.in_ok-free.ensures.put c.vacant-index.ensures) in
    record {
      counted = ∥∥₁_map old.counted (λ was. subst (λ (k : ℕ). IsCounted c.count.new.spots.items k) (sym serial)
          (counted-added old.spots.items c.put.new.spots.items c.count.new.spots.items old.serial
          c.vacant-index.result c.in_ok-children.children c.args.entered was c.vacant-index.ensures.0 put around c.count.ensures.counted));
    }

pub returns-clause-others : goal.returns-clause-others
returns-clause-others c =
    let serial : c.in-Some.serial ≡ c.args.self.now.serial + 1 = search rules in
    others-added c.args.self.now c.count.new.spots.items c.put.new.spots.items c.vacant-index.result c.in-Some.serial c.in_ok-children.children c.args.entered.parent _
    c.vacant-index.ensures.0 (c.in_ok-free.ensures.put c.vacant-index.ensures) serial c.count.ensures.counted serial
