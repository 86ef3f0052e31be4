use Rattle.std.proofs.Common.{◌≡◌, ℕ, Some, ap, sym, subst, ◌∙◌}
use Rattle.std.proofs.Math.Logic.{∥∥₁_map}
use Rattle.std.specs.Option.{option_copied}
use Rattle.ignore_guide.specs.Places.{entered_at}
use Rattle.ignore_guide.specs.Spots.{IsPut}
use Rattle.ignore_guide.specs.declared.places.Held.TheVariants.{Free}
use Rattle.ignore_guide.proofs.PlaceLemmas.{spotted}
use Rattle.ignore_guide.proofs.SpotLemmas.{counted-left}
use Rattle.ignore_guide.proofs.places.Places.leave.Goals as goal

pub invariant_of-self : goal.invariant_of-self
invariant_of-self c =
    let old = c.args.self.now in
    let dir = c.in-Some.dir.now in
    let there : entered_at old c.args.place ≡ Some dir = sym c.get.ensures ∙ ap option_copied c.in-Some.is in
    let s = spotted old c.args.place dir there in
    let put = subst (λ (n : ℕ). IsPut old.spots.items c.args.place.index
    (record { serial = c.args.place.serial; children = n; held = Free old.free }) c.replace.new.spots.items)
    (c.children-children.ensures s.spot s.at) c.replace.ensures.put in
    record {
      counted = ∥∥₁_map old.counted (λ was. counted-left old.spots.items c.replace.new.spots.items c.count.new.spots.items old.serial
          c.one_less-around.result c.args.place dir s.spot old.free was s.at s.own s.holds put
          (λ p spot e at. c.one_less-around.ensures p spot e at) c.count.ensures.counted);
    }
