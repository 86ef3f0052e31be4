-- What stands at a place of the list, and who is in it.
use Rattle.std.proofs.Common.{◌≡◌, ◌≢◌, ℕ, ◌+◌, ◌<◌, ◌≤◌, ◌==◌, nat_le, Bool, true, false, cond, List, Option, None, Some, IsSome, ◌⊎◌, inl, inr}
use Rattle.std.proofs.Common.{refl, sym, ap, ◌∙◌, arith, slice_get, eqb-true, eq-eqb}
use Rattle.std.proofs.lemmas.Bool.{le-leb, leb-true}
use Rattle.std.proofs.lemmas.Bool.Decides.{eqb_tells, leb_tells}
use Rattle.std.proofs.Math.Logic.{∥∥₁_elim}
use mathlib.Core.HLevel.{⊥_prop}
use native.Mathlib.Nat.{ℕ_set}
use Rattle.ignore_guide.specs.Places.{IsIn, entered_at}
use Rattle.ignore_guide.specs.Spots.{IsCounted, IsPut, children_in, counted_at, dir_by, dir_in, dir_of, is_in, is_place}
use Rattle.ignore_guide.specs.declared.places.Entered.{Entered}
use Rattle.ignore_guide.specs.declared.places.Place.{Place}
use Rattle.ignore_guide.specs.declared.places.Places.{Places}
use Rattle.ignore_guide.specs.declared.places.Spot.{Spot}
use Rattle.ignore_guide.proofs.SpotLemmas.{is_in-true, is_place-same, none-in, place-is, some-in, some-spot}

-- two places are the same or not
pub place-tells : (a b : Place) → (a ≡ b) ⊎ (a ≢ b)
place-tells a b = elim (eqb_tells a.index b.index) [
  | inr e ↦ inr (λ same. e.1 (ap (λ (x : Place). x.index) same))
  | inl e ↦ elim (eqb_tells a.serial b.serial) [
    | inr f ↦ inr (λ same. f.1 (ap (λ (x : Place). x.serial) same))
    | inl f ↦ inl (place-is a b e.1 f.1)
  ]
]

pub some-is : (o : Option Entered) → IsSome o → (d : Entered) × (o ≡ Some d)
some-is None h = absurd (cc (h))
some-is (Some d) h = (d, refl)

-- the spot of a place at which a directory was entered
pub record Spotted (spots : List Spot) (serial : ℕ) (place : Place) (dir : Entered) : Type 0 where
  pub spot : Spot
  pub at : slice_get spots place.index ≡ Some spot
  pub own : spot.serial ≡ place.serial
  pub holds : dir_in spot.held ≡ Some dir
  pub within : place.serial ≤ serial

spotted-by : (spots : List Spot) (serial : ℕ) (place : Place) (dir : Entered) (spot : Spot) → slice_get spots place.index ≡ Some spot
    → place.serial ≤ serial → (b : Bool) → (spot.serial == place.serial) ≡ b → cond b (dir_in spot.held) None ≡ Some dir
    → Spotted spots serial place dir
spotted-by spots serial place dir spot at le true own e =
    record { spot = spot; at = at; own = eqb-true spot.serial place.serial own; holds = e; within = le }
spotted-by spots serial place dir spot at le false own e = absurd (cc (e))

spotted-at : (spots : List Spot) (serial : ℕ) (place : Place) (dir : Entered) → place.serial ≤ serial → (o : Option Spot)
    → slice_get spots place.index ≡ o → dir_by place.serial o ≡ Some dir → Spotted spots serial place dir
spotted-at spots serial place dir le None at e = absurd (cc (e))
spotted-at spots serial place dir le (Some spot) at e =
    spotted-by spots serial place dir spot at le (spot.serial == place.serial) refl e

spotted-in : (spots : List Spot) (serial : ℕ) (place : Place) (dir : Entered) (b : Bool) → nat_le place.serial serial ≡ b
    → cond b (dir_by place.serial (slice_get spots place.index)) None ≡ Some dir → Spotted spots serial place dir
spotted-in spots serial place dir true le e =
    spotted-at spots serial place dir (leb-true place.serial serial le) (slice_get spots place.index) refl e
spotted-in spots serial place dir false le e = absurd (cc (e))

pub spotted : (places : Places) (place : Place) (dir : Entered) → entered_at places place ≡ Some dir
    → Spotted places.spots.items places.serial place dir
spotted places place dir e = spotted-in places.spots.items places.serial place dir (nat_le place.serial places.serial) refl e

-- and back
pub entered-is : (places : Places) (place : Place) (dir : Entered) → Spotted places.spots.items places.serial place dir
    → entered_at places place ≡ Some dir
entered-is places place dir s =
    ap (λ (b : Bool). cond b (dir_by place.serial (slice_get places.spots.items place.index)) None) (le-leb place.serial places.serial s.within)
    ∙ (ap (dir_by place.serial) s.at
    ∙ (ap (λ (b : Bool). cond b (dir_in s.spot.held) None) (eq-eqb s.spot.serial place.serial s.own) ∙ s.holds))

module _ (places : Places) (counted : ∥ IsCounted places.spots.items places.serial ∥₁) (place : Place) (dir : Entered)
    (there : entered_at places place ≡ Some dir) where
  -- the number that is kept at a place
  number : (s : Spot) → slice_get places.spots.items place.index ≡ Some s → s.children ≡ children_in places.spots.items place
  number s at =
      let own = spotted places place dir there in
      let same : s ≡ own.spot = some-spot s own.spot (sym at ∙ own.at) in
      let serial : s.serial ≡ place.serial = ap (λ (x : Spot). x.serial) same ∙ own.own in
      ∥∥₁_elim counted (ℕ_set _ _) (λ is. is.counted place.index s at
      ∙ ap (λ (k : ℕ). children_in places.spots.items (record { index = place.index; serial = k })) serial)

  pub some-child : (s : Spot) → slice_get places.spots.items place.index ≡ Some s → (s.children ≡ 0 → ⊥)
      → (child : Place) × IsIn places place child
  some-child s at some =
      let r = some-in place places.spots.items (λ z. some (number s at ∙ z)) in
      let here = is_in-true place (dir_in r.spot.held) r.inside in
      let child : Place = record { index = r.index; serial = r.spot.serial } in
      let le : r.spot.serial ≤ places.serial = within r.index r.spot r.at in
      (child, (here.dir, entered-is places child here.dir (record { spot = r.spot; at = r.at; own = refl; holds = here.is; within = le }), here.parent))
    where
      below : (a b : ℕ) → ((b < a) → ⊥) → a ≤ b
      below a b f = elim (leb_tells a b) [
        | inl e ↦ e.1
        | inr e ↦ absurd (f e.1)
      ]

      within : (i : ℕ) (s : Spot) → slice_get places.spots.items i ≡ Some s → s.serial ≤ places.serial
      within i s e = below s.serial places.serial (λ lt. ∥∥₁_elim counted ⊥_prop (λ is. let le = is.handed i s e in omega (arith, le, lt)))

  pub no-child : (s : Spot) → slice_get places.spots.items place.index ≡ Some s → s.children ≡ 0
      → (child : Place) → IsIn places place child → ⊥
  no-child s at none child (d, at', parent) =
      let own = spotted places child d at' in
      let no = none-in place places.spots.items child.index own.spot (sym (number s at) ∙ none) own.at in
      let yes : is_in place (dir_in own.spot.held) ≡ true = ap (is_in place) own.holds ∙ is_place-same place d.parent parent in
      cc (no, yes)

-- What was entered at the other places.

dir_by-cond : (k : ℕ) (was : Spot) (n : ℕ) (b : Bool) → dir_by k (Some (cond b (record was { children = n }) was)) ≡ dir_by k (Some was)
dir_by-cond k was n true = refl
dir_by-cond k was n false = refl

dir_by-counted : (k : ℕ) (parent : Option Place) (n i : ℕ) (o : Option Spot) → dir_by k (counted_at parent n i o) ≡ dir_by k o
dir_by-counted k parent n i None = refl
dir_by-counted k parent n i (Some was) = dir_by-cond k was n (is_place (record { index = i; serial = was.serial }) parent)

cond-none : (b : Bool) (o : Option Entered) → o ≡ None → cond b o None ≡ None
cond-none true o e = e
cond-none false o e = refl

dir_by-none : (k : ℕ) (o : Option Spot) → dir_of o ≡ None → dir_by k o ≡ None
dir_by-none k None e = refl
dir_by-none k (Some s) e = cond-none (s.serial == k) (dir_in s.held) e

other-serial : (b : Bool) (o : Option Entered) → b ≡ false → cond b o None ≡ None
other-serial true o e = absurd (cc (e))
other-serial false o e = refl

dir_by-other : (k : ℕ) (s : Spot) → (s.serial ≡ k → ⊥) → dir_by k (Some s) ≡ None
dir_by-other k s ne = elim (eqb_tells s.serial k) [
  | inl e ↦ absurd (ne e.1)
  | inr e ↦ other-serial (s.serial == k) (dir_in s.held) e.0
]

-- where a serial more is handed out
serial-more : (k serial : ℕ) (d : Option Entered) → (k ≡ serial + 1 → d ≡ None)
    → cond (nat_le k (serial + 1)) d None ≡ cond (nat_le k serial) d None
serial-more k serial d none = elim (eqb_tells k (serial + 1)) [
  | inl e ↦ cond-none (nat_le k (serial + 1)) d (none e.1) ∙ sym (cond-none (nat_le k serial) d (none e.1))
  | inr e ↦ ap (λ (b : Bool). cond b d None) (elim (leb_tells k serial) [
    | inl f ↦ le-leb k (serial + 1) (let h = f.1 in omega (arith, h)) ∙ sym f.0
    | inr f ↦ (elim (leb_tells k (serial + 1)) [
      | inl g ↦ let a = g.1 in let b = f.1 in absurd (e.1 (omega (arith, a, b)))
      | inr g ↦ g.0
    ]) ∙ sym f.0
  ])
]

no-later : (spots : List Spot) (serial : ℕ) (counted : ∥ IsCounted spots serial ∥₁) (i : ℕ) (o : Option Spot) → slice_get spots i ≡ o
    → dir_by (serial + 1) o ≡ None
no-later spots serial counted i None at = refl
no-later spots serial counted i (Some s) at =
    dir_by-other (serial + 1) s (λ e. ∥∥₁_elim counted ⊥_prop (λ is. let le = is.handed i s at in omega (arith, le, e)))

pub others-added : (old : Places) (new : List Spot) (put : List Spot) (index next n : ℕ) (parent : Option Place) (spot : Spot)
    → dir_of (slice_get old.spots.items index) ≡ None → IsPut old.spots.items index spot put → spot.serial ≡ old.serial + 1
    → ((i : ℕ) → slice_get new i ≡ counted_at parent n i (slice_get put i)) → next ≡ old.serial + 1
    → (other : Place) → other ≢ record { index = index; serial = next }
    → cond (nat_le other.serial next) (dir_by other.serial (slice_get new other.index)) None ≡ entered_at old other
others-added old new put index next n parent spot vacant puts own counts later other ne =
    let k = other.serial in
    let i = other.index in
    let by : dir_by k (slice_get new i) ≡ dir_by k (slice_get put i) =
    ap (dir_by k) (counts i) ∙ dir_by-counted k parent n i (slice_get put i) in
    let same : dir_by k (slice_get put i) ≡ dir_by k (slice_get old.spots.items i) = elim (eqb_tells i index) [
      | inr e ↦ ap (dir_by k) (puts.others i e.1)
      | inl e ↦
          let there : slice_get put i ≡ Some spot = ap (slice_get put) e.1 ∙ puts.here in
          let index_is : other.index ≡ index = e.1 in
          let differs : spot.serial ≡ k → ⊥ =
          λ f. ne (place-is other (record { index = index; serial = next }) index_is (sym f ∙ own ∙ sym later)) in
          ap (dir_by k) there ∙ (dir_by-other k spot differs
          ∙ sym (ap (λ (x : ℕ). dir_by k (slice_get old.spots.items x)) e.1 ∙ dir_by-none k (slice_get old.spots.items index) vacant))
    ] in
    ap (λ (d : Option Entered). cond (nat_le k next) d None) (by ∙ same)
    ∙ (ap (λ (s : ℕ). cond (nat_le k s) (dir_by k (slice_get old.spots.items i)) None) later
    ∙ serial-more k old.serial (dir_by k (slice_get old.spots.items i))
    (λ e. ap (λ (x : ℕ). dir_by x (slice_get old.spots.items i)) e
    ∙ no-later old.spots.items old.serial old.counted i (slice_get old.spots.items i) refl))
