-- What the list of directories counts once a directory is put there or dropped.
use Rattle.std.proofs.Common.{◌≡◌, ◌≢◌, ℕ, zero, suc, ◌+◌, ◌-◌, ◌≤◌, ◌==◌, Bool, true, false, cond, List, [], ◌∷◌, Option, None, Some, ◌⊎◌, inl, inr}
use Rattle.std.proofs.Common.{refl, sym, ap, subst, ◌∙◌, arith, slice_get, eqb-true, eq-eqb}
use Rattle.std.proofs.lemmas.Bool.{and_from, and_parts}
use Rattle.std.proofs.lemmas.List.Sums.{sum_by-cons}
use Rattle.std.proofs.lemmas.Bool.Decides.{eqb_tells}
use Rattle.ignore_guide.specs.Spots.{IsCounted, IsPut, children_in, counted_at, dir_in, dir_of, is_in, is_place}
use Rattle.ignore_guide.specs.declared.places.Entered.{Entered}
use Rattle.ignore_guide.specs.declared.places.Held.{Held}
use Rattle.ignore_guide.specs.declared.places.Held.TheVariants.{Entered as Holds, Free}
use Rattle.ignore_guide.specs.declared.places.Place.{Place}
use Rattle.ignore_guide.specs.declared.places.Spot.{Spot}

pub some-spot : (a b : Spot) → Some a ≡ Some b → a ≡ b
some-spot a b e = cc

-- what is held at a number
abbrev pub held_at : Option Spot → Option Held
held_at None = None
held_at (Some spot) = Some spot.held

some-held : (a b : Held) → Some a ≡ Some b → a ≡ b
some-held a b e = cc

-- how many of the directories at a number are in the one at a place
abbrev pub one_at : Place → Option Spot → ℕ
one_at q o = cond (is_in q (dir_of o)) 1 0

children-cons : (q : Place) (a : Spot) (spots : List Spot) → children_in (a ∷ spots) q ≡ one_at q (Some a) + children_in spots q
children-cons q a spots = sum_by-cons (λ (s : Spot). cond (is_in q (dir_in s.held)) 1 0) a spots

pub same-count : (q : Place) (old new : List Spot) → ((i : ℕ) → held_at (slice_get new i) ≡ held_at (slice_get old i))
    → children_in new q ≡ children_in old q
same-count q [] [] h = refl
same-count q [] (x ∷ xs) h = let e = h 0 in absurd (cc (e))
same-count q (a ∷ old) [] h = let e = h 0 in absurd (cc (e))
same-count q (a ∷ old) (x ∷ new) h =
    let e : x.held ≡ a.held = some-held x.held a.held (h 0) in
    let one : one_at q (Some x) ≡ one_at q (Some a) = ap (λ (d : Held). cond (is_in q (dir_in d)) 1 0) e in
    let rest = same-count q old new (λ i. h (suc i)) in
    let l = children-cons q x new in
    let r = children-cons q a old in
    omega (arith, one, rest, l, r)

-- a spot more, or another in the place of one
pub put-count : (q : Place) (old new : List Spot) (i : ℕ) (s : Spot) → slice_get new i ≡ Some s
    → ((j : ℕ) → (j ≡ i → ⊥) → slice_get new j ≡ slice_get old j)
    → children_in new q + one_at q (slice_get old i) ≡ children_in old q + one_at q (Some s)
put-count q [] [] i s here others = absurd (cc (here))
put-count q [] (x ∷ []) zero s here others =
    let e : one_at q (Some x) ≡ one_at q (Some s) = ap (one_at q) here in
    let l = children-cons q x [] in
    omega (arith, e, l)
put-count q [] (x ∷ y ∷ new) zero s here others = let e = others 1 (λ e. omega (arith, e)) in absurd (cc (e))
put-count q [] (x ∷ new) (suc i) s here others = let e = others 0 (λ e. omega (arith, e)) in absurd (cc (e))
put-count q (a ∷ old) [] i s here others = absurd (cc (here))
put-count q (a ∷ old) (x ∷ new) zero s here others =
    let l = children-cons q x new in
    let r = children-cons q a old in
    let e : one_at q (Some x) ≡ one_at q (Some s) = ap (one_at q) here in
    let rest : children_in new q ≡ children_in old q = same-count q old new (λ j. ap held_at (others (suc j) (λ e. omega (arith, e)))) in
    omega (arith, e, rest, l, r)
put-count q (a ∷ old) (x ∷ new) (suc i) s here others =
    let l = children-cons q x new in
    let r = children-cons q a old in
    let e : one_at q (Some x) ≡ one_at q (Some a) = ap (one_at q) (others 0 (λ e. omega (arith, e))) in
    let rest = put-count q old new i s here (λ j ne. others (suc j) (λ e. ne (omega (arith, e)))) in
    omega (arith, e, rest, l, r)

pub zero-count : (q : Place) (spots : List Spot) → ((i : ℕ) (s : Spot) → slice_get spots i ≡ Some s → is_in q (dir_in s.held) ≡ false)
    → children_in spots q ≡ 0
zero-count q [] h = refl
zero-count q (a ∷ spots) h =
    let one : one_at q (Some a) ≡ 0 = ap (λ (b : Bool). cond b 1 0) (h 0 a refl) in
    let rest = zero-count q spots (λ i s e. h (suc i) s e) in
    let l = children-cons q a spots in
    omega (arith, one, rest, l)

none-here : (b : Bool) (n : ℕ) → cond b 1 0 + n ≡ 0 → (b ≡ false) × (n ≡ 0)
none-here true n e = absurd (omega (arith, e))
none-here false n e = (refl, omega (arith, e))

pub none-in : (q : Place) (spots : List Spot) (i : ℕ) (s : Spot) → children_in spots q ≡ 0 → slice_get spots i ≡ Some s
    → is_in q (dir_in s.held) ≡ false
none-in q [] i s h e = absurd (cc (e))
none-in q (a ∷ spots) zero s h e =
    ap (λ (x : Spot). is_in q (dir_in x.held)) (some-spot s a (sym e)) ∙ (none-here (is_in q (dir_in a.held)) (children_in spots q) (sym (children-cons q a spots) ∙ h)).0
none-in q (a ∷ spots) (suc i) s h e = none-in q spots i s (none-here (is_in q (dir_in a.held)) (children_in spots q) (sym (children-cons q a spots) ∙ h)).1 e

-- a spot whose directory is in the one at a place
pub record SomeIn (q : Place) (spots : List Spot) : Type 0 where
  pub index : ℕ
  pub spot : Spot
  pub at : slice_get spots index ≡ Some spot
  pub inside : is_in q (dir_in spot.held) ≡ true

some-step : (q : Place) (a : Spot) (spots : List Spot) → ((children_in spots q ≡ 0 → ⊥) → SomeIn q spots)
    → (children_in (a ∷ spots) q ≡ 0 → ⊥) → (b : Bool) → is_in q (dir_in a.held) ≡ b → SomeIn q (a ∷ spots)
some-step q a spots more h true e = record { index = 0; spot = a; at = refl; inside = e }
some-step q a spots more h false e =
    let one : one_at q (Some a) ≡ 0 = ap (λ (b : Bool). cond b 1 0) e in
    let l = children-cons q a spots in
    let r = more (λ z. h (omega (arith, one, l, z))) in
    record { index = suc r.index; spot = r.spot; at = r.at; inside = r.inside }

pub some-in : (q : Place) (spots : List Spot) → (children_in spots q ≡ 0 → ⊥) → SomeIn q spots
some-in q [] h = absurd (h refl)
some-in q (a ∷ spots) h = some-step q a spots (some-in q spots) h (is_in q (dir_in a.held)) refl

-- Which place a directory is in.

pub place-is : (a b : Place) → a.index ≡ b.index → a.serial ≡ b.serial → a ≡ b
place-is a b index serial =
    let make : ℕ → ℕ → Place = λ i k. record { index = i; serial = k } in
    ap (λ (i : ℕ). make i a.serial) index ∙ ap (make b.index) serial

some-place : (a b : Place) → a ≡ b → Some a ≡ Some b
some-place a b e = ap Some e

pub is_place-true : (q : Place) (o : Option Place) → is_place q o ≡ true → o ≡ Some q
is_place-true q None e = absurd (cc (e))
is_place-true q (Some p) e =
    let parts = and_parts (p.index == q.index) (p.serial == q.serial) e in
    some-place p q (place-is p q (eqb-true p.index q.index parts.0) (eqb-true p.serial q.serial parts.1))

pub is_place-same : (q : Place) (o : Option Place) → o ≡ Some q → is_place q o ≡ true
is_place-same q None e = absurd (cc (e))
is_place-same q (Some p) e =
    let same : p ≡ q = cc in
    and_from (p.index == q.index) (p.serial == q.serial) (eq-eqb p.index q.index (ap (λ (x : Place). x.index) same))
    (eq-eqb p.serial q.serial (ap (λ (x : Place). x.serial) same))

-- a directory is in the one at a place
pub record InPlace (q : Place) (o : Option Entered) : Type 0 where
  pub dir : Entered
  pub is : o ≡ Some dir
  pub parent : dir.parent ≡ Some q

pub is_in-true : (q : Place) (o : Option Entered) → is_in q o ≡ true → InPlace q o
is_in-true q None e = absurd (cc (e))
is_in-true q (Some dir) e = record { dir = dir; is = refl; parent = is_place-true q dir.parent e }

-- a spot after a count
pub record Recounts (parent : Option Place) (n i : ℕ) (o : Option Spot) (s : Spot) : Type 0 where
  pub was : Spot
  pub at : o ≡ Some was
  pub serial : s.serial ≡ was.serial
  pub held : s.held ≡ was.held
  pub children : s.children ≡ cond (is_place (record { index = i; serial = was.serial }) parent) n was.children

recount-by : (parent : Option Place) (n i : ℕ) (was : Spot) (b : Bool) → is_place (record { index = i; serial = was.serial }) parent ≡ b
    → (s : Spot) → s ≡ cond b (record was { children = n }) was → Recounts parent n i (Some was) s
recount-by parent n i was true is s e = record {
  was = was;
  at = refl;
  serial = ap (λ (x : Spot). x.serial) e;
  held = ap (λ (x : Spot). x.held) e;
  children = ap (λ (x : Spot). x.children) e ∙ ap (λ (c : Bool). cond c n was.children) (sym is);
}
recount-by parent n i was false is s e = record {
  was = was;
  at = refl;
  serial = ap (λ (x : Spot). x.serial) e;
  held = ap (λ (x : Spot). x.held) e;
  children = ap (λ (x : Spot). x.children) e ∙ ap (λ (c : Bool). cond c n was.children) (sym is);
}

pub recounts : (parent : Option Place) (n i : ℕ) (o : Option Spot) (s : Spot) → counted_at parent n i o ≡ Some s → Recounts parent n i o s
recounts parent n i None s e = absurd (cc (e))
recounts parent n i (Some was) s e =
    recount-by parent n i was (is_place (record { index = i; serial = was.serial }) parent) refl s (some-spot s _ (sym e))

held-by : (was : Spot) (n : ℕ) (b : Bool) → held_at (Some (cond b (record was { children = n }) was)) ≡ held_at (Some was)
held-by was n true = refl
held-by was n false = refl

pub recount-held : (parent : Option Place) (n i : ℕ) (o : Option Spot) → held_at (counted_at parent n i o) ≡ held_at o
recount-held parent n i None = refl
recount-held parent n i (Some was) = held-by was n (is_place (record { index = i; serial = was.serial }) parent)

-- where a directory is put: there, or as before
pub put-view : (old : List Spot) (index : ℕ) (spot : Spot) (new : List Spot) → IsPut old index spot new → (i : ℕ) (s : Spot)
    → slice_get new i ≡ Some s → ((i ≡ index) × (s ≡ spot)) ⊎ ((i ≢ index) × (slice_get old i ≡ Some s))
put-view old index spot new put i s at = elim (eqb_tells i index) [
  | inl e ↦ inl (e.1, some-spot s spot (sym at ∙ (ap (slice_get new) e.1 ∙ put.here)))
  | inr e ↦ inr (e.1, sym (put.others i e.1) ∙ at)
]

bool-cases : (P : Type 0) (b : Bool) → (b ≡ true → P) → (b ≡ false → P) → P
bool-cases P true f g = f refl
bool-cases P false f g = g refl

pub not-true : (b : Bool) → (b ≡ true → ⊥) → b ≡ false
not-true true f = absurd (f refl)
not-true false f = refl

-- the spot of the directory that one is in
pub record Around (spots : List Spot) (p : Place) (n : ℕ) : Type 0 where
  pub spot : Spot
  pub at : slice_get spots p.index ≡ Some spot
  pub serial : spot.serial ≡ p.serial
  pub more : n ≡ spot.children + 1

-- A directory more.
module _ (spots put counted : List Spot) (serial index n : ℕ) (dir : Entered) (was : IsCounted spots serial)
    (vacant : dir_of (slice_get spots index) ≡ None)
    (puts : IsPut spots index (record { serial = serial + 1; children = 0; held = Holds dir }) put)
    (inside : (p : Place) → dir.parent ≡ Some p → Around spots p n)
    (counts : (i : ℕ) → slice_get counted i ≡ counted_at dir.parent n i (slice_get put i)) where
  count-more : (q : Place) → children_in counted q ≡ children_in spots q + cond (is_place q dir.parent) 1 0
  count-more q =
      let same = same-count q put counted (λ i. ap held_at (counts i) ∙ recount-held dir.parent n i (slice_get put i)) in
      let more = put-count q spots put index (record { serial = serial + 1; children = 0; held = Holds dir }) puts.here puts.others in
      let none : one_at q (slice_get spots index) ≡ 0 = ap (λ (o : Option Entered). cond (is_in q o) 1 0) vacant in
      omega (arith, same, more, none)

  -- no directory is in the one with the next serial
  none-yet : (i : ℕ) → children_in spots (record { index = i; serial = serial + 1 }) ≡ 0
  none-yet i = zero-count (record { index = i; serial = serial + 1 }) spots
      (λ j s at. not-true (is_in (record { index = i; serial = serial + 1 }) (dir_in s.held))
      (λ e. let r = is_in-true (record { index = i; serial = serial + 1 }) (dir_in s.held) e in
      let le = was.around j s r.dir (record { index = i; serial = serial + 1 }) at r.is r.parent in
      omega (arith, le)))

  around-within : (p : Place) → dir.parent ≡ Some p → p.serial ≤ serial
  around-within p e = let a = inside p e in let le = was.handed p.index a.spot a.at in omega (arith, le, a.serial)

  count-new : (i : ℕ) (s : Spot) (r : Recounts dir.parent n i (slice_get put i) s) → (i ≡ index)
      × (r.was ≡ record { serial = serial + 1; children = 0; held = Holds dir })
      → s.children ≡ children_in counted (record { index = i; serial = r.was.serial })
  count-new i s r (e, is) =
      let own : r.was.serial ≡ serial + 1 = ap (λ (x : Spot). x.serial) is in
      let none : r.was.children ≡ 0 = ap (λ (x : Spot). x.children) is in
      let other : is_place (record { index = i; serial = r.was.serial }) dir.parent ≡ false =
      not-true _ (λ t. let le = around-within (record { index = i; serial = r.was.serial }) (is_place-true _ dir.parent t) in omega (arith, le, own)) in
      let count = count-more (record { index = i; serial = r.was.serial }) in
      let kept : s.children ≡ r.was.children = r.children ∙ ap (λ (b : Bool). cond b n r.was.children) other in
      let zero : children_in spots (record { index = i; serial = r.was.serial }) ≡ 0 =
      subst (λ (k : ℕ). children_in spots (record { index = i; serial = k }) ≡ 0) (sym own) (none-yet i) in
      let bit : cond {A = ℕ} (is_place (record { index = i; serial = r.was.serial }) dir.parent) 1 0 ≡ 0 = ap (λ (b : Bool). cond {A = ℕ} b 1 0) other in
      omega (arith, count, kept, none, zero, bit)

  count-old : (i : ℕ) (s : Spot) (r : Recounts dir.parent n i (slice_get put i) s) → slice_get spots i ≡ Some r.was
      → s.children ≡ children_in counted (record { index = i; serial = r.was.serial })
  count-old i s r at =
      let q : Place = record { index = i; serial = r.was.serial } in
      let count = count-more q in
      let before = was.counted i r.was at in
      bool-cases (s.children ≡ children_in counted q) (is_place q dir.parent)
      (λ t. let a = inside q (is_place-true q dir.parent t) in
      let same : a.spot ≡ r.was = some-spot a.spot r.was (sym a.at ∙ at) in
      let own : s.children ≡ n = r.children ∙ ap (λ (b : Bool). cond b n r.was.children) t in
      let more : n ≡ r.was.children + 1 = a.more ∙ ap (λ (x : Spot). x.children + 1) same in
      let bit : cond {A = ℕ} (is_place q dir.parent) 1 0 ≡ 1 = ap (λ (b : Bool). cond {A = ℕ} b 1 0) t in
      omega (arith, count, before, own, more, bit))
      (λ f. let own : s.children ≡ r.was.children = r.children ∙ ap (λ (b : Bool). cond b n r.was.children) f in
      let bit : cond {A = ℕ} (is_place q dir.parent) 1 0 ≡ 0 = ap (λ (b : Bool). cond {A = ℕ} b 1 0) f in
      omega (arith, count, before, own, bit))

  pub counted-added : IsCounted counted (serial + 1)
  counted-added = record {
    handed = λ i s at.
        let r = recounts dir.parent n i (slice_get put i) s (sym (counts i) ∙ at) in
        elim (put-view spots index _ put puts i r.was r.at) [
          | inl e ↦ let own : r.was.serial ≡ serial + 1 = ap (λ (x : Spot). x.serial) e.1 in let same = r.serial in omega (arith, same, own)
          | inr e ↦ let le = was.handed i r.was e.1 in let same = r.serial in omega (arith, le, same)
        ];
    around = λ i s d p at holds parent.
        let r = recounts dir.parent n i (slice_get put i) s (sym (counts i) ∙ at) in
        let here : dir_in r.was.held ≡ Some d = sym (ap dir_in r.held) ∙ holds in
        elim (put-view spots index _ put puts i r.was r.at) [
          | inl e ↦
              let own : Some dir ≡ Some d = sym (ap (λ (x : Spot). dir_in x.held) e.1) ∙ here in
              let same : dir ≡ d = cc (own) in
              let le = around-within p (ap (λ (x : Entered). x.parent) same ∙ parent) in
              omega (arith, le)
          | inr e ↦ let le = was.around i r.was d p e.1 here parent in omega (arith, le)
        ];
    counted = λ i s at.
        let r = recounts dir.parent n i (slice_get put i) s (sym (counts i) ∙ at) in
        subst (λ (k : ℕ). s.children ≡ children_in counted (record { index = i; serial = k })) (sym r.serial)
        (elim (put-view spots index _ put puts i r.was r.at) [
          | inl e ↦ count-new i s r e
          | inr e ↦ count-old i s r e.1
        ]);
  }

-- A directory less.
module _ (spots put counted : List Spot) (serial n : ℕ) (place : Place) (dir : Entered) (own : Spot) (free : Option ℕ)
    (was : IsCounted spots serial) (at : slice_get spots place.index ≡ Some own) (mine : own.serial ≡ place.serial)
    (holds : dir_in own.held ≡ Some dir)
    (puts : IsPut spots place.index (record { serial = place.serial; children = own.children; held = Free free }) put)
    (inside : (p : Place) (s : Spot) → dir.parent ≡ Some p → slice_get spots p.index ≡ Some s → n ≡ s.children - 1)
    (counts : (i : ℕ) → slice_get counted i ≡ counted_at dir.parent n i (slice_get put i)) where
  count-less : (q : Place) → children_in counted q + cond (is_place q dir.parent) 1 0 ≡ children_in spots q
  count-less q =
      let same = same-count q put counted (λ i. ap held_at (counts i) ∙ recount-held dir.parent n i (slice_get put i)) in
      let less = put-count q spots put place.index (record { serial = place.serial; children = own.children; held = Free free }) puts.here puts.others in
      let one : one_at q (slice_get spots place.index) ≡ cond (is_place q dir.parent) 1 0 =
      ap (λ (o : Option Spot). one_at q o) at ∙ ap (λ (o : Option Entered). cond (is_in q o) 1 0) holds in
      omega (arith, same, less, one)

  -- what stood at a number
  record Stood (i : ℕ) (s : Spot) : Type 0 where
    spot : Spot
    there : slice_get spots i ≡ Some spot
    serials : s.serial ≡ spot.serial
    number : s.children ≡ spot.children

  stood : (i : ℕ) (s : Spot) → slice_get put i ≡ Some s → Stood i s
  stood i s e = elim (put-view spots place.index _ put puts i s e) [
    | inl h ↦ record {
      spot = own;
      there = ap (slice_get spots) h.0 ∙ at;
      serials = ap (λ (x : Spot). x.serial) h.1 ∙ sym mine;
      number = ap (λ (x : Spot). x.children) h.1;
    }
    | inr h ↦ record { spot = s; there = h.1; serials = refl; number = refl }
  ]

  count-left : (i : ℕ) (s : Spot) (r : Recounts dir.parent n i (slice_get put i) s)
      → s.children ≡ children_in counted (record { index = i; serial = r.was.serial })
  count-left i s r =
      let q : Place = record { index = i; serial = r.was.serial } in
      let before = stood i r.was r.at in
      let count = count-less q in
      let number : r.was.children ≡ children_in spots q =
      before.number ∙ (was.counted i before.spot before.there
      ∙ ap (λ (k : ℕ). children_in spots (record { index = i; serial = k })) (sym before.serials)) in
      bool-cases (s.children ≡ children_in counted q) (is_place q dir.parent)
      (λ t. let less : n ≡ before.spot.children - 1 = inside q before.spot (is_place-true q dir.parent t) before.there in
      let now : s.children ≡ n = r.children ∙ ap (λ (b : Bool). cond b n r.was.children) t in
      let bit : cond {A = ℕ} (is_place q dir.parent) 1 0 ≡ 1 = ap (λ (b : Bool). cond {A = ℕ} b 1 0) t in
      let same = before.number in
      omega (arith, count, number, less, now, bit, same))
      (λ f. let now : s.children ≡ r.was.children = r.children ∙ ap (λ (b : Bool). cond b n r.was.children) f in
      let bit : cond {A = ℕ} (is_place q dir.parent) 1 0 ≡ 0 = ap (λ (b : Bool). cond {A = ℕ} b 1 0) f in
      omega (arith, count, number, now, bit))

  pub counted-left : IsCounted counted serial
  counted-left = record {
    handed = λ i s e.
        let r = recounts dir.parent n i (slice_get put i) s (sym (counts i) ∙ e) in
        let before = stood i r.was r.at in
        let le = was.handed i before.spot before.there in
        let a = r.serial in
        let b = before.serials in
        omega (arith, le, a, b);
    around = λ i s d p e holds' parent.
        let r = recounts dir.parent n i (slice_get put i) s (sym (counts i) ∙ e) in
        let here : dir_in r.was.held ≡ Some d = sym (ap dir_in r.held) ∙ holds' in
        elim (put-view spots place.index _ put puts i r.was r.at) [
          | inl h ↦ let none : dir_in r.was.held ≡ None = ap (λ (x : Spot). dir_in x.held) h.1 in absurd (cc (none, here))
          | inr h ↦ was.around i r.was d p h.1 here parent
        ];
    counted = λ i s e.
        let r = recounts dir.parent n i (slice_get put i) s (sym (counts i) ∙ e) in
        subst (λ (k : ℕ). s.children ≡ children_in counted (record { index = i; serial = k })) (sym r.serial) (count-left i s r);
  }
