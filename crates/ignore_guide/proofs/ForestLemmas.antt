-- The levels of the directories that were entered, once one more was, and once one was left.
use Rattle.std.proofs.Common.{◌≡◌, ◌≢◌, ℕ, zero, suc, ◌<◌, ◌≤◌, Bool, true, false, All, List, Option, None, Some, ◌⊎◌, inl, inr}
use Rattle.std.proofs.Common.{refl, sym, ap, subst, ◌∙◌, arith}
use Rattle.std.proofs.lemmas.Bool.Decides.{eqb_tells}
use Rattle.ignore_dir.specs.Lists.{Placed}
use Rattle.ignore_dir.specs.Steps.{Reached}
use Rattle.ignore_dir.specs.declared.dir.Dir.{Dir}
use Rattle.ignore_levels.specs.Levels.{HasLevel, IsAdded, IsBranch, IsChain, Keeps, Passes, counting, counts, floor_at, floor_of, level_at}
use Rattle.ignore_levels.specs.Levels.IsChain.{no_level, a_level}
use Rattle.ignore_levels.specs.Levels.Passes.{itself, above}
use Rattle.ignore_levels.specs.declared.list.Level.{Level}
use Rattle.ignore_levels.specs.declared.list.Place.{Place as LevelPlace}
use Rattle.ignore_levels.specs.declared.list.Slot.{Slot}
use Rattle.ignore_levels.proofs.ChainLemmas.{chain-kept}
use Rattle.ignore_levels.proofs.PassLemmas.{passed-level, passes-back}
use Rattle.ignore_guide.specs.Forest.{IsForest, IsWithin, Owns, Stands}
use Rattle.ignore_guide.specs.Forest.Owns.{first, next}
use Rattle.ignore_guide.specs.Places.{IsIn, IsSamePlaces, KeepsOthers, entered_at}
use Rattle.ignore_guide.specs.Settle.{AreFresh}
use Rattle.ignore_guide.specs.declared.places.Entered.{Entered}
use Rattle.ignore_guide.specs.declared.places.Place.{Place}
use Rattle.ignore_guide.specs.declared.places.Places.{Places}
use Rattle.ignore_guide.proofs.FreeLemmas.{owns-kept}
use Rattle.ignore_guide.proofs.PlaceLemmas.{place-tells}

pub some-entered : (a b : Entered) → Some a ≡ Some b → a ≡ b
some-entered a b e = cc

level-is : (a b : LevelPlace) → a.index ≡ b.index → a ≡ b
level-is a b e = let make : ℕ → LevelPlace = λ i. record { index = i } in ap make e

some-level : (a b : LevelPlace) → Some a ≡ Some b → a ≡ b
some-level a b e = cc

-- two places in the list of levels are the same or not
level-tells : (a b : Option LevelPlace) → (a ≡ b) ⊎ (a ≢ b)
level-tells None None = inl refl
level-tells None (Some b) = inr (λ e. absurd (cc (e)))
level-tells (Some a) None = inr (λ e. absurd (cc (e)))
level-tells (Some a) (Some b) = elim (eqb_tells a.index b.index) [
  | inl e ↦ inl (ap Some (level-is a b e.1))
  | inr e ↦ inr (λ same. e.1 (ap (λ (x : LevelPlace). x.index) (some-level a b same)))
]

-- What a directory's level passes goes with it, or the level around it passes it.
pub split : (slots : List Slot) (floor : Option LevelPlace) {from : Option LevelPlace} {l : LevelPlace} → Passes slots from l
    → Owns slots floor from l ⊎ Passes slots floor l
split slots floor (itself {place}) = elim (level-tells (Some place) floor) [
  | inl e ↦ inr (subst (λ (o : Option LevelPlace). Passes slots o place) e itself)
  | inr ne ↦ inl (first ne)
]
split slots floor (above {place} {passed} {level} e rest) = elim (level-tells (Some place) floor) [
  | inl s ↦ inr (subst (λ (o : Option LevelPlace). Passes slots o passed) s (above e rest))
  | inr ne ↦ elim (split slots floor rest) [
    | inl o ↦ inl (next ne e o)
    | inr p ↦ inr p
  ]
]

pub owns-passes : {slots : List Slot} {floor from : Option LevelPlace} {l : LevelPlace} → Owns slots floor from l → Passes slots from l
owns-passes (first ne) = itself
owns-passes (next ne e rest) = above e (owns-passes rest)

owns-none : {slots : List Slot} {floor from : Option LevelPlace} {l : LevelPlace} → Owns slots floor from l → from ≢ floor
owns-none (first ne) = ne
owns-none (next ne e rest) = ne

-- what goes with a directory in a list that grew, went with it before
pub owns-back : (old new : List Slot) → Keeps old new → (floor from : Option LevelPlace) (chain : List Placed) (l : LevelPlace)
    → IsChain old from chain → Owns new floor from l → Owns old floor from l
owns-back old new keeps floor _ _ l no_level owns = elim owns [ ]
owns-back old new keeps floor _ _ l (a_level e below ruled mark rest) (first ne) = first ne
owns-back old new keeps floor _ _ l (a_level {place = here} {level = level} {chain = tail} e below ruled mark rest) (next {level = other} ne f more) =
    let same : other ≡ level = cc (f, keeps here level e) in
    next ne e (owns-back old new keeps floor level.parent tail l rest (subst (λ (x : Level). Owns new floor x.parent l) same more))

pub record HasSome (slots : List Slot) (l : LevelPlace) : Type 0 where
  pub level : Level
  pub is : level_at slots l ≡ Some level

pub has-some : (slots : List Slot) (place : Option LevelPlace) (chain : List Placed) (l : LevelPlace) → IsChain slots place chain
    → Passes slots place l → HasSome slots l
has-some slots _ _ l no_level passes = elim passes [ ]
has-some slots _ _ _ (a_level {level = level} e below ruled mark rest) itself = record { level = level; is = e }
has-some slots _ _ l (a_level {level = level} {chain = tail} e below ruled mark rest) (above {level = other} f more) =
    let same : other ≡ level = cc (f, e) in
    has-some slots level.parent tail l rest (subst (λ (x : Level). Passes slots x.parent l) same more)

passes-none : {slots : List Slot} {from : Option LevelPlace} {l : LevelPlace} → Passes slots from l → from ≢ None
passes-none itself e = absurd (cc (e))
passes-none (above e rest) f = absurd (cc (f))

-- A directory without any in it.
module _ (slots : List Slot) (places : Places) (forest : IsForest slots places) (p : Place) (dir : Entered)
    (there : entered_at places p ≡ Some dir) (none : (child : Place) → IsIn places p child → ⊥) where
  apart-step : (n : ℕ) → ((o : Place) (stays : Entered) (l : LevelPlace) → entered_at places o ≡ Some stays → stays.depth < n → o ≢ p
      → Owns slots dir.around dir.level l → Passes slots stays.level l → ⊥)
      → (o : Place) (stays : Entered) (l : LevelPlace) → entered_at places o ≡ Some stays → stays.depth < suc n → o ≢ p
      → Owns slots dir.around dir.level l → Passes slots stays.around l → (parent : Option Place) → stays.parent ≡ parent → ⊥
  apart-step n more o stays l at lt ne owns passes None is = passes-none passes (forest.top o stays at is)
  apart-step n more o stays l at lt ne owns passes (Some q) is =
      let w = forest.inner o stays q at is in
      let deeper = w.deeper in
      more q w.outer l w.there (omega (arith, lt, deeper))
      (λ same. none o (stays, at, is ∙ ap Some same)) owns
      (subst (λ (x : Option LevelPlace). Passes slots x l) w.around passes)

  -- no other passes what goes with it
  apart-by : (n : ℕ) (o : Place) (stays : Entered) (l : LevelPlace) → entered_at places o ≡ Some stays → stays.depth < n → o ≢ p
      → Owns slots dir.around dir.level l → Passes slots stays.level l → ⊥
  apart-by zero o stays l at lt ne owns passes = absurd (omega (arith, lt))
  apart-by (suc n) o stays l at lt ne owns passes = elim (split slots stays.around passes) [
    | inl mine ↦ forest.apart o p stays dir l ne at there mine owns
    | inr far ↦ apart-step n (apart-by n) o stays l at lt ne owns far stays.parent refl
  ]

  pub apart-all : (o : Place) (stays : Entered) (l : LevelPlace) → entered_at places o ≡ Some stays → o ≢ p
      → Owns slots dir.around dir.level l → Passes slots stays.level l → ⊥
  apart-all o stays l at ne owns passes = apart-by (suc stays.depth) o stays l at (omega arith) ne owns passes

stands-by : (old new : List Slot) (dir : Entered) (at : Reached) → (IsChain old dir.level (counting at.chain) → IsChain new dir.level (counting at.chain))
    → Stands old dir at → Stands new dir at
stands-by old new dir at keeps s = record { chain = keeps s.chain; inside = s.inside; text = s.text; path = s.path }

-- A directory is left, and what goes with it.
module _ (old new : List Slot) (before after : Places) (forest : IsForest old before) (p : Place) (dir : Entered)
    (there : entered_at before p ≡ Some dir) (none : (child : Place) → IsIn before p child → ⊥) (keeps : Keeps new old)
    (kept : (other : Option LevelPlace) (chain : List Placed) → IsChain old other chain
    → ((owned : LevelPlace) → Owns old dir.around dir.level owned → Passes old other owned → ⊥) → IsChain new other chain)
    (others : KeepsOthers p before after) (gone : entered_at after p ≡ None) where
  pub chain-left : (o : Place) (stays : Entered) (chain : List Placed) → entered_at before o ≡ Some stays → o ≢ p
      → IsChain old stays.level chain → IsChain new stays.level chain
  chain-left o stays chain at ne is =
      kept stays.level chain is (λ l owns passes. apart-all old before forest p dir there none o stays l at ne owns passes)

  not-left : (o : Place) (e : Entered) → entered_at after o ≡ Some e → o ≢ p
  not-left o e at same = let none' : entered_at after o ≡ None = ap (entered_at after) same ∙ gone in absurd (cc (at, none'))

  was-left : (o : Place) (e : Entered) → entered_at after o ≡ Some e → entered_at before o ≡ Some e
  was-left o e at = sym (others o (not-left o e at)) ∙ at

  pub forest-left : IsForest new after
  forest-left = record {
    alive = λ o e at.
        let s = forest.alive o e (was-left o e at) in
        (s.0, stands-by old new e s.0 (chain-left o e (counting s.0.chain) (was-left o e at) (not-left o e at)) s.1);
    top = λ o e at. forest.top o e (was-left o e at);
    inner = λ o e q at is.
        let w = forest.inner o e q (was-left o e at) is in
        record {
          outer = w.outer;
          there = others q (λ same. none o (e, was-left o e at, is ∙ ap Some same)) ∙ w.there;
          around = w.around;
          deeper = w.deeper;
        };
    apart = λ one other d s l ne a b x y.
        forest.apart one other d s l ne (was-left one d a) (was-left other s b) (owns-kept keeps d.around x) (owns-kept keeps s.around y);
  }

-- No directory was entered.
pub forest-empty : (slots : List Slot) (places : Places) → ((p : Place) → entered_at places p ≡ None) → IsForest slots places
forest-empty slots places none = record {
  alive = λ o e at. let n = none o in absurd (cc (at, n));
  top = λ o e at is. let n = none o in absurd (cc (at, n));
  inner = λ o e q at is. let n = none o in absurd (cc (at, n));
  apart = λ one other d s l ne a b x y. let n = none one in cc (a, n);
}

-- The list of levels grew.
pub forest-grown : (old new : List Slot) (before after : Places) → IsForest old before → Keeps old new → IsSamePlaces before after
    → IsForest new after
forest-grown old new before after forest keeps same = record {
  alive = λ o e at.
      let s = forest.alive o e (sym (same o) ∙ at) in
      (s.0, stands-by old new e s.0 (chain-kept old new keeps) s.1);
  top = λ o e at. forest.top o e (sym (same o) ∙ at);
  inner = λ o e q at is.
      let w = forest.inner o e q (sym (same o) ∙ at) is in
      record { outer = w.outer; there = same q ∙ w.there; around = w.around; deeper = w.deeper };
  apart = λ one other d s l ne a b x y.
      let f = forest.alive one d (sym (same one) ∙ a) in
      let g = forest.alive other s (sym (same other) ∙ b) in
      forest.apart one other d s l ne (sym (same one) ∙ a) (sym (same other) ∙ b)
      (owns-back old new keeps d.around d.level (counting f.0.chain) l f.1.chain x)
      (owns-back old new keeps s.around s.level (counting g.0.chain) l g.1.chain y);
}

-- A directory is entered.
module _ (old new : List Slot) (before after : Places) (forest : IsForest old before) (keeps : Keeps old new) (p : Place) (dir : Entered)
    (vacant : entered_at before p ≡ None) (there : entered_at after p ≡ Some dir) (others : KeepsOthers p before after)
    (lives : (at : Reached) × Stands new dir at) (tops : dir.parent ≡ None → dir.around ≡ None)
    (within : (q : Place) → dir.parent ≡ Some q → IsWithin before dir q)
    (fresh : (l : LevelPlace) → Owns new dir.around dir.level l → level_at old l ≡ None) where
  -- what is at a place
  data IsAt (o : Place) (e : Entered) : Type 0 where
    entered_now : o ≡ p → e ≡ dir → IsAt o e
    entered_then : entered_at before o ≡ Some e → IsAt o e

  is-at : (o : Place) (e : Entered) → entered_at after o ≡ Some e → IsAt o e
  is-at o e at = elim (place-tells o p) [
    | inl same ↦ entered_now same (some-entered e dir (sym at ∙ (ap (entered_at after) same ∙ there)))
    | inr ne ↦ entered_then (sym (others o ne) ∙ at)
  ]

  stays : (q : Place) (e : Entered) → entered_at before q ≡ Some e → entered_at after q ≡ Some e
  stays q e at = others q (λ same. let none : entered_at before q ≡ None = ap (entered_at before) same ∙ vacant in absurd (cc (at, none))) ∙ at

  within-after : (e : Entered) (q : Place) → IsWithin before e q → IsWithin after e q
  within-after e q w = record { outer = w.outer; there = stays q w.outer w.there; around = w.around; deeper = w.deeper }

  -- what goes with one that was there isn't new
  known : (o : Place) (e : Entered) (l : LevelPlace) → entered_at before o ≡ Some e → Owns new e.around e.level l → HasSome old l
  known o e l at owns =
      let s = forest.alive o e at in
      has-some old e.level (counting s.0.chain) l s.1.chain
      (owns-passes (owns-back old new keeps e.around e.level (counting s.0.chain) l s.1.chain owns))

  apart-new : (o : Place) (e : Entered) (l : LevelPlace) → entered_at before o ≡ Some e → Owns new e.around e.level l
      → Owns new dir.around dir.level l → ⊥
  apart-new o e l at owns mine = let k = known o e l at owns in let n = fresh l mine in let is = k.is in cc (is, n)

  alive-at : (o : Place) (e : Entered) → IsAt o e → (at : Reached) × Stands new e at
  alive-at o e (entered_now same is) = subst (λ (x : Entered). (at : Reached) × Stands new x at) (sym is) lives
  alive-at o e (entered_then at) =
      let s = forest.alive o e at in
      (s.0, stands-by old new e s.0 (chain-kept old new keeps) s.1)

  top-at : (o : Place) (e : Entered) → IsAt o e → e.parent ≡ None → e.around ≡ None
  top-at o e (entered_now same is) none =
      ap (λ (x : Entered). x.around) is ∙ tops (sym (ap (λ (x : Entered). x.parent) is) ∙ none)
  top-at o e (entered_then at) none = forest.top o e at none

  inner-at : (o : Place) (e : Entered) (q : Place) → IsAt o e → e.parent ≡ Some q → IsWithin after e q
  inner-at o e q (entered_now same is) parent =
      subst (λ (x : Entered). IsWithin after x q) (sym is) (within-after dir q (within q (sym (ap (λ (x : Entered). x.parent) is) ∙ parent)))
  inner-at o e q (entered_then at) parent = within-after e q (forest.inner o e q at parent)

  apart-at : (one other : Place) (d s : Entered) (l : LevelPlace) → one ≢ other → IsAt one d → IsAt other s
      → Owns new d.around d.level l → Owns new s.around s.level l → ⊥
  apart-at one other d s l ne (entered_now a is) (entered_now b its) x y = ne (a ∙ sym b)
  apart-at one other d s l ne (entered_now a is) (entered_then b) x y =
      apart-new other s l b y (subst (λ (e : Entered). Owns new e.around e.level l) is x)
  apart-at one other d s l ne (entered_then a) (entered_now b its) x y =
      apart-new one d l a x (subst (λ (e : Entered). Owns new e.around e.level l) its y)
  apart-at one other d s l ne (entered_then a) (entered_then b) x y =
      let f = forest.alive one d a in
      let g = forest.alive other s b in
      forest.apart one other d s l ne a b
      (owns-back old new keeps d.around d.level (counting f.0.chain) l f.1.chain x)
      (owns-back old new keeps s.around s.level (counting g.0.chain) l g.1.chain y)

  pub forest-added : IsForest new after
  forest-added = record {
    alive = λ o e at. alive-at o e (is-at o e at);
    top = λ o e at. top-at o e (is-at o e at);
    inner = λ o e q at. inner-at o e q (is-at o e at);
    apart = λ one other d s l ne a b. apart-at one other d s l ne (is-at one d a) (is-at other s b);
  }

-- What goes with a directory that was added is new.

not-before : (old new : List Slot) → Keeps old new → (l : LevelPlace) → level_at new l ≡ None → (o : Option Level) → level_at old l ≡ o
    → level_at old l ≡ None
not-before old new keeps l none None e = e
not-before old new keeps l none (Some level) e = let k = keeps l level e in absurd (cc (k, none))

module _ (old new : List Slot) (dir : Dir) (around level : Option LevelPlace) (offset : ℕ) (keeps : Keeps old new)
    (added : IsAdded new dir around offset level) (branch : IsBranch old new around level) (chain : List Placed)
    (is : IsChain old around chain) where
  own-only : (own : LevelPlace) (lv : Level) (l : LevelPlace) → level_at new own ≡ Some lv → lv.parent ≡ around
      → (from : Option LevelPlace) → from ≡ Some own → Owns new around from l → l ≡ own
  own-only own lv l there below _ same (first {place} ne) = some-level place own same
  own-only own lv l there below _ same (next {place} {owned} {level = other} ne e rest) =
      let here : place ≡ own = some-level place own same in
      let at : level_at new place ≡ Some lv = ap (level_at new) here ∙ there in
      let lv_is : other ≡ lv = cc (e, at) in
      absurd (owns-none rest (ap (λ (x : Level). x.parent) lv_is ∙ below))

  own-new : (most : ℕ) → All (λ p. p.1 ≤ most) chain → most < offset → (h : HasLevel new dir around offset level)
      → level_at old h.own ≡ None
  own-new most within high h =
      elim (branch h.own (subst (λ (o : Option LevelPlace). Passes new o h.own) (sym h.same) itself)) [
        | inl none ↦ none
        | inr passes ↦
            let k = passed-level old around chain h.own most is within (passes-back old new keeps around chain h.own is passes) in
            let low = k.within in
            let same : floor_at old (Some h.own) ≡ offset = ap floor_of (k.is ∙ sym (keeps h.own k.level k.is) ∙ h.there) ∙ h.begins in
            absurd (omega (arith, low, same, high))
      ]

  owned-fresh-by : (most : ℕ) → All (λ p. p.1 ≤ most) chain → most < offset → (l : LevelPlace) → Owns new around level l
      → (b : Bool) → counts dir ≡ b → level_at old l ≡ None
  owned-fresh-by most within high l owns true c =
      let h = added.own c in
      let same : l ≡ h.own = own-only h.own h.level l h.there h.below level h.same owns in
      ap (level_at old) same ∙ own-new most within high h
  owned-fresh-by most within high l owns false c = absurd (owns-none owns (added.shared c))

  pub owned-fresh : (most : ℕ) → All (λ p. p.1 ≤ most) chain → most < offset → (l : LevelPlace) → Owns new around level l
      → level_at old l ≡ None
  owned-fresh most within high l owns = owned-fresh-by most within high l owns (counts dir) refl

-- where what is around was new too
pub fresh-more : (start old new : List Slot) → Keeps start old → Keeps old new → (around level : Option LevelPlace) (chain : List Placed)
    → IsChain old around chain → IsBranch old new around level → AreFresh start old around → AreFresh start new level
fresh-more start old new grew keeps around level chain is branch fresh l passes = elim (branch l passes) [
  | inl none ↦ not-before start old grew l none (level_at start l) refl
  | inr far ↦ fresh l (passes-back old new keeps around chain l is far)
]
