-- The chain of a place: it is one, it stays, and it leads to the nearest level with rules and with a mark.
use Rattle.std.proofs.Common.{◌≡◌, ℕ, Bool, true, false, cond, ◌||◌, List, [], ◌∷◌, Option, Some, is_some, refl, sym, ap, ◌∙◌, subst}
use Rattle.ignore_base.specs.Text.{Path}
use Rattle.ignore_dir.specs.Lists.{Placed, asked_in}
use Rattle.ignore_dir.specs.Ranks.{has_mark}
use Rattle.ignore_levels.specs.declared.list.Level.{Level}
use Rattle.ignore_levels.specs.declared.list.Place.{Place}
use Rattle.ignore_levels.specs.declared.list.Slot.{Slot}
use Rattle.ignore_levels.specs.Levels.{IsBelow, IsChain, Keeps, KeepsBut, Passes, floor_at, floor_of, from_first, has_rules, level_at, mark_at, mark_of, own_or, ruled_at, ruled_of}
use Rattle.ignore_levels.specs.Levels.IsChain.{no_level, a_level}
use Rattle.ignore_levels.specs.Levels.Passes.{itself, above}

-- a place stands for one chain
pub chain-one : (slots : List Slot) (p q : Option Place) (c d : List Placed) → p ≡ q → IsChain slots p c → IsChain slots q d → c ≡ d
chain-one slots _ _ _ _ same no_level no_level = refl
chain-one slots _ _ _ _ same no_level (a_level e below ruled mark rest) = absurd (cc (same))
chain-one slots _ _ _ _ same (a_level e below ruled mark rest) no_level = absurd (cc (same))
chain-one slots _ _ _ _ same (a_level {place = p} {level = k} {chain = c} e below ruled mark rest) (a_level {place = q} {level = l} {chain = d} f below' ruled' mark' rest') =
    let place : p ≡ q = cc in
    let level : k ≡ l = cc (e, f, ap (λ (x : Place). level_at slots x) place) in
    let tail = chain-one slots k.parent l.parent c d (ap (λ (x : Level). x.parent) level) rest rest' in
    let own : Level → List Placed = λ x. (x.dir, x.offset) ∷ c in
    let onto : List Placed → List Placed = λ t. (l.dir, l.offset) ∷ t in
    ap own level ∙ ap onto tail

module _ (old new : List Slot) (keeps : Keeps old new) where
  pub ruled-kept : {place : Option Place} {chain : List Placed} → IsChain old place chain → ruled_at old place ≡ ruled_at new place
  ruled-kept no_level = refl
  ruled-kept (a_level {place} {level} e below ruled mark rest) = ap ruled_of (e ∙ sym (keeps place level e))

  pub mark-kept : {place : Option Place} {chain : List Placed} → IsChain old place chain → mark_at old place ≡ mark_at new place
  mark-kept no_level = refl
  mark-kept (a_level {place} {level} e below ruled mark rest) = ap mark_of (e ∙ sym (keeps place level e))

  -- a chain stays where each level stays
  pub chain-kept : {place : Option Place} {chain : List Placed} → IsChain old place chain → IsChain new place chain
  chain-kept no_level = no_level
  chain-kept (a_level {place} {level} e below ruled mark rest) =
      a_level (keeps place level e) below (ruled ∙ ap (own_or (has_rules level.dir) place) (ruled-kept rest))
      (mark ∙ ap (own_or level.dir.mark place) (mark-kept rest)) (chain-kept rest)

apart-here : (slots : List Slot) (place freed : Place) → (Passes slots (Some place) freed → ⊥) → place ≡ freed → ⊥
apart-here slots place freed apart same = apart (subst (λ (p : Place). Passes slots (Some place) p) same itself)

module _ (old new : List Slot) (freed : Place) (keeps : KeepsBut freed old new) where
  ruled-kept_but : {place : Option Place} {chain : List Placed} → IsChain old place chain → (Passes old place freed → ⊥)
      → ruled_at old place ≡ ruled_at new place
  ruled-kept_but no_level apart = refl
  ruled-kept_but (a_level {place} {level} e below ruled mark rest) apart =
      ap ruled_of (e ∙ sym (keeps place level (apart-here old place freed apart) e))

  mark-kept_but : {place : Option Place} {chain : List Placed} → IsChain old place chain → (Passes old place freed → ⊥)
      → mark_at old place ≡ mark_at new place
  mark-kept_but no_level apart = refl
  mark-kept_but (a_level {place} {level} e below ruled mark rest) apart =
      ap mark_of (e ∙ sym (keeps place level (apart-here old place freed apart) e))

  -- a chain that doesn't pass a level stays where all other levels stay
  pub chain-kept_but : {place : Option Place} {chain : List Placed} → IsChain old place chain → (Passes old place freed → ⊥)
      → IsChain new place chain
  chain-kept_but no_level apart = no_level
  chain-kept_but (a_level {place} {level} e below ruled mark rest) apart =
      a_level (keeps place level (apart-here old place freed apart) e) below
      (ruled ∙ ap (own_or (has_rules level.dir) place) (ruled-kept_but rest (λ p. apart (above e p))))
      (mark ∙ ap (own_or level.dir.mark place) (mark-kept_but rest (λ p. apart (above e p))))
      (chain-kept_but rest (λ p. apart (above e p)))

-- what a level adds to the chain of its parent
pub record Opened (slots : List Slot) (level : Level) (chain : List Placed) : Type 0 where
  pub tail : List Placed
  pub is : chain ≡ (level.dir, level.offset) ∷ tail
  pub below : IsBelow level.offset tail
  pub parent : IsChain slots level.parent tail

pub opened : (slots : List Slot) (place : Place) (level : Level) (chain : List Placed) → level_at slots place ≡ Some level
    → IsChain slots (Some place) chain → Opened slots level chain
opened slots _ level _ at (a_level {place} {level = own} {chain = tail} e below ruled mark rest) =
    let same : own ≡ level = cc (e, at) in
    let head : Level → List Placed = λ x. (x.dir, x.offset) ∷ tail in
    record {
      tail = tail;
      is = ap head same;
      below = subst (λ (x : Level). IsBelow x.offset tail) same below;
      parent = subst (λ (x : Level). IsChain slots x.parent tail) same rest;
    }

-- offsets decrease from the nearest on
abbrev pub Descends : List Placed → Type 0
Descends [] = Unit {0}
Descends (p ∷ chain) = IsBelow p.1 chain × Descends chain

pub chain-descends : {slots : List Slot} {place : Option Place} {chain : List Placed} → IsChain slots place chain → Descends chain
chain-descends no_level = tt
chain-descends (a_level e below ruled mark rest) = (below, chain-descends rest)

-- a chain from its nearest directory with rules on
abbrev pub from_ruled : List Placed → List Placed
from_ruled chain = from_first has_rules chain

first-step : (slots : List Slot) (place over : Option Place) (own chain : List Placed) → IsChain slots place own → IsChain slots over chain
    → (b : Bool) → IsChain slots (cond b place over) (cond b own chain)
first-step slots place over own chain one other true = one
first-step slots place over own chain one other false = other

-- the nearest level with rules stands for the chain from it on
pub chain-ruled : (slots : List Slot) {place : Option Place} {chain : List Placed} → IsChain slots place chain
    → IsChain slots (ruled_at slots place) (from_first has_rules chain)
chain-ruled slots no_level = no_level
chain-ruled slots (a_level {place} {level} {chain} e below ruled mark rest) =
    subst (λ (p : Option Place). IsChain slots p (from_first has_rules ((level.dir, level.offset) ∷ chain))) (sym (ap ruled_of e ∙ ruled))
    (first-step slots (Some place) (ruled_at slots level.parent) ((level.dir, level.offset) ∷ chain) (from_first has_rules chain)
    (a_level e below ruled mark rest) (chain-ruled slots rest) (has_rules level.dir))

-- the nearest level with a mark stands for the chain from it on
pub chain-mark : (slots : List Slot) {place : Option Place} {chain : List Placed} → IsChain slots place chain
    → IsChain slots (mark_at slots place) (from_first (λ d. d.mark) chain)
chain-mark slots no_level = no_level
chain-mark slots (a_level {place} {level} {chain} e below ruled mark rest) =
    subst (λ (p : Option Place). IsChain slots p (from_first (λ d. d.mark) ((level.dir, level.offset) ∷ chain))) (sym (ap mark_of e ∙ mark))
    (first-step slots (Some place) (mark_at slots level.parent) ((level.dir, level.offset) ∷ chain) (from_first (λ d. d.mark) chain)
    (a_level e below ruled mark rest) (chain-mark slots rest) level.dir.mark)

-- the offset of the nearest directory with a mark, and 0 for none
abbrev pub marked : List Placed → ℕ
marked [] = 0
marked (p ∷ chain) = cond p.0.mark p.1 (marked chain)

floor-step : (slots : List Slot) (place over : Option Place) (m n : ℕ) → floor_at slots place ≡ m → floor_at slots over ≡ n → (b : Bool)
    → floor_at slots (cond b place over) ≡ cond b m n
floor-step slots place over m n one other true = one
floor-step slots place over m n one other false = other

-- the nearest level with a mark has the offset of the nearest directory with one
pub chain-floor : (slots : List Slot) {place : Option Place} {chain : List Placed} → IsChain slots place chain
    → floor_at slots (mark_at slots place) ≡ marked chain
chain-floor slots no_level = refl
chain-floor slots (a_level {place} {level} {chain} e below ruled mark rest) =
    ap (λ (p : Option Place). floor_at slots p) (ap mark_of e ∙ mark)
    ∙ floor-step slots (Some place) (mark_at slots level.parent) level.offset (marked chain) (ap floor_of e) (chain-floor slots rest) level.dir.mark

some-step : (place : Place) (over : Option Place) (has : Bool) → is_some over ≡ has → (b : Bool) → is_some (cond b (Some place) over) ≡ b || has
some-step place over has same true = refl
some-step place over has same false = same

-- some directory of a chain has a mark if its place has a nearest one
pub chain-has_mark : (slots : List Slot) (text : Path) {place : Option Place} {chain : List Placed} → IsChain slots place chain
    → is_some (mark_at slots place) ≡ has_mark (asked_in text chain)
chain-has_mark slots text no_level = refl
chain-has_mark slots text (a_level {place} {level} {chain} e below ruled mark rest) =
    ap (λ (p : Option Place). is_some p) (ap mark_of e ∙ mark)
    ∙ some-step place (mark_at slots level.parent) (has_mark (asked_in text chain)) (chain-has_mark slots text rest) level.dir.mark
