-- The part of a chain that is not below a floor, and directories without rules.
use Rattle.std.proofs.Common.{◌≡◌, ℕ, ◌<◌, ◌≤◌, ◌==◌, Bool, true, false, cond, not, ◌||◌, List, [], ◌∷◌, IsTrue, nat_lt, length, drop, refl, sym, ap, ◌∙◌, arith, eqb-true}
use Rattle.std.proofs.lemmas.Bool.{lt-ltb, le-ltb, ltb-true, ltb-false}
use Rattle.ignore_base.specs.Match.{match_map, match_or}
use Rattle.ignore_base.specs.Text.{Path}
use Rattle.ignore_base.specs.declared.match_result.Match.TheVariants.{None}
use Rattle.ignore_dir.specs.declared.dir.Dir.{Dir}
use Rattle.ignore_dir.specs.declared.dir.Rank.{Rank}
use Rattle.ignore_dir.specs.declared.dir.Rank.TheVariants.{Custom, Ignore, Gitignore, Exclude}
use Rattle.ignore_dir.specs.Lists.{Asked, Placed, asked_in}
use Rattle.ignore_dir.specs.Ranks.{cut, dir_answer}
use Rattle.ignore_levels.specs.Levels.{IsBelow, has_rules}
use Rattle.ignore_levels.specs.Reasons.{down_to}
use Rattle.ignore_levels.specs.Sites.{dir_sited, in_directory, nearest_sited, sited}
use Rattle.ignore_levels.proofs.ChainLemmas.{Descends, from_ruled, marked}

-- nothing of a chain below an offset is at a floor from there on
pub none_below : (floor offset : ℕ) (chain : List Placed) → offset ≤ floor → IsBelow offset chain → down_to floor chain ≡ []
none_below floor offset [] h below = refl
none_below floor offset (p ∷ chain) h below =
    let less : p.1 < offset = below in
    ap (λ (b : Bool). cond b [] (p ∷ down_to floor chain)) (lt-ltb p.1 floor (omega arith))

-- the nearest mark is no nearer than the chain
marked-step : (offset : ℕ) (p : Placed) (n : ℕ) → p.1 < offset → n ≤ p.1 → (b : Bool) → cond b p.1 n ≤ offset
marked-step offset p n less above true = omega arith
marked-step offset p n less above false = omega arith

marked-below : (offset : ℕ) (chain : List Placed) → IsBelow offset chain → Descends chain → marked chain ≤ offset
marked-below offset [] below sorted = omega arith
marked-below offset (p ∷ chain) below sorted =
    marked-step offset p (marked chain) below (marked-below p.1 chain sorted.0 sorted.1) p.0.mark

cut-step : (text : Path) (p : Placed) (chain : List Placed) → IsBelow p.1 chain → Descends chain
    → cut (asked_in text chain) ≡ asked_in text (down_to (marked chain) chain) → (b : Bool)
    → ◌≡◌ {A = List Asked} ((p.0, drop p.1 text) ∷ cond b [] (cut (asked_in text chain)))
    (asked_in text (down_to (cond b p.1 (marked chain)) (p ∷ chain)))
cut-step text p chain below sorted same true =
    sym (ap (λ (b : Bool). asked_in text (cond b [] (p ∷ down_to p.1 chain))) (le-ltb p.1 p.1 (omega arith))
    ∙ ap (λ (c : List Placed). asked_in text (p ∷ c)) (none_below p.1 p.1 chain (omega arith) below))
cut-step text p chain below sorted same false =
    ap (λ (l : List Asked). (p.0, drop p.1 text) ∷ l) same
    ∙ sym (ap (λ (b : Bool). asked_in text (cond b [] (p ∷ down_to (marked chain) chain)))
    (le-ltb p.1 (marked chain) (marked-below p.1 chain below sorted)))

-- a chain up to its nearest mark is the part down to that one's offset
pub cut-is : (text : Path) (chain : List Placed) → Descends chain → cut (asked_in text chain) ≡ asked_in text (down_to (marked chain) chain)
cut-is text [] sorted = refl
cut-is text (p ∷ chain) sorted = cut-step text p chain sorted.0 sorted.1 (cut-is text chain sorted.1) p.0.mark

-- all of a chain is at 0 or below
pub down_to-all : (chain : List Placed) → down_to 0 chain ≡ chain
down_to-all [] = refl
down_to-all (p ∷ chain) =
    ap (λ (b : Bool). cond b [] (p ∷ down_to 0 chain)) (le-ltb p.1 0 (omega arith)) ∙ ap (λ (c : List Placed). p ∷ c) (down_to-all chain)

parts : (a b c d : Bool) → a || (b || (c || d)) ≡ false → (a ≡ false) × (b ≡ false) × (c ≡ false) × (d ≡ false)
parts true b c d h = absurd (cc (h))
parts false true c d h = absurd (cc (h))
parts false false true d h = absurd (cc (h))
parts false false false d h = (refl, refl, refl, h)

not_false : (b : Bool) → not b ≡ false → b ≡ true
not_false true h = refl
not_false false h = absurd (cc (h))

empty_is : {X : Type 0} (xs : List X) → not (length xs == 0) ≡ false → xs ≡ []
empty_is [] h = refl
empty_is (x ∷ xs) h =
    let e : length (x ∷ xs) ≡ 0 = eqb-true (length (x ∷ xs)) 0 (not_false (length (x ∷ xs) == 0) h) in
    absurd (omega (arith, e))

no_rules : (d : Dir) → has_rules d ≡ false → (not (length d.custom.rules == 0) ≡ false) × (not (length d.ignore.rules == 0) ≡ false)
    × (not (length d.gitignore.rules == 0) ≡ false) × (not (length d.exclude.rules == 0) ≡ false)
no_rules d h =
    parts (not (length d.custom.rules == 0)) (not (length d.ignore.rules == 0)) (not (length d.gitignore.rules == 0))
    (not (length d.exclude.rules == 0)) h

no_answer : (rank : Rank) (is_dir : Bool) (l : Asked) → has_rules l.0 ≡ false → dir_answer rank is_dir l ≡ None
no_answer Custom is_dir l h = rw (empty_is l.0.custom.rules (no_rules l.0 h).0) refl
no_answer Ignore is_dir l h = rw (empty_is l.0.ignore.rules (no_rules l.0 h).1) refl
no_answer Gitignore is_dir l h = rw (empty_is l.0.gitignore.rules (no_rules l.0 h).2) refl
no_answer Exclude is_dir l h = rw (empty_is l.0.exclude.rules (no_rules l.0 h).3) refl

-- no rules have no match
pub unruled : (rank : Rank) (is_dir : Bool) (l : Asked) → has_rules l.0 ≡ false → dir_sited rank is_dir l ≡ None
unruled rank is_dir l h = ap (match_map (sited (in_directory rank l.1))) (no_answer rank is_dir l h)

module _ (text : Path) (rank : Rank) (is_dir : Bool) (floor : ℕ) where
  floored : (p : Placed) (chain : List Placed) → IsBelow p.1 chain → has_rules p.0 ≡ false → (b : Bool) → nat_lt p.1 floor ≡ b
      → nearest_sited rank (asked_in text (cond b [] (p ∷ down_to floor chain))) is_dir ≡ nearest_sited rank (asked_in text (down_to floor chain)) is_dir
  floored p chain below none true less =
      let low : p.1 < floor = ltb-true p.1 floor less in
      ap (λ (c : List Placed). nearest_sited rank (asked_in text c) is_dir) (sym (none_below floor p.1 chain (omega arith) below))
  floored p chain below none false less =
      ap (λ m. match_or m (nearest_sited rank (asked_in text (down_to floor chain)) is_dir)) (unruled rank is_dir (p.0, drop p.1 text) none)

  ruled-step : (p : Placed) (chain : List Placed) → IsBelow p.1 chain
      → nearest_sited rank (asked_in text (down_to floor (from_ruled chain))) is_dir ≡ nearest_sited rank (asked_in text (down_to floor chain)) is_dir
      → (b : Bool) → has_rules p.0 ≡ b
      → nearest_sited rank (asked_in text (down_to floor (cond b (p ∷ chain) (from_ruled chain)))) is_dir
      ≡ nearest_sited rank (asked_in text (down_to floor (p ∷ chain))) is_dir
  ruled-step p chain below same true has = refl
  ruled-step p chain below same false has = same ∙ sym (floored p chain below has (nat_lt p.1 floor) refl)

  -- directories without rules at the front of a chain change no answer
  pub ruled-asked : (chain : List Placed) → Descends chain
      → nearest_sited rank (asked_in text (down_to floor (from_ruled chain))) is_dir ≡ nearest_sited rank (asked_in text (down_to floor chain)) is_dir
  ruled-asked [] sorted = refl
  ruled-asked (p ∷ chain) sorted = ruled-step p chain sorted.0 (ruled-asked chain sorted.1) (has_rules p.0) refl

low-step : (said : Bool) (floor offset ceiling : ℕ) → said ≡ false → ((0 < offset) × (floor ≤ offset) × (offset ≤ ceiling) → IsTrue said)
    → 0 < offset → offset ≤ ceiling → (b : Bool) → nat_lt offset floor ≡ b → offset < floor
low-step said floor offset ceiling denied all some high true less = ltb-true offset floor less
low-step said floor offset ceiling denied all some high false less =
    let holds = all (some, ltb-false offset floor less, high) in
    absurd (cc (denied, holds))

-- an offset that isn't between a floor and a ceiling, though it isn't 0 nor above the ceiling
pub is_low : (said : Bool) (floor offset ceiling : ℕ) → said ≡ false → ((0 < offset) × (floor ≤ offset) × (offset ≤ ceiling) → IsTrue said)
    → 0 < offset → offset ≤ ceiling → offset < floor
is_low said floor offset ceiling denied all some high =
    low-step said floor offset ceiling denied all some high (nat_lt offset floor) refl
