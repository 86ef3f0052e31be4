-- What a place stands for when directories are added below it, and when levels stay.
use Rattle.std.proofs.Common.{◌≡◌, ℕ, suc, ◌+◌, ◌<◌, ◌≤◌, Bool, true, false, cond, List, [], ◌∷◌, ◌++◌, length, map, reverse, All, Option, None, Some, codes, sym, ap, ◌∙◌, subst, arith}
use Rattle.std.proofs.lemmas.List.{length-append, length-map, reverse-append}
use Rattle.std.proofs.lemmas.List.Elements.{All-cons, All-push}
use Rattle.ignore_base.specs.Problem.{Problem}
use Rattle.ignore_dir.specs.Above.{directories_along, kept_above}
use Rattle.ignore_dir.specs.AboveBy.{AreAlongBy, IsAboveBy}
use Rattle.ignore_dir.specs.Chains.{placed_along, slashed}
use Rattle.ignore_dir.specs.Lists.{IsAfterSlash, Placed}
use Rattle.ignore_dir.specs.LoadsBy.{Reads, Stats}
use Rattle.ignore_dir.specs.Steps.{Reached}
use Rattle.ignore_dir.specs.declared.dir.Dir.{Dir}
use Rattle.ignore_dir.specs.declared.settings.Settings.{Settings}
use Rattle.ignore_dir.proofs.AboveByLemmas.{are-length}
use Rattle.ignore_dir.proofs.AboveLemmas.{length-directories}
use Rattle.ignore_files.specs.declared.files.Files.{Ghosts as Files}
use Rattle.ignore_levels.specs.Levels.{IsBelow, IsChain, IsRising, Keeps, counting, counts}
use Rattle.ignore_levels.specs.declared.list.Place.{Place as LevelPlace}
use Rattle.ignore_levels.specs.declared.list.Slot.{Slot}
use Rattle.ignore_levels.proofs.ChainLemmas.{chain-kept}
use Rattle.ignore_levels.proofs.RisingLemmas.{Under, rising-below}
use Rattle.ignore_guide.specs.Forest.{Stands, StandsIn}
use Rattle.ignore_guide.specs.Places.{KeepsOthers, entered_at}
use Rattle.ignore_guide.specs.declared.places.Entered.{Entered}
use Rattle.ignore_guide.specs.declared.places.Place.{Place}
use Rattle.ignore_guide.specs.declared.places.Places.{Places}

-- one directory more
all-step : (P : Placed → Type 0) (p : Placed) (chain : List Placed) → P p → All P chain → (b : Bool) → All P (cond b (p ∷ chain) chain)
all-step P p chain h all true = All-cons P p chain h all
all-step P p chain h all false = all

pub all-more : (P : Placed → Type 0) (dir : Dir) (offset : ℕ) (chain : List Placed) → P (dir, offset) → All P (counting chain)
    → All P (counting ((dir, offset) ∷ chain))
all-more P dir offset chain h all = all-step P (dir, offset) (counting chain) h all (counts dir)

-- what holds of each element holds of each in reverse
pub All-reverse : {A : Type 0} (P : A → Type 0) (xs : List A) → All P xs → All P (reverse xs)
All-reverse P [] h = h
All-reverse P (x ∷ xs) h =
    subst (All P) (sym (reverse-append (x ∷ []) xs))
    (All-push P (reverse xs) x (All-reverse P xs (λ k d lt. h (suc k) d (omega arith))) (h 0 x (omega arith)))

-- levels that stay
pub stands-kept : (old new : List Slot) (dir : Entered) (at : Reached) → ((place : Option LevelPlace) (chain : List Placed) → IsChain old place chain
    → IsChain new place chain) → Stands old dir at → Stands new dir at
stands-kept old new dir at keeps s =
    record { chain = keeps dir.level (counting at.chain) s.chain; inside = s.inside; text = s.text; path = s.path }

pub places-kept : (old new : List Slot) (before after : Places)
    → ((place : Place) (e : Entered) → entered_at before place ≡ Some e → entered_at after place ≡ Some e)
    → ((place : Option LevelPlace) (chain : List Placed) → IsChain old place chain → IsChain new place chain)
    → (place : Place) (depth : ℕ) (at : Reached) → StandsIn old before place depth at → StandsIn new after place depth at
places-kept old new before after places levels place depth at s = record {
  dir = s.dir;
  there = places place s.dir s.there;
  deep = s.deep;
  stands = stands-kept old new s.dir at levels s.stands;
}

-- where a directory was entered
pub others-stay : (before after : Places) (own : Place) → entered_at before own ≡ None → KeepsOthers own before after → (place : Place)
    (e : Entered) → entered_at before place ≡ Some e → entered_at after place ≡ Some e
others-stay before after own none others place e at =
    others place (λ same. let n : entered_at before place ≡ None = ap (entered_at before) same ∙ none in absurd (cc (at, n))) ∙ at

pub chains-kept : (old new : List Slot) → Keeps old new → (place : Option LevelPlace) (chain : List Placed) → IsChain old place chain → IsChain new place chain
chains-kept old new keeps place chain h = chain-kept old new keeps h

-- offsets within a text are below the end of a longer one
below-within : (text : List ℕ) (n : ℕ) (chain : List Placed) → length text < n → All (λ p. IsAfterSlash text p.1) chain → IsBelow n chain
below-within text n [] h all = tt
below-within text n (p ∷ chain) h all =
    let own : IsAfterSlash text p.1 = all 0 p (omega arith) in
    let high : p.1 ≤ length text = own.1 in
    omega arith

pub below-longer : (text name : List ℕ) (chain : List Placed) → All (λ p. IsAfterSlash text p.1) chain
    → IsBelow (length ((text ++ name) ++ 47 ∷ [])) chain
below-longer text name chain all =
    let outer : length ((text ++ name) ++ 47 ∷ []) ≡ length (text ++ name) + 1 = length-append (text ++ name) (47 ∷ []) in
    let inner : length (text ++ name) ≡ length text + length name = length-append text name in
    below-within text _ chain (omega arith) all

-- The directories above a root.

rising-along : (floor offset : ℕ) (dirs : List Dir) (names : List (List ℕ)) → floor < offset → length dirs ≤ length names
    → IsRising floor (placed_along offset dirs names)
rising-along floor offset [] names lt le = tt
rising-along floor offset (d ∷ dirs) [] lt le = absurd (omega arith)
rising-along floor offset (d ∷ dirs) (n ∷ names) lt le =
    (lt, rising-along offset (offset + length n + 1) dirs names (omega arith) (omega (arith, le)))

under-placed : (offset : ℕ) (dirs : List Dir) (names : List (List ℕ)) → length dirs ≡ length names
    → Under (offset + length (slashed names)) (placed_along offset dirs names)
under-placed offset [] names e = tt
under-placed offset (d ∷ dirs) [] e = absurd (omega arith)
under-placed offset (d ∷ dirs) (n ∷ names) e =
    let size : length (n ++ 47 ∷ slashed names) ≡ length n + (1 + length (slashed names)) = length-append n (47 ∷ slashed names) ∙ omega arith in
    let end : (offset + length n + 1) + length (slashed names) ≡ offset + length (slashed (n ∷ names)) = omega arith in
    let first : offset < offset + length (slashed (n ∷ names)) = omega arith in (
      first,
      subst (λ (k : ℕ). Under k (placed_along (offset + length n + 1) dirs names)) end (under-placed (offset + length n + 1) dirs names (omega arith)),
    )

along-size : (Stat : Stats) (Read : Reads) (s : Settings) (names : List (List ℕ)) (dirs : List Placed) (base : List ℕ)
    (reported : List (Option Problem)) (h : AreAlongBy Stat Read s names dirs base reported)
    → length (map (λ l. kept_above s l.0) h.loads) ≡ length names
along-size Stat Read s names dirs base reported h =
    length-map h.loads (λ l. kept_above s l.0)
    ∙ (are-length Stat Read s (directories_along (codes "/") names) h.loads h.loaded ∙ length-directories (codes "/") names)

-- the offsets of the directories above a root rise
pub above-rising : {F : Type 0} (files : Files F) (f : F) (s : Settings) (root : List ℕ) (dirs : List Placed) (base : List ℕ)
    (reported : List (Option Problem)) → IsAboveBy files f s root dirs base reported → IsRising 0 dirs
above-rising files f s root dirs base reported (names, asked, h) =
    let size = along-size _ _ s names dirs base reported h in
    subst (IsRising 0) (sym h.counts) (rising-along 0 1 (map (λ l. kept_above s l.0) h.loads) names (omega arith) (omega (arith, size)))

-- that of the root is greater than each of them
pub above-below : {F : Type 0} (files : Files F) (f : F) (s : Settings) (root : List ℕ) (dirs : List Placed) (base : List ℕ)
    (reported : List (Option Problem)) → IsAboveBy files f s root dirs base reported → IsBelow (length base) (counting (reverse dirs))
above-below files f s root dirs base reported (names, asked, h) =
    let size = along-size _ _ s names dirs base reported h in
    let whole : length base ≡ length (47 ∷ slashed names) = ap length h.text in
    let end : 1 + length (slashed names) ≡ length base = omega (arith, whole) in
    let under = under-placed 1 (map (λ l. kept_above s l.0) h.loads) names size in
    rising-below (length base) dirs (subst (λ (n : ℕ). Under n dirs) end (subst (Under (1 + length (slashed names))) (sym h.counts) under))
