-- What is left of a chain while its levels with rules are asked, the nearest first.
use Rattle.std.proofs.Common.{◌≡◌, ℕ, suc, ◌+◌, ◌<◌, ◌≤◌, ◌-◌, Bool, true, false, cond, All, List, [], ◌∷◌, Option, None, Some, length, drop, get_or, refl, sym, ap, ◌∙◌, subst, arith}
use Rattle.std.proofs.lemmas.Bool.{lt-ltb, le-ltb}
use Rattle.std.specs.Str.{IsCharBoundary, IsUtf8}
use Rattle.std.proofs.lemmas.Str.{IsCharBoundary-after_ascii}
use Rattle.ignore_base.specs.Match.{is_none, match_map, match_or}
use Rattle.ignore_base.specs.Text.{Path}
use Rattle.ignore_base.specs.declared.match_result.Match.{Match}
use Rattle.ignore_base.specs.declared.match_result.Match.TheVariants as m
use Rattle.ignore_dir.specs.declared.dir.Rank.{Rank}
use Rattle.ignore_dir.specs.Lists.{IsAfterSlash, Placed, asked_in}
use Rattle.ignore_levels.specs.declared.list.Level.{Level}
use Rattle.ignore_levels.specs.declared.list.Place.{Place}
use Rattle.ignore_levels.specs.declared.list.Slot.{Slot}
use Rattle.ignore_levels.specs.Levels.IsChain.{no_level, a_level}
use Rattle.ignore_levels.specs.Levels.{IsBelow, IsChain, has_rules, level_at, ruled_at}
use Rattle.ignore_levels.specs.Reasons.{down_to}
use Rattle.ignore_levels.specs.Sites.{Sited, dir_sited, nearest_sited}
use Rattle.ignore_levels.proofs.ChainLemmas.{Descends, chain-descends, chain-ruled, from_ruled, opened}
use Rattle.ignore_levels.proofs.FloorLemmas.{ruled-asked}
use Rattle.ignore_levels.proofs.RankLemmas.{decides}

pub boundary-after_slash : (text : List ℕ) (offset : ℕ) → IsUtf8 text → IsAfterSlash text offset → IsCharBoundary text offset
boundary-after_slash text offset u h =
    let low : 0 < offset = h.0 in
    let high : offset ≤ length text = h.1 in
    let slash : get_or text (offset - 1) 0 ≡ 47 = h.2 in
    let next : (offset - 1) + 1 ≡ offset = omega arith in
    subst (IsCharBoundary text) next (IsCharBoundary-after_ascii text (offset - 1) u (omega arith) (omega arith))

All-tail : {A : Type 0} (P : A → Type 0) (x : A) (xs : List A) → All P (x ∷ xs) → All P xs
All-tail P x xs h = λ k d lt. h (suc k) d (omega arith)

All-step : (P : Placed → Type 0) (p : Placed) (chain : List Placed) → All P (p ∷ chain) → All P (from_ruled chain) → (b : Bool)
    → All P (cond b (p ∷ chain) (from_ruled chain))
All-step P p chain all tail true = all
All-step P p chain all tail false = tail

All-ruled : (P : Placed → Type 0) (chain : List Placed) → All P chain → All P (from_ruled chain)
All-ruled P [] all = all
All-ruled P (p ∷ chain) all =
    All-step P p chain all (All-ruled P chain (All-tail P p chain all)) (has_rules p.0)

below-step : (offset : ℕ) (p : Placed) (chain : List Placed) → p.1 < offset → IsBelow offset (from_ruled chain) → (b : Bool)
    → IsBelow offset (cond b (p ∷ chain) (from_ruled chain))
below-step offset p chain less tail true = less
below-step offset p chain less tail false = tail

lower : (offset less : ℕ) (chain : List Placed) → less < offset → IsBelow less chain → IsBelow offset chain
lower offset less [] h below = tt
lower offset less (p ∷ chain) h below = let small : p.1 < less = below in let goal : p.1 < offset = omega arith in goal

All-below : (offset : ℕ) (chain : List Placed) → All (λ p. p.1 < offset) chain → IsBelow offset chain
All-below offset [] all = tt
All-below offset (p ∷ chain) all = all 0 p (omega arith)

ruled-below : (offset : ℕ) (chain : List Placed) → Descends chain → IsBelow offset chain → IsBelow offset (from_ruled chain)
ruled-below offset [] sorted below = below
ruled-below offset (p ∷ chain) sorted below =
    below-step offset p chain below (ruled-below offset chain sorted.1 (lower offset p.1 chain below sorted.0)) (has_rules p.0)

nothing : {slots : List Slot} {rest : List Placed} → IsChain slots None rest → rest ≡ []
nothing no_level = refl

-- a place that stands for a chain has a level
pub no_level_left : (slots : List Slot) (place : Place) (chain : List Placed) → level_at slots place ≡ None → IsChain slots (Some place) chain → ⊥
no_level_left slots _ _ none (a_level e below ruled mark rest) = cc (e, none)

-- the rest of a chain that is to be asked: it begins at a level, none of it is above the ceiling,
-- and what was asked before had no match
pub record Rest (slots : List Slot) (rank : Rank) (text : Path) (is_dir : Bool) (floor ceiling : ℕ) (at : Option Place) (chain : List Placed) : Type 0 where
  pub rest : List Placed
  pub is : IsChain slots at rest
  pub below : IsBelow (ceiling + 1) rest
  pub after : All (λ p. IsAfterSlash text p.1) rest
  pub same : nearest_sited rank (asked_in text (down_to floor chain)) is_dir ≡ nearest_sited rank (asked_in text (down_to floor rest)) is_dir

module _ (slots : List Slot) (rank : Rank) (text : Path) (is_dir : Bool) (floor : ℕ) where
  -- at first all levels with rules are left
  pub begin : (place : Option Place) (chain : List Placed) → IsChain slots place chain → All (λ p. IsAfterSlash text p.1) chain
      → Rest slots rank text is_dir floor (length text) (ruled_at slots place) chain
  begin place chain is after =
      let kept = All-ruled (λ p. IsAfterSlash text p.1) chain after in
      record {
        rest = from_ruled chain;
        is = chain-ruled slots is;
        below = All-below (length text + 1) (from_ruled chain) (λ k d lt. let h = kept k d lt in omega (arith, h.1));
        after = kept;
        same = sym (ruled-asked text rank is_dir floor chain (chain-descends is));
      }

  -- the level that is asked next: what is left is it and the chain of its parent
  pub record Next (ceiling : ℕ) (level : Level) (chain : List Placed) : Type 0 where
    pub tail : List Placed
    pub parent : IsChain slots level.parent tail
    pub tail_below : IsBelow level.offset tail
    pub tail_after : All (λ p. IsAfterSlash text p.1) tail
    pub own : IsAfterSlash text level.offset
    pub within : level.offset ≤ ceiling
    pub left : nearest_sited rank (asked_in text (down_to floor chain)) is_dir
        ≡ nearest_sited rank (asked_in text (down_to floor ((level.dir, level.offset) ∷ tail))) is_dir

  pub next : (ceiling : ℕ) (here : Place) (level : Level) (chain : List Placed) → level_at slots here ≡ Some level
      → Rest slots rank text is_dir floor ceiling (Some here) chain → Next ceiling level chain
  next ceiling here level chain at r =
      let o = opened slots here level r.rest at r.is in
      let below : level.offset < ceiling + 1 = subst (λ (l : List Placed). IsBelow (ceiling + 1) l) o.is r.below in
      let after = subst (λ (l : List Placed). All (λ (p : Placed). IsAfterSlash text p.1) l) o.is r.after in
      record {
        tail = o.tail;
        parent = o.parent;
        tail_below = o.below;
        tail_after = All-tail (λ p. IsAfterSlash text p.1) (level.dir, level.offset) o.tail after;
        own = after 0 (level.dir, level.offset) (omega arith);
        within = omega arith;
        left = r.same ∙ ap (λ (c : List Placed). nearest_sited rank (asked_in text (down_to floor c)) is_dir) o.is;
      }

  asked-next : (ceiling : ℕ) (level : Level) (chain : List Placed) → floor ≤ level.offset → (n : Next ceiling level chain)
      → nearest_sited rank (asked_in text (down_to floor chain)) is_dir
      ≡ match_or (dir_sited rank is_dir (level.dir, drop level.offset text)) (nearest_sited rank (asked_in text (down_to floor n.tail)) is_dir)
  asked-next ceiling level chain high n =
      n.left ∙ ap (λ (b : Bool). nearest_sited rank (asked_in text (cond b [] ((level.dir, level.offset) ∷ down_to floor n.tail))) is_dir)
      (le-ltb level.offset floor high)

  -- a level without a match leaves what is above it
  pub missed : (ceiling : ℕ) (level : Level) (chain : List Placed) → floor ≤ level.offset → Next ceiling level chain
      → dir_sited rank is_dir (level.dir, drop level.offset text) ≡ m.None
      → Rest slots rank text is_dir floor (level.offset - 1) (ruled_at slots level.parent) chain
  missed ceiling level chain high n none =
      let low : 0 < level.offset = n.own.0 in
      let up : (level.offset - 1) + 1 ≡ level.offset = omega arith in
      record {
        rest = from_ruled n.tail;
        is = chain-ruled slots n.parent;
        below = subst (λ k. IsBelow k (from_ruled n.tail)) (sym up) (ruled-below level.offset n.tail (chain-descends n.parent) n.tail_below);
        after = All-ruled (λ p. IsAfterSlash text p.1) n.tail n.tail_after;
        same = asked-next ceiling level chain high n
            ∙ (ap (λ a. match_or a (nearest_sited rank (asked_in text (down_to floor n.tail)) is_dir)) none
            ∙ sym (ruled-asked text rank is_dir floor n.tail (chain-descends n.parent)));
      }

  -- a level with a match decides
  pub found : {T : Type 0} (f : T → Sited) (answer : Match T) (ceiling : ℕ) (level : Level) (chain : List Placed) → floor ≤ level.offset
      → Next ceiling level chain → match_map f answer ≡ dir_sited rank is_dir (level.dir, drop level.offset text) → is_none answer ≡ false
      → match_map f answer ≡ nearest_sited rank (asked_in text (down_to floor chain)) is_dir
  found f answer ceiling level chain high n is some = decides f answer _ _ is some ∙ sym (asked-next ceiling level chain high n)

  -- a level below the floor ends it
  pub floored : (ceiling : ℕ) (level : Level) (chain : List Placed) → level.offset < floor → Next ceiling level chain
      → nearest_sited rank (asked_in text (down_to floor chain)) is_dir ≡ m.None
  floored ceiling level chain low n =
      n.left ∙ ap (λ (b : Bool). nearest_sited rank (asked_in text (cond b [] ((level.dir, level.offset) ∷ down_to floor n.tail))) is_dir)
      (lt-ltb level.offset floor low)

  -- nothing is left
  pub ended : (ceiling : ℕ) (chain : List Placed) → Rest slots rank text is_dir floor ceiling None chain
      → nearest_sited rank (asked_in text (down_to floor chain)) is_dir ≡ m.None
  ended ceiling chain r = r.same ∙ ap (λ (c : List Placed). nearest_sited rank (asked_in text (down_to floor c)) is_dir) (nothing r.is)
