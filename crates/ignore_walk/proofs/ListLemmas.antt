-- Frames keep their places in a list of directories that grows, and in one that is cut.
use Rattle.std.proofs.Common.{◌≡◌, ℕ, zero, suc, ◌+◌, List, [], ◌∷◌, length, map, take, Option, refl, sym, ap, ◌∙◌, subst, arith}
use Rattle.std.proofs.lemmas.List.{take_all}
use Rattle.ignore_dir.specs.Lists.{Placed}
use Rattle.ignore_levels.specs.declared.list.Place.{Place}
use Rattle.ignore_levels.specs.declared.list.Slot.{Slot}
use Rattle.ignore_levels.specs.Levels.{IsChain, counting}
use Rattle.ignore_walk.specs.Branch.{Branch, around, placed_to}
use Rattle.ignore_walk.specs.Frames.{AreFrames, outermost, inside}
use Rattle.ignore_walk.specs.Left.{IsNext}
use Rattle.ignore_walk.specs.OnList.{AreOn, place_around}
use Rattle.ignore_walk.specs.Scene.{Scene}
use Rattle.ignore_walk.specs.Shared.{AreShared}
use Rattle.ignore_walk.specs.declared.above.Seen.{Seen}
use Rattle.ignore_walk.specs.declared.frame.Frame.{Frame}
use Rattle.ignore_walk.proofs.SharedLemmas.{shared-kept}

-- what stands for a chain within a length of one list does so in another
abbrev pub KeepsWithin : List Slot → List Slot → Type 0
KeepsWithin a b = (len : ℕ) (place : Option Place) (chain : List Placed) → IsChain (take len a) place chain → IsChain (take len b) place chain

-- a part of a part is a part

part-more : (m n k : ℕ) → ((xs : List Slot) → take m (take n xs) ≡ take k xs) → (xs : List Slot)
    → take (suc m) (take (suc n) xs) ≡ take (suc k) xs
part-more m n k h [] = refl
part-more m n k h (x ∷ xs) = ap (λ (l : List Slot). x ∷ l) (h xs)

take-part : (m n : ℕ) → (k : ℕ) × ((xs : List Slot) → take m (take n xs) ≡ take k xs)
take-part zero n = (zero, λ xs. refl)
take-part (suc m) zero = (zero, λ xs. refl)
take-part (suc m) (suc n) = let t = take-part m n in (suc t.0, part-more m n t.0 t.1)

kept-part : (n : ℕ) (a b : List Slot) → KeepsWithin a b → KeepsWithin (take n a) (take n b)
kept-part n a b h len place chain c =
    let t = take-part len n in
    subst (λ (s : List Slot). IsChain s place chain) (sym (t.1 b))
    (h t.0 place chain (subst (λ (s : List Slot). IsChain s place chain) (t.1 a) c))

kept-whole : (a b : List Slot) → KeepsWithin a b → (place : Option Place) (chain : List Placed) → IsChain a place chain → IsChain b place chain
kept-whole a b h place chain c =
    let len = length a + length b in
    subst (λ (s : List Slot). IsChain s place chain) (take_all len b (omega arith))
    (h len place chain (subst (λ (s : List Slot). IsChain s place chain) (sym (take_all len a (omega arith))) c))

kept-cut : (a b : List Slot) → KeepsWithin a b → KeepsWithin a (take (length a) b)
kept-cut a b h len place chain c =
    let t = take-part len (length a) in
    let same : take len a ≡ take t.0 a = ap (λ (l : List Slot). take len l) (sym (take_all (length a) a (omega arith))) ∙ t.1 a in
    subst (λ (s : List Slot). IsChain s place chain) (sym (t.1 b))
    (h t.0 place chain (subst (λ (s : List Slot). IsChain s place chain) same c))

shared-whole : (g : Scene) (kept : List Seen) (a b : List Slot) → KeepsWithin a b → AreShared g a kept → AreShared g b kept
shared-whole g kept a b h are = shared-kept g kept a b (kept-whole a b h) are

on-kept : (g : Scene) (root : List ℕ) (kept : List Seen) (c : Branch) (fs : List Frame) (a b : List Slot) → KeepsWithin a b → AreOn g root kept c a fs → AreOn g root kept c b fs
on-kept g root kept c [] a b h on = shared-whole g kept a b h on
on-kept g root kept c (f ∷ fs) a b h on = (
  kept-whole a b h f.place (counting (placed_to g root c)) on.0,
  on-kept g root kept (around c) fs (take f.len a) (take f.len b) (kept-part f.len a b h) on.1,
)

on-inner : (g : Scene) (root : List ℕ) (kept : List Seen) (place b : Branch) (fs : List Frame) (slots : List Slot)
    → IsNext b place (map (λ (f : Frame). f.rest.items) fs) → AreOn g root kept place slots fs → AreOn g root kept (around b) slots fs
on-inner g root kept place b [] slots next on = on
on-inner g root kept place b (f ∷ fs) slots next on = subst (λ (c : Branch). AreOn g root kept c slots (f ∷ fs)) (sym (ap around next.1)) on

-- a directory was entered
pub on-entered : (g : Scene) (root : List ℕ) (kept : List Seen) (place b : Branch) (f : Frame) (fs : List Frame) (old new : List Slot)
    → f.len ≡ length old → IsNext b place (map (λ (f : Frame). f.rest.items) fs) → IsChain new f.place (counting (placed_to g root b))
    → KeepsWithin old new → AreOn g root kept place old fs → AreOn g root kept b new (f ∷ fs)
on-entered g root kept place b f fs old new len next chain keeps on = (
  chain,
  subst (λ (n : ℕ). AreOn g root kept (around b) (take n new) fs) (sym len)
      (on-inner g root kept place b fs (take (length old) new) next
      (on-kept g root kept place fs old (take (length old) new) (kept-cut old new keeps) on)),
)

-- a listed thing was taken from the directory that was entered last
pub on-taken : (g : Scene) (root : List ℕ) (kept : List Seen) (place : Branch) (f f' : Frame) (fs : List Frame) (slots : List Slot)
    → f'.place ≡ f.place → f'.len ≡ f.len → AreOn g root kept place slots (f ∷ fs) → AreOn g root kept place slots (f' ∷ fs)
on-taken g root kept place f f' fs slots at len on = (
  subst (λ (p : Option Place). IsChain slots p (counting (placed_to g root place))) (sym at) on.0,
  subst (λ (n : ℕ). AreOn g root kept (around place) (take n slots) fs) (sym len) on.1,
)

-- what stands for the directories around an entry of the directory that was entered last
pub on-around : (g : Scene) (root : List ℕ) (kept : List Seen) (place : Branch) (above : Option Place) (fs : List Frame) (slots : List Slot)
    → AreFrames g root place fs → AreOn g root kept place slots fs → IsChain slots (place_around above fs) (counting (placed_to g root place))
on-around g root kept place above fs slots (outermost is) on = on.0
on-around g root kept place above fs slots (inside is all) on = on.0
