-- What a stack stands for: by each change of its items and frames.
use Rattle.std.proofs.Common.{◌≡◌, ℕ, suc, List, [], ◌∷◌, ◌++◌, length, map, reverse, take, true, MatchOption, Option, None, Some, Result, Ok, option_to_list, refl, sym, ◌∙◌, ap, subst, arith}
use Rattle.std.proofs.lemmas.List.{reverse-append}
use Rattle.ignore_base.specs.declared.error.Error.{Error}
use Rattle.ignore_files.specs.declared.types.Listed.{Listed}
use Rattle.ignore_dir.specs.Above.{names_above}
use Rattle.ignore_dir.specs.Query.{is_dir_there}
use Rattle.ignore_levels.specs.declared.list.Slot.{Slot}
use Rattle.ignore_levels.specs.Levels.{slots_of}
use Rattle.ignore_walk.specs.Branch.{Branch, around}
use Rattle.ignore_walk.specs.Child.{branch_below, child}
use Rattle.ignore_walk.specs.Entry.{Entry, Item, item_of}
use Rattle.ignore_walk.specs.Frames.{IsFrame, AreFrames, outermost, inside}
use Rattle.ignore_walk.specs.Left.{IsNext, Remains, State}
use Rattle.ignore_walk.specs.Moves.{Gives, Moves, IsOfRoots, enters, leaves, takes, with_entered, with_first, with_made}
use Rattle.ignore_walk.specs.OnList.{AreOn}
use Rattle.ignore_walk.specs.Scene.{Scene}
use Rattle.ignore_walk.specs.Shared.{AreSeen, AreShared, HasCome, is_among, paths_of}
use Rattle.ignore_walk.specs.Stands.{state_of, Becomes, IsAt, IsBelow, IsIn, IsKept, Stands, Steps, Takes}
use Rattle.ignore_walk.specs.Walked.{IsArranged, IsOrdered, enter, fate, listing_of, loaded, unlisted}
use Rattle.ignore_walk.specs.Whole.{WalkedRoots, above_root}
use Rattle.ignore_walk.specs.Whole.{none as no_roots}
use Rattle.ignore_walk.specs.declared.above.Seen.{Seen}
use Rattle.ignore_walk.specs.declared.above.Way.{Way}
use Rattle.ignore_walk.specs.declared.entry.DirEntry.{DirEntry}
use Rattle.ignore_walk.specs.declared.frame.Frame.{Frame}
use Rattle.ignore_walk.specs.declared.stack.Stack.{Stack}
use Rattle.ignore_walk.proofs.AboveLemmas.{above_root-is}
use Rattle.ignore_walk.proofs.SharedLemmas.{KeepsChains, shared-append, shared-kept}
use Rattle.ignore_walk.proofs.ListLemmas.{on-taken}
use Rattle.ignore_walk.proofs.LeftLemmas.{remains_whole, state, whole_remains}
use Rattle.ignore_walk.proofs.MoveLemmas.{moves_on}
use Rattle.ignore_walk.proofs.VisitLemmas.{next_inside}

-- all but the frames, the list of directories and the items is the same
pub record Same (s s' : Stack) : Type 0 where
  pub seen : s'.seen ≡ s.seen
  pub roots : s'.roots ≡ s.roots
  pub above : s'.above ≡ s.above
  pub device : s'.device ≡ s.device

at_same : (g : Scene) (root : List ℕ) (s s' : Stack) → Same s s' → IsAt g root s → IsAt g root s'
at_same g root s s' same at = rw same.device at

below_same : (g : Scene) (root : List ℕ) (place : Branch) (s s' : Stack) (fs : List Frame) → Same s s' → IsBelow g root place s fs
    → IsBelow g root place s' fs
below_same g root place s s' [] same b = tt
below_same g root place s s' (f ∷ fs) same b = (b.0, at_same g root s s' same b.1)

kept_same : (s s' : Stack) (seen : List (List ℕ)) → Same s s' → AreSeen s.seen.items seen → AreSeen s'.seen.items seen
kept_same s s' seen same kept = rw same.seen kept

levels_same : (g : Scene) (root : List ℕ) (place : Branch) (s s' : Stack) → s'.seen ≡ s.seen → s'.frames ≡ s.frames → s'.levels ≡ s.levels
    → AreOn g root s.seen.items place (slots_of s.levels) (reverse s.frames.items)
    → AreOn g root s'.seen.items place (slots_of s'.levels) (reverse s'.frames.items)
levels_same g root place s s' seen frames levels on = rw (seen, frames, levels) on

items_same : (s s' : Stack) → s'.frames ≡ s.frames → s'.frames.items ≡ s.frames.items
items_same s s' same = rw same refl

in_same : (g : Scene) (root : List ℕ) (place : Branch) (seen : List (List ℕ)) (s s' : Stack) → Same s s' → s'.frames ≡ s.frames
    → s'.levels ≡ s.levels → IsIn g root place seen s → IsIn g root place seen s'
in_same g root place seen s s' same frames levels is =
    record {
      kept = kept_same s s' seen same is.kept;
      frames =
          subst (λ (fs : List Frame). IsBelow g root place s' (reverse fs)) (sym (items_same s s' frames))
          (below_same g root place s s' (reverse s.frames.items) same is.frames);
      levels = levels_same g root place s s' same.seen frames levels is.levels;
    }

-- items were made
pub stand_made : (g : Scene) (root : List ℕ) (place : Branch) (seen : List (List ℕ)) (s s' : Stack) (now : List Item)
    (Is : State → Type 0) → Same s s' → s'.frames ≡ s.frames → s'.levels ≡ s.levels
    → map item_of s'.made.items ≡ map item_of s.made.items ++ now
    → IsIn g root place seen s → Is (with_made (state_of s root place seen) now) → Becomes g s' Is
stand_made g root place seen s s' now Is same frames levels makes is by =
    record {
      root = root;
      place = place;
      seen = seen;
      is = in_same g root place seen s s' same frames levels is;
      by = rw (makes, frames, same.roots) by;
    }

-- what is so of what is in hand
pub becomes_by : (g : Scene) (s : Stack) (Is Is' : State → Type 0) → Becomes g s Is → ((t : State) → Is t → Is' t) → Becomes g s Is'
becomes_by g s Is Is' b by = record { root = b.root; place = b.place; seen = b.seen; is = b.is; by = by _ b.by }

-- a step was taken
pub stands_on : (g : Scene) (s s' : Stack) (items : List Item) (n : ℕ) → IsOrdered g.order → (r : Stands g s items n)
    → Becomes g s' (Moves g (state_of s r.root r.place r.seen)) → Steps g s' items n
stands_on g s s' items n o r b =
    let m = moves_on g (state_of s r.root r.place r.seen) (state_of s' b.root b.place b.seen) items n o b.by r.remains in
    (m.0, m.1, record { root = b.root; place = b.place; seen = b.seen; is = b.is; remains = m.2 })

frames_entered : (g : Scene) (root : List ℕ) (b place : Branch) (s : Stack) (f : Frame) (fs : List Frame) → IsFrame g root b f
    → IsNext b place (map (λ (f : Frame). f.rest.items) fs) → IsBelow g root place s fs → AreFrames g root b (f ∷ fs)
frames_entered g root b place s f [] is next branch_below =
    rw next (outermost (subst (λ (b : Branch). IsFrame g root b f) next is))
frames_entered g root b place s f (f' ∷ fs) is next branch_below =
    rw next.1 (inside (subst (λ (b : Branch). IsFrame g root b f) next.1 is) branch_below.0)

-- a directory was entered
pub stand_entered : (g : Scene) (root : List ℕ) (place b : Branch) (seen : List (List ℕ)) (s s' : Stack) (e : Entry) (f : Frame)
    → Same s s' → s'.frames.items ≡ s.frames.items ++ f ∷ []
    → map item_of s'.made.items ≡ map item_of s.made.items ++ (loaded g e ++ unlisted e (g.tree.list e.path))
    → IsIn g root place seen s → IsAt g root s → IsFrame g root b f
    → AreOn g root s'.seen.items b (slots_of s'.levels) (f ∷ reverse s.frames.items)
    → IsArranged g.order e.path (listing_of (g.tree.list e.path)) f.rest.items → fate g root b e ≡ enter
    → IsNext b place (map (λ (f : Frame). f.rest.items) (reverse s.frames.items))
    → Becomes g s' (Gives g (state_of s root place seen) b (Ok e))
stand_entered g root place b seen s s' e f same frames makes is at frame on arranged entered next =
    let fs = reverse s.frames.items in
    let pushed : reverse s'.frames.items ≡ f ∷ fs = ap reverse frames ∙ reverse-append s.frames.items (f ∷ []) in
    let all : AreFrames g root b (f ∷ fs) = frames_entered g root b place s f fs frame next is.frames in
    record {
      root = root;
      place = b;
      seen = seen;
      is = record {
        kept = kept_same s s' seen same is.kept;
        frames = rw pushed (all, at_same g root s s' same at);
        levels = subst (λ (l : List Frame). AreOn g root s'.seen.items b (slots_of s'.levels) l) (sym pushed) on;
      };
      by = rw (makes, pushed, same.roots) (enters next entered arranged);
    }

-- the frame of a root is the only one
one_frame : (g : Scene) (root : List ℕ) (place : Branch) (fs : List Frame) → AreFrames g root place fs → length fs ≡ suc (length place)
one_frame g root place fs (outermost is) = refl
one_frame g root place fs (inside is all) = ap suc (one_frame g root _ _ all)

below_left : (g : Scene) (root : List ℕ) (place : Branch) (s : Stack) (f : Frame) (fs : List Frame) → AreFrames g root place (f ∷ fs)
    → IsAt g root s → IsBelow g root (around place) s fs
below_left g root place s f [] fs at = tt
below_left g root [] s f (f' ∷ fs) all at = absurd (omega (one_frame g root [] (f ∷ (f' ∷ fs)) all, arith))
below_left g root (name ∷ b) s f (f' ∷ fs) (inside is all) at = (all, at)

next_around : (g : Scene) (root : List ℕ) (place : Branch) (f : Frame) (fs : List Frame) → AreFrames g root place (f ∷ fs)
    → IsNext place (around place) (map (λ (f : Frame). f.rest.items) fs)
next_around g root place f fs (outermost is) = refl
next_around g root place f fs (inside {name = name} {b = b} is all) = next_inside g root b fs name all

-- a directory was left
pub stand_left : (g : Scene) (root : List ℕ) (place : Branch) (seen : List (List ℕ)) (s s' : Stack) (f : Frame) → Same s s'
    → s'.made ≡ s.made → s.frames.items ≡ s'.frames.items ++ f ∷ [] → slots_of s'.levels ≡ take f.len (slots_of s.levels)
    → f.rest.items ≡ [] → IsIn g root place seen s → Becomes g s' (Moves g (state_of s root place seen))
stand_left g root place seen s s' f same made frames cut done is =
    let fs = reverse s'.frames.items in
    let rests' = map (λ (f : Frame). f.rest.items) fs in
    let popped : reverse s.frames.items ≡ f ∷ fs = ap reverse frames ∙ reverse-append s'.frames.items (f ∷ []) in
    let branch_below : IsBelow g root place s (f ∷ fs) = subst (λ (fs : List Frame). IsBelow g root place s fs) popped is.frames in
    let rests : map (λ (f : Frame). f.rest.items) (reverse s.frames.items) ≡ [] ∷ rests' =
    ap (map (λ (f : Frame). f.rest.items)) popped ∙ ap (λ (xs : List Listed). xs ∷ rests') done in
    let on : AreOn g root s.seen.items place (slots_of s.levels) (f ∷ fs) =
    subst (λ (l : List Frame). AreOn g root s.seen.items place (slots_of s.levels) l) popped is.levels in
    let made' = map item_of s.made.items in
    let next : State = state made' root (around place) rests' seen s.roots.items in
    let step : Moves g (state made' root place ([] ∷ rests') seen s.roots.items) next = leaves (next_around g root place f fs branch_below.0) in
    record {
      root = root;
      place = around place;
      seen = seen;
      is = record {
        kept = kept_same s s' seen same is.kept;
        frames = below_same g root (around place) s s' fs same (below_left g root place s f fs branch_below.0 branch_below.1);
        levels = rw same.seen (subst (λ (l : List Slot). AreOn g root s.seen.items (around place) l fs) (sym cut) on.1);
      };
      by = rw (made, same.roots)
          (subst (λ (rests : List (List Listed)). Moves g (state made' root place rests seen s.roots.items) next) (sym rests) step);
    }

frames_taken : (g : Scene) (root : List ℕ) (place : Branch) (f f' : Frame) (fs : List Frame) → f'.path ≡ f.path → f'.text ≡ f.text
    → AreFrames g root place (f ∷ fs) → AreFrames g root place (f' ∷ fs)
frames_taken g root place f f' fs path text (outermost is) = outermost (record { path = path ∙ is.path; text = text ∙ is.text })
frames_taken g root place f f' fs path text (inside is all) = inside (record { path = path ∙ is.path; text = text ∙ is.text }) all

-- a listed thing was taken
pub stand_taken : (g : Scene) (root : List ℕ) (place : Branch) (seen : List (List ℕ)) (s s' : Stack) (f f' : Frame) (fs : List Frame)
    (x : Listed) → Same s s'
    → s'.made ≡ s.made → s'.levels ≡ s.levels → s.frames.items ≡ fs ++ f ∷ [] → s'.frames.items ≡ fs ++ f' ∷ [] → f'.path ≡ f.path
    → f'.text ≡ f.text → f'.place ≡ f.place → f'.len ≡ f.len → f.rest.items ≡ x ∷ f'.rest.items → IsIn g root place seen s
    → Takes g root place seen s x s'
stand_taken g root place seen s s' f f' front x same made levels frames frames' path text at_place len taken is =
    let fs = reverse front in
    let rests = map (λ (f : Frame). f.rest.items) fs in
    let popped : reverse s.frames.items ≡ f ∷ fs = ap reverse frames ∙ reverse-append front (f ∷ []) in
    let pushed : reverse s'.frames.items ≡ f' ∷ fs = ap reverse frames' ∙ reverse-append front (f' ∷ []) in
    let entered : IsBelow g root place s (f ∷ fs) = subst (λ (fs : List Frame). IsBelow g root place s fs) popped is.frames in
    let all : AreFrames g root place (f' ∷ fs) = frames_taken g root place f f' fs path text entered.0 in
    let at : IsAt g root s' = at_same g root s s' same entered.1 in
    let on : AreOn g root s.seen.items place (slots_of s.levels) (f' ∷ fs) =
    on-taken g root s.seen.items place f f' fs (slots_of s.levels) at_place len
    (subst (λ (l : List Frame). AreOn g root s.seen.items place (slots_of s.levels) l) popped is.levels) in
    let was : map (λ (f : Frame). f.rest.items) (reverse s.frames.items) ≡ (x ∷ f'.rest.items) ∷ rests =
    ap (map (λ (f : Frame). f.rest.items)) popped ∙ ap (λ (xs : List Listed). xs ∷ rests) taken in
    let now : map (λ (f : Frame). f.rest.items) (reverse s'.frames.items) ≡ f'.rest.items ∷ rests =
    ap (map (λ (f : Frame). f.rest.items)) pushed in
    let made' = map item_of s'.made.items in
    let outer : State = state made' root place rests seen s'.roots.items in
    record {
      is = record { kept = kept_same s s' seen same is.kept; frames = rw pushed (all, at); levels = rw (same.seen, levels, pushed) on };
      frames = rw pushed all;
      at = at;
      step = λ t gives.
          let gives' : Gives g (with_entered outer place f'.rest.items) (branch_below place x) (child g root place x) t =
          subst (λ (rests : List (List Listed)). Gives g (state made' root place rests seen s'.roots.items) (branch_below place x)
          (child g root place x) t) now gives in
          rw (was, sym made, sym same.roots) (takes outer gives');
    }

-- a stack that differs in its text alone
pub takes_same : (g : Scene) (root : List ℕ) (place : Branch) (seen : List (List ℕ)) (old s s' : Stack) (x : Listed) → Same s s'
    → s'.made ≡ s.made → s'.frames ≡ s.frames → s'.levels ≡ s.levels → Takes g root place seen old x s → Takes g root place seen old x s'
takes_same g root place seen old s s' x same made frames levels t =
    record {
      is = in_same g root place seen s s' same frames levels t.is;
      frames = rw frames t.frames;
      at = at_same g root s s' same t.at;
      step = λ u gives. t.step u (rw (sym made, sym frames, sym same.roots) gives);
    }

-- the first item was handed out, if there is one
pub stand_first_of : (g : Scene) (root : List ℕ) (place : Branch) (seen : List (List ℕ)) (s s' : Stack) (r : Option (Result DirEntry Error))
    → Same s s' → s'.frames ≡ s.frames → s'.levels ≡ s.levels → s.made.items ≡ option_to_list r ++ s'.made.items → IsIn g root place seen s
    → MatchOption r (Becomes g s' (λ t. state_of s root place seen ≡ t))
    (λ x. Becomes g s' (λ t. state_of s root place seen ≡ with_first (item_of x) t))
stand_first_of g root place seen s s' None same frames levels made is =
    record {
      root = root;
      place = place;
      seen = seen;
      is = in_same g root place seen s s' same frames levels is;
      by = rw (made, frames, same.roots) refl;
    }
stand_first_of g root place seen s s' (Some x) same frames levels made is =
    record {
      root = root;
      place = place;
      seen = seen;
      is = in_same g root place seen s s' same frames levels is;
      by = rw (made, frames, same.roots) refl;
    }

-- no directory is entered

pub rests_none : (s : Stack) → s.frames.items ≡ [] → map (λ (f : Frame). f.rest.items) (reverse s.frames.items) ≡ []
rests_none s empty = rw empty refl

pub next_root : (s : Stack) (place : Branch) → s.frames.items ≡ [] → IsNext [] place (map
    (λ (f : Frame). f.rest.items) (reverse s.frames.items))
next_root s place empty = subst (λ (rests : List (List Listed)). IsNext [] place rests) (sym (rests_none s empty)) refl

pub outside : (g : Scene) (root : List ℕ) (place : Branch) (seen : List (List ℕ)) (s : Stack) → s.frames.items ≡ []
    → IsKept g seen s → IsIn g root place seen s
outside g root place seen s empty kept =
    record {
      kept = kept.kept;
      frames = subst (λ (fs : List Frame). IsBelow g root place s (reverse fs)) (sym empty) tt;
      levels = subst (λ (fs : List Frame). AreOn g root s.seen.items place (slots_of s.levels) (reverse fs)) (sym empty) kept.places;
    }

-- a walk that begins
first_in : (g : Scene) (s : Stack) → s.frames.items ≡ [] → s.seen.items ≡ [] → IsIn g [] [] [] s
first_in g s frames seen = outside g [] [] [] s frames (record { kept = rw seen (λ path. refl); places = rw seen tt })

pub stand_whole : (g : Scene) (s : Stack) (items : List Item) (n : ℕ) → s.made.items ≡ [] → s.frames.items ≡ [] → s.seen.items ≡ []
    → WalkedRoots g [] s.roots.items items n → Stands g s items n
stand_whole g s items n made frames seen w =
    record {
      root = [];
      place = [];
      seen = [];
      is = first_in g s frames seen;
      remains = rw (made, frames) (whole_remains g [] [] s.roots.items items n w);
    }

pub stand_first : (g : Scene) (s : Stack) (roots : List (List ℕ)) → s.made.items ≡ [] → s.frames.items ≡ [] → s.seen.items ≡ []
    → s.roots.items ≡ roots → Becomes g s (IsOfRoots g roots)
stand_first g s roots made frames seen same =
    record {
      root = [];
      place = [];
      seen = [];
      is = first_in g s frames seen;
      by = λ items n r.
          subst (λ (roots : List (List ℕ)). WalkedRoots g [] roots items n) same
          (remains_whole g [] [] s.roots.items items n
          (subst (λ (made : List Item). Remains g (state made [] [] [] [] s.roots.items) items n) (ap (map item_of) made)
          (subst (λ (rests : List (List Listed)). Remains g (state (map item_of s.made.items) [] [] rests [] s.roots.items) items n)
          (rests_none s frames) r)));
    }

-- nothing is left
pub stand_nothing : (g : Scene) (root : List ℕ) (place : Branch) (seen : List (List ℕ)) (s : Stack) → s.made.items ≡ []
    → s.frames.items ≡ [] → s.roots.items ≡ [] → Remains g (state_of s root place seen) [] 0
stand_nothing g root place seen s made frames roots =
    rw (made, frames, roots)
    (record { inner = []; outer = []; p = 0; q = 0; within = (refl, refl); after = no_roots; are = refl; count = refl })

-- the directories above a root were seen
pub kept-more : (g : Scene) (seen : List (List ℕ)) (root : List ℕ) (s s' : Stack) (w : Way) → is_dir_there (g.tree.stat root true) ≡ true
    → KeepsChains (slots_of s.levels) (slots_of s'.levels) → s'.seen.items ≡ s.seen.items ++ w.added.items → IsKept g seen s
    → HasCome g (slots_of s'.levels) s.seen.items seen (names_above g.tree g.settings root) w → IsKept g (seen ++ above_root g root) s'
kept-more g seen root s s' w found keeps same kept come =
    record {
      kept = λ p.
          ap (λ (l : List Seen). is_among p (paths_of l)) same
          ∙ (come.passed.all p ∙ ap (λ (l : List (List ℕ)). is_among p (seen ++ l)) (sym (above_root-is g root found)));
      places = subst (AreShared g (slots_of s'.levels)) (sym same)
          (shared-append g (slots_of s'.levels) s.seen.items w.added.items
          (shared-kept g s.seen.items (slots_of s.levels) (slots_of s'.levels) keeps kept.places) come.passed.new);
    }
