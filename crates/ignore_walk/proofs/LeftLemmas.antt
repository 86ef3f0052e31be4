-- What is left of a walk stays the same while items are made of it; each step leaves one fewer.
use Rattle.std.proofs.Common.{◌≡◌, ℕ, suc, ◌+◌, ◌<◌, true, false, List, [], ◌∷◌, ◌++◌, length, bytes_eq, codes, None, Ok, Err, refl, sym, ◌∙◌, ap, subst, arith, append_assoc}
use Rattle.std.proofs.lemmas.List.{append-nil}
use Rattle.ignore_base.specs.Problem.{Problem}
use Rattle.ignore_files.specs.declared.types.Listed.{Listed}
use Rattle.ignore_walk.specs.Branch.{Branch}
use Rattle.ignore_walk.specs.Child.{child, branch_below}
use Rattle.ignore_walk.specs.Entry.{Entry, Item, stdin_entry}
use Rattle.ignore_walk.specs.Left.{State, Left, outermost, inside, LeftInRoot, RemainsAfter, Remains, InHand, IsNext}
use Rattle.ignore_walk.specs.Moves.{with_entered, with_made}
use Rattle.ignore_walk.specs.Scene.{Scene}
use Rattle.ignore_walk.specs.Walked.{IsArranged, IsOrdered, WalkedEach, skip, yield, load, enter, fate, yielded, loaded, listing_of, unlisted}
use Rattle.ignore_walk.specs.Whole.{WalkedRoots, root_entry, above_root, reported_before}
use Rattle.ignore_walk.proofs.Arranged.{one_arrangement}
use Rattle.ignore_walk.proofs.Given.{each_none, each_more, one_failed, one_skipped, one_leaf, one_closed, one_dir}
use Rattle.ignore_walk.proofs.OneList.{roots_stdin, roots_root}

-- the innermost directory, and what is around it

-- what the directories around a place still give
abbrev pub LeftIn : Scene → List ℕ → Branch → List (List Listed) → List Item → ℕ → Type 0
LeftIn g root [] rests items n = (rests ≡ []) × (items ≡ []) × (n ≡ 0)
LeftIn g root (name ∷ b) rests items n = Left g root b rests items n

some_frame : (g : Scene) (root : List ℕ) (b : Branch) (rests : List (List Listed)) (items : List Item) (n : ℕ)
    → Left g root b rests items n → 0 < length rests
some_frame g root b rests items n (outermost each) = omega arith
some_frame g root b rests items n (inside each left) = omega arith

pub left_outside : (g : Scene) (root : List ℕ) (b place : Branch) (rests : List (List Listed)) (items : List Item) (n : ℕ)
    → IsNext b place rests → LeftIn g root b rests items n → LeftInRoot g root place rests items n
left_outside g root b place [] items n next left =
    let t = subst (λ (b : Branch). LeftIn g root b [] items n) next left in (t.1, t.2)
left_outside g root b place (ys ∷ rests) items n next left =
    subst (λ (b : Branch). LeftIn g root b (ys ∷ rests) items n) next.1 left

pub record Inner (g : Scene) (root : List ℕ) (b : Branch) (xs : List Listed) (rests : List (List Listed)) (items : List Item)
    (n : ℕ) : Type 0 where
  pub own : List Item
  pub others : List Item
  pub m : ℕ
  pub k : ℕ
  pub each : WalkedEach g root b xs own m
  pub rest : LeftIn g root b rests others k
  pub are : items ≡ own ++ others
  pub count : n ≡ suc (m + k)

pub innermost : (g : Scene) (root : List ℕ) (b : Branch) (xs : List Listed) (rests : List (List Listed)) (items : List Item) (n : ℕ)
    → Left g root b (xs ∷ rests) items n → Inner g root b xs rests items n
innermost g root b xs rests items n (outermost {m = m} each) =
    record {
      own = items;
      others = [];
      m = m;
      k = 0;
      each = each;
      rest = (refl, refl, refl);
      are = sym
          (append-nil items);
      count = omega arith;
    }
innermost g root b xs rests items n (inside {b = c} {outer = outer} {n = k} each left) =
    record { own = _; others = outer; m = _; k = k; each = each; rest = left; are = refl; count = omega arith }

pub left_of : (g : Scene) (root : List ℕ) (b : Branch) (xs : List Listed) (rests : List (List Listed)) (own others : List Item) (m k : ℕ)
    → LeftIn g root b rests others k → WalkedEach g root b xs own m → Left g root b (xs ∷ rests) (own ++ others) (suc (m + k))
left_of g root [] xs rests own others m k (alone, nothing, none) each =
    let sum : m + k ≡ m = omega (none, arith) in
    rw (alone, nothing, append-nil own, sum) (outermost each)
left_of g root (name ∷ b) xs rests own others m k left each = inside each left

-- steps

abbrev pub state : List Item → List ℕ → Branch → List (List Listed) → List (List ℕ) → List (List ℕ) → State
state made root place rests seen roots =
    record { made = made; root = root; place = place; rests = rests; seen = seen; roots = roots }

pub leave : (g : Scene) (s : State) (b : Branch) (items : List Item) (n : ℕ) → IsNext b s.place s.rests
    → Remains g (with_entered s b []) items n → (k : ℕ) × (n ≡ suc k) × Remains g s items k
leave g s b items n next r =
    let i = innermost g s.root b [] s.rests r.inner r.p r.within in
    let no = each_none g s.root b i.own i.m i.each in (
      i.k + r.q,
      omega (r.count, i.count, no.1, arith),
      record {
        inner = i.others;
        outer = r.outer;
        p = i.k;
        q = r.q;
        within = left_outside g s.root b s.place s.rests i.others i.k next i.rest;
        after = r.after;
        are = r.are ∙ ap (λ (t : List Item). s.made ++ (t ++ r.outer)) (i.are ∙ ap (λ (t : List Item). t ++ i.others) no.0);
        count = omega arith;
      },
    )

pub take : (g : Scene) (made : List Item) (root : List ℕ) (b : Branch) (x : Listed) (xs : List Listed) (rests : List (List Listed))
    (seen roots : List (List ℕ)) (items : List Item) (n : ℕ) → Remains g (state made root b ((x ∷ xs) ∷ rests) seen roots) items n
    → (k : ℕ) × (n ≡ suc k) × InHand g (state made root b (xs ∷ rests) seen roots) (branch_below b x) (child g root b x) items k
take g made root b x xs rests seen roots items n r =
    let i = innermost g root b (x ∷ xs) rests r.inner r.p r.within in
    let t = each_more g root b x xs i.own i.m i.each in (
      t.p + (suc (t.q + i.k) + r.q),
      omega (r.count, i.count, t.count, arith),
      record {
        own = t.own;
        m = t.p;
        one = t.one;
        rest = record {
          inner = t.others ++ i.others;
          outer = r.outer;
          p = suc (t.q + i.k);
          q = r.q;
          within = left_of g root b xs rests t.others i.others t.q i.k i.rest t.each;
          after = r.after;
          are = r.are ∙ ap (λ (t : List Item). made ++ t) (ap (λ (t : List Item). t ++ r.outer) (i.are
              ∙ (ap (λ (o : List Item). o ++ i.others) t.are ∙ append_assoc t.own t.others i.others))
              ∙ append_assoc t.own (t.others ++ i.others) r.outer);
          count = omega arith;
        };
      },
    )

pub begin_stdin : (g : Scene) (made : List Item) (root : List ℕ) (b : Branch) (seen roots : List (List ℕ)) (first : List ℕ)
    (items : List Item) (n : ℕ) → bytes_eq first (codes "-") ≡ true → Remains g (state made root b [] seen (first ∷ roots)) items n
    → (k : ℕ) × (n ≡ suc k) × Remains g (state (made ++ Ok (stdin_entry, None) ∷ []) root b [] seen roots) items k
begin_stdin g made root b seen roots first items n is r =
    let t = roots_stdin g seen roots first r.outer r.q is r.after in (
      t.k,
      omega (r.count, r.within.1, t.count, arith),
      record {
        inner = [];
        outer = t.items;
        p = 0;
        q = t.k;
        within = (refl, refl);
        after = t.rest;
        are = r.are ∙ (ap (λ (i : List Item). made ++ (i ++ r.outer)) r.within.0 ∙ (ap (λ (i : List Item). made ++ i) t.are
            ∙ sym (append_assoc made (Ok (stdin_entry, None) ∷ []) t.items)));
        count = omega arith;
      },
    )

pub begin_root : (g : Scene) (made : List Item) (root : List ℕ) (b : Branch) (seen roots : List (List ℕ)) (first : List ℕ)
    (items : List Item) (n : ℕ) → bytes_eq first (codes "-") ≡ false → Remains g (state made root b [] seen (first ∷ roots)) items n
    → (k : ℕ) × (n ≡ suc k)
    × InHand g (state (made ++ reported_before g seen first) first [] [] (seen ++ above_root g first) roots) [] (root_entry g first) items k
begin_root g made root b seen roots first items n is r =
    let t = roots_root g seen roots first r.outer r.q is r.after in
    let reported = reported_before g seen first in (
      t.p + t.k,
      omega (r.count, r.within.1, t.count, arith),
      record {
        own = t.own;
        m = t.p;
        one = t.one;
        rest = record {
          inner = [];
          outer = t.items;
          p = 0;
          q = t.k;
          within = (refl, refl);
          after = t.rest;
          are = r.are ∙ (ap (λ (i : List Item). made ++ (i ++ r.outer)) r.within.0 ∙ (ap (λ (i : List Item). made ++ i) t.are
              ∙ sym (append_assoc made reported (t.own ++ t.items))));
          count = omega arith;
        };
      },
    )

-- what an entry in hand gives

-- all that it gives is made at once
all_made : (g : Scene) (s : State) (own now : List Item) (m : ℕ) (items : List Item) (n : ℕ) → own ≡ now → m ≡ 0
    → RemainsAfter g s own m items n → Remains g (with_made s now) items n
all_made g s own now m items n is zero r =
    record {
      inner = r.inner;
      outer = r.outer;
      p = r.p;
      q = r.q;
      within = r.within;
      after = r.after;
      are = r.are ∙ (ap (λ (o : List Item). s.made ++ (o ++ (r.inner ++ r.outer))) is ∙ sym (append_assoc s.made now (r.inner ++ r.outer)));
      count = omega (r.count, zero, arith);
    }

pub make_failed : (g : Scene) (s : State) (b : Branch) (p : Problem) (items : List Item) (n : ℕ) → InHand g s b (Err p) items n
    → Remains g (with_made s (Err p ∷ [])) items n
make_failed g s b p items n h =
    let w = one_failed g s.root b p h.own h.m h.one in
    all_made g s h.own (Err p ∷ []) h.m items n w.0 w.1 h.rest

pub make_skipped : (g : Scene) (s : State) (b : Branch) (e : Entry) (items : List Item) (n : ℕ) → fate g s.root b e ≡ skip
    → InHand g s b (Ok e) items n → Remains g s items n
make_skipped g s b e items n is h =
    let w = one_skipped g s.root b e h.own h.m is h.one in
    let r = h.rest in
    record {
      inner = r.inner;
      outer = r.outer;
      p = r.p;
      q = r.q;
      within = r.within;
      after = r.after;
      are = r.are ∙ ap (λ (o : List Item). s.made ++ (o ++ (r.inner ++ r.outer))) w.0;
      count = omega (r.count, w.1, arith);
    }

pub make_leaf : (g : Scene) (s : State) (b : Branch) (e : Entry) (items : List Item) (n : ℕ) → fate g s.root b e ≡ yield
    → InHand g s b (Ok e) items n → Remains g (with_made s (yielded g.settings e None)) items n
make_leaf g s b e items n is h =
    let w = one_leaf g s.root b e h.own h.m is h.one in
    all_made g s h.own (yielded g.settings e None) h.m items n w.0 w.1 h.rest

pub make_closed : (g : Scene) (s : State) (b : Branch) (e : Entry) (items : List Item) (n : ℕ) → fate g s.root b e ≡ load
    → InHand g s b (Ok e) items n → Remains g (with_made s (loaded g e)) items n
make_closed g s b e items n is h =
    let w = one_closed g s.root b e h.own h.m is h.one in
    all_made g s h.own (loaded g e) h.m items n w.0 w.1 h.rest

pub left_entered : (g : Scene) (root : List ℕ) (b place : Branch) (xs : List Listed) (rests : List (List Listed))
    (own inner : List Item) (m p : ℕ)
    → IsNext b place rests → LeftInRoot g root place rests inner p → WalkedEach g root b xs own m
    → Left g root b (xs ∷ rests) (own ++ inner) (suc (m + p))
left_entered g root b place xs [] own inner m p next within each =
    let sum : m + p ≡ m = omega (within.1, arith) in
    rw (next, within.0, append-nil own, sum) (outermost (subst (λ (b : Branch). WalkedEach g root b xs own m) next each))
left_entered g root b place xs (ys ∷ rests) own inner m p next within each =
    rw next.1 (inside (subst (λ (b : Branch). WalkedEach g root b xs own m) next.1 each) within)

-- a directory is entered
pub make_entered : (g : Scene) (s : State) (b : Branch) (e : Entry) (xs : List Listed) (items : List Item) (n : ℕ) → IsOrdered g.order
    → IsNext b s.place s.rests → fate g s.root b e ≡ enter → IsArranged g.order e.path (listing_of (g.tree.list e.path)) xs
    → InHand g s b (Ok e) items n
    → Remains g (with_entered (with_made s (loaded g e ++ unlisted e (g.tree.list e.path))) b xs) items n
make_entered g s b e xs items n o next is arranged h =
    let d = one_dir g s.root b e h.own h.m is h.one in
    let lists = g.tree.list e.path in
    let now = loaded g e ++ unlisted e lists in
    let same : d.things ≡ xs = one_arrangement g.order e.path (listing_of lists) xs d.things o arranged d.arranged in
    let r = h.rest in
    let rest = r.inner ++ r.outer in
    record {
      inner = d.items ++ r.inner;
      outer = r.outer;
      p = suc (d.k + r.p);
      q = r.q;
      within =
          left_entered g s.root b s.place xs s.rests d.items r.inner d.k r.p next r.within
          (subst (λ (xs : List Listed). WalkedEach g s.root b xs d.items d.k) same d.each);
      after = r.after;
      are =
          r.are ∙ (ap (λ (o : List Item). s.made ++ (o ++ rest)) (d.are ∙ sym (append_assoc (loaded g e) (unlisted e lists) d.items))
          ∙ (ap (λ (o : List Item). s.made ++ o) (append_assoc now d.items rest ∙ ap
          (λ (o : List Item). now ++ o) (sym (append_assoc d.items r.inner r.outer)))
          ∙ sym (append_assoc s.made now ((d.items ++ r.inner) ++ r.outer))));
      count = omega (r.count, d.count, arith);
    }

-- what is handed out, and when nothing is left

pub whole_remains : (g : Scene) (root : List ℕ) (b : Branch) (roots : List (List ℕ)) (items : List Item) (n : ℕ)
    → WalkedRoots g [] roots items n → Remains g (state [] root b [] [] roots) items n
whole_remains g root b roots items n w =
    record { inner = []; outer = items; p = 0; q = n; within = (refl, refl); after = w; are = refl; count = omega arith }

pub remains_whole : (g : Scene) (root : List ℕ) (b : Branch) (roots : List (List ℕ)) (items : List Item) (n : ℕ)
    → Remains g (state [] root b [] [] roots) items n → WalkedRoots g [] roots items n
remains_whole g root b roots items n r =
    let all : items ≡ r.outer = r.are ∙ ap (λ (i : List Item). i ++ r.outer) r.within.0 in
    let steps : n ≡ r.q = omega (r.count, r.within.1, arith) in
    rw (all, steps) r.after
