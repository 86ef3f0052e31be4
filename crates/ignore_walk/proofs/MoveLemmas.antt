-- What remains of a walk after a step remained before it, in one step more; and the other way round.
use Rattle.std.proofs.Common.{◌≡◌, ℕ, suc, ◌+◌, List, [], ◌∷◌, ◌++◌, codes, None, Result, Ok, Err, refl, sym, ◌∙◌, ap, subst, arith, append_assoc}
use Rattle.std.proofs.lemmas.List.{append-nil}
use Rattle.ignore_base.specs.Problem.{Problem}
use Rattle.ignore_walk.specs.Branch.{Branch}
use Rattle.ignore_walk.specs.Child.{branch_below, child}
use Rattle.ignore_walk.specs.Entry.{Entry, Item, stdin_entry}
use Rattle.ignore_walk.specs.Left.{InHand, Left, Remains, State}
use Rattle.ignore_walk.specs.Moves.{Gives, IsAfter, IsOfRoots, Moves, Precedes, begins, between, closes, enters, fails, leaves, skips, stdin, takes, with_entered, with_first, with_made, yields}
use Rattle.ignore_walk.specs.Scene.{Scene}
use Rattle.ignore_walk.specs.Walked.{IsOrdered, WalkedOne, closed, dir, failed, leaf, loaded, more, none, skipped, unlisted, yielded}
use Rattle.ignore_walk.specs.Whole.{Whole, above_root, reported_before, root_entry, other}
use Rattle.ignore_walk.specs.Whole.{stdin as stdin_first}
use Rattle.ignore_walk.proofs.LeftLemmas.{begin_root, begin_stdin, innermost, leave, left_entered, left_of, left_outside, make_closed, make_entered, make_failed, make_leaf, make_skipped, take}

-- after a step

gives_on : (g : Scene) (s t : State) (b : Branch) (r : Result Entry Problem) (items : List Item) (n : ℕ) → IsOrdered g.order
    → Gives g s b r t → InHand g s b r items n → Remains g t items n
gives_on g s t b (Err p) items n o fails h = make_failed g s b p items n h
gives_on g s t b (Ok e) items n o (skips f) h = make_skipped g s b e items n f h
gives_on g s t b (Ok e) items n o (yields f) h = make_leaf g s b e items n f h
gives_on g s t b (Ok e) items n o (closes f) h = make_closed g s b e items n f h
gives_on g s t b (Ok e) items n o (enters {xs = xs} next f a) h = make_entered g s b e xs items n o next f a h

pub moves_on : (g : Scene) (s t : State) (items : List Item) (n : ℕ) → IsOrdered g.order → Moves g s t → Remains g s items n
    → (k : ℕ) × (n ≡ suc k) × Remains g t items k
moves_on g s t items n o (leaves {b = b} next) r = leave g t b items n next r
moves_on g s t items n o (takes u {b = b} {x = x} {xs = xs} gives) r =
    let h = take g u.made u.root b x xs u.rests u.seen u.roots items n r in
    (h.0, h.1, gives_on g (with_entered u b xs) t (branch_below b x) (child g u.root b x) items h.0 o gives h.2)
moves_on g s t items n o (stdin {made = made} {last = last} {place = place} {seen = seen} {roots = roots}) r =
    begin_stdin g made last place seen roots (codes "-") items n refl r
moves_on g s t items n o (begins {made = made} {last = last} {root = root} {place = place} {seen = seen} {roots = roots} is gives) r =
    let h = begin_root g made last place seen roots root items n is r in (
      h.0,
      h.1,
      gives_on g (between (made ++ reported_before g seen root) root [] (seen ++ above_root g root) roots) t [] (root_entry g root) items h.0 o
          gives h.2,
    )

-- before a step

made_back : (g : Scene) (s : State) (b : Branch) (r : Result Entry Problem) (now items : List Item) (n : ℕ)
    → WalkedOne g s.root b r now 0 → Remains g (with_made s now) items n → InHand g s b r items n
made_back g s b r now items n one m =
    record {
      own = now;
      m = 0;
      one = one;
      rest = record {
        inner = m.inner;
        outer = m.outer;
        p = m.p;
        q = m.q;
        within = m.within;
        after = m.after;
        are = m.are ∙ append_assoc s.made now (m.inner ++ m.outer);
        count = m.count;
      };
    }

gives_back : (g : Scene) (s t : State) (b : Branch) (r : Result Entry Problem) (items : List Item) (n : ℕ)
    → Gives g s b r t → Remains g t items n → InHand g s b r items n
gives_back g s t b (Err p) items n fails m = made_back g s b (Err p) (Err p ∷ []) items n failed m
gives_back g s t b (Ok e) items n (skips f) m = record { own = []; m = 0; one = skipped f; rest = m }
gives_back g s t b (Ok e) items n (yields f) m = made_back g s b (Ok e) (yielded g.settings e None) items n (leaf f) m
gives_back g s t b (Ok e) items n (closes f) m = made_back g s b (Ok e) (loaded g e) items n (closed f) m
gives_back g s t b (Ok e) items n (enters {xs = xs} next f a) m =
    let i = innermost g s.root b xs s.rests m.inner m.p m.within in
    let own = loaded g e in
    let fault = unlisted e (g.tree.list e.path) in
    let now = own ++ fault in
    let rest = i.others ++ m.outer in
    record {
      own = own ++ (fault ++ i.own);
      m = suc i.m;
      one = dir f a i.each;
      rest = record {
        inner = i.others;
        outer = m.outer;
        p = i.k;
        q = m.q;
        within = left_outside g s.root b s.place s.rests i.others i.k next i.rest;
        after = m.after;
        are = m.are ∙ (append_assoc s.made now (m.inner ++ m.outer)
            ∙ ap (λ (o : List Item). s.made ++ o) (ap (λ (i : List Item). now ++ (i ++ m.outer)) i.are
            ∙ (ap (λ (o : List Item). now ++ o) (append_assoc i.own i.others m.outer) ∙ (sym (append_assoc now i.own rest)
            ∙ ap (λ (o : List Item). o ++ rest) (append_assoc own fault i.own)))));
        count = omega (m.count, i.count, arith);
      };
    }

pub moves_back : (g : Scene) (s t : State) (items : List Item) (n : ℕ) → Moves g s t → Remains g t items n → Remains g s items (suc n)
moves_back g s t items n (leaves {b = b} next) r =
    let same : 0 + r.p ≡ r.p = omega arith in
    record {
      inner = r.inner;
      outer = r.outer;
      p = suc r.p;
      q = r.q;
      within = subst (λ (k : ℕ). Left g t.root b ([] ∷ t.rests) r.inner (suc k)) same
          (left_entered g t.root b t.place [] t.rests [] r.inner 0 r.p next r.within none);
      after = r.after;
      are = r.are;
      count = omega (r.count, arith);
    }
moves_back g s t items n (takes u {b = b} {x = x} {xs = xs} gives) r =
    let h = gives_back g (with_entered u b xs) t (branch_below b x) (child g u.root b x) items n gives r in
    let d = h.rest in
    let i = innermost g u.root b xs u.rests d.inner d.p d.within in
    record {
      inner = (h.own ++ i.own) ++ i.others;
      outer = d.outer;
      p = suc (suc (h.m + i.m) + i.k);
      q = d.q;
      within = left_of g u.root b (x ∷ xs) u.rests (h.own ++ i.own) i.others (suc (h.m + i.m)) i.k i.rest (more h.one i.each);
      after = d.after;
      are = d.are ∙ ap (λ (o : List Item). u.made ++ o) (ap (λ (i : List Item). h.own ++ (i ++ d.outer)) i.are
          ∙ (sym (append_assoc h.own (i.own ++ i.others) d.outer)
          ∙ ap (λ (o : List Item). o ++ d.outer) (sym (append_assoc h.own i.own i.others))));
      count = omega (d.count, i.count, arith);
    }
moves_back g s t items n (stdin {made = made} {last = last} {place = place} {seen = seen} {roots = roots}) r =
    let first : List Item = Ok (stdin_entry, None) ∷ [] in
    record {
      inner = [];
      outer = first ++ r.outer;
      p = 0;
      q = suc r.q;
      within = (refl, refl);
      after = stdin_first r.after;
      are = r.are ∙ (append_assoc made first (r.inner ++ r.outer) ∙ ap (λ (i : List Item). made ++ (first ++ (i ++ r.outer))) r.within.0);
      count = omega (r.count, r.within.1, arith);
    }
moves_back g s t items n (begins {made = made} {last = last} {root = root} {place = place} {seen = seen} {roots = roots} is gives) r =
    let reported = reported_before g seen root in
    let h = gives_back g (between (made ++ reported) root [] (seen ++ above_root g root) roots) t [] (root_entry g root) items n gives r in
    let d = h.rest in
    record {
      inner = [];
      outer = reported ++ (h.own ++ d.outer);
      p = 0;
      q = suc (h.m + d.q);
      within = (refl, refl);
      after = other is h.one d.after;
      are = d.are ∙ (append_assoc made reported (h.own ++ (d.inner ++ d.outer))
          ∙ ap (λ (i : List Item). made ++ (reported ++ (h.own ++ (i ++ d.outer)))) d.within.0);
      count = omega (d.count, d.within.1, arith);
    }

-- an item that was handed out

pub first_back : (g : Scene) (item : Item) (t : State) (items : List Item) (n : ℕ) → Remains g t items n
    → Remains g (with_first item t) (item ∷ items) n
first_back g item t items n r =
    record {
      inner = r.inner;
      outer = r.outer;
      p = r.p;
      q = r.q;
      within = r.within;
      after = r.after;
      are = ap (λ (i : List Item). item ∷ i) r.are;
      count = r.count;
    }

-- what remains before, by what remains now

pub precedes_none : (g : Scene) (s : State) → Precedes g s [] 0 s
precedes_none g s = λ items n r.
    let same : n ≡ n + 0 = omega arith in
    subst (λ (k : ℕ). Remains g s items k) same r

pub precedes_step : (g : Scene) (s t u : State) (front : List Item) (k : ℕ) → Precedes g s front k t → Moves g t u → Precedes g s front (suc k) u
precedes_step g s t u front k h step = λ items n r.
    let same : suc n + k ≡ n + suc k = omega arith in
    subst (λ (k : ℕ). Remains g s (front ++ items) k) same (h items (suc n) (moves_back g t u items n step r))

pub precedes_same : (g : Scene) (s t u : State) (front : List Item) (k : ℕ) → Precedes g s front k t → t ≡ u → Precedes g s front k u
precedes_same g s t u front k h same = subst (λ (u : State). Precedes g s front k u) same h

pub precedes_first : (g : Scene) (s t u : State) (item : Item) (k : ℕ) → Precedes g s [] k t → t ≡ with_first item u
    → Precedes g s (item ∷ []) k u
precedes_first g s t u item k h same = λ items n r.
    h (item ∷ items) n (subst (λ (t : State). Remains g t (item ∷ items) n) (sym same) (first_back g item u items n r))

-- what the roots give, by what remains now

pub after_none : (g : Scene) (roots : List (List ℕ)) (s : State) → IsOfRoots g roots s → IsAfter g roots [] 0 s
after_none g roots s h = λ items n r.
    let same : n ≡ n + 0 = omega arith in
    subst (λ (k : ℕ). Whole g roots items k) same (h items n r)

pub after_more : (g : Scene) (roots : List (List ℕ)) (s t : State) (front : List Item) (item : Item) (k j : ℕ) → IsAfter g roots front k s
    → Precedes g s (item ∷ []) j t → IsAfter g roots (front ++ item ∷ []) (k + j) t
after_more g roots s t front item k j h p = λ items n r.
    let same : n + j + k ≡ n + (k + j) = omega arith in
    subst (λ (all : List Item). Whole g roots all (n + (k + j))) (sym (append_assoc front (item ∷ []) items))
    (subst (λ (m : ℕ). Whole g roots (front ++ item ∷ items) m) same (h (item ∷ items) (n + j) (p items n r)))

pub after_all : (g : Scene) (roots : List (List ℕ)) (s : State) (front : List Item) (k n : ℕ) → IsAfter g roots front k s → Remains g s [] n
    → Whole g roots front (n + k)
after_all g roots s front k n h r = subst (λ (all : List Item). Whole g roots all (n + k)) (append-nil front) (h [] n r)
