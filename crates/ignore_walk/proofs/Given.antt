-- What an entry, and listed things, give: by the fate of the entry, and by the first of the things.
use Rattle.std.proofs.Common.{◌≡◌, ℕ, suc, ◌+◌, List, [], ◌∷◌, ◌++◌, None, Ok, Err, refl}
use Rattle.ignore_base.specs.Problem.{Problem}
use Rattle.ignore_files.specs.declared.types.Listed.{Listed}
use Rattle.ignore_walk.specs.Branch.{Branch}
use Rattle.ignore_walk.specs.Child.{child, branch_below}
use Rattle.ignore_walk.specs.Entry.{Entry, Item}
use Rattle.ignore_walk.specs.Scene.{Scene}
use Rattle.ignore_walk.specs.Walked.{IsArranged, WalkedOne, WalkedEach, skip, yield, load, enter, fate, yielded, loaded, listing_of, unlisted, failed, skipped, leaf, closed, dir, none, more}

pub each_none : (g : Scene) (root : List ℕ) (b : Branch) (own : List Item) (m : ℕ) → WalkedEach g root b [] own m → (own ≡ []) × (m ≡ 0)
each_none g root b own m none = (refl, refl)

pub record More (g : Scene) (root : List ℕ) (b : Branch) (x : Listed) (xs : List Listed) (items : List Item) (n : ℕ) : Type 0 where
  pub own : List Item
  pub others : List Item
  pub p : ℕ
  pub q : ℕ
  pub one : WalkedOne g root (branch_below b x) (child g root b x) own p
  pub each : WalkedEach g root b xs others q
  pub are : items ≡ own ++ others
  pub count : n ≡ suc (p + q)

pub each_more : (g : Scene) (root : List ℕ) (b : Branch) (x : Listed) (xs : List Listed) (items : List Item) (n : ℕ)
    → WalkedEach g root b (x ∷ xs) items n → More g root b x xs items n
each_more g root b x xs items n (more w v) = record { own = _; others = _; p = _; q = _; one = w; each = v; are = refl; count = refl }

pub one_failed : (g : Scene) (root : List ℕ) (b : Branch) (p : Problem) (own : List Item) (m : ℕ) → WalkedOne g root b (Err p) own m
    → (own ≡ Err p ∷ []) × (m ≡ 0)
one_failed g root b p own m failed = (refl, refl)

pub one_skipped : (g : Scene) (root : List ℕ) (b : Branch) (e : Entry) (own : List Item) (m : ℕ) → fate g root b e ≡ skip
    → WalkedOne g root b (Ok e) own m
    → (own ≡ []) × (m ≡ 0)
one_skipped g root b e own m is (skipped f) = (refl, refl)
one_skipped g root b e own m is (leaf f) = absurd (cc)
one_skipped g root b e own m is (closed f) = absurd (cc)
one_skipped g root b e own m is (dir f a w) = absurd (cc)

pub one_leaf : (g : Scene) (root : List ℕ) (b : Branch) (e : Entry) (own : List Item) (m : ℕ) → fate g root b e ≡ yield
    → WalkedOne g root b (Ok e) own m
    → (own ≡ yielded g.settings e None) × (m ≡ 0)
one_leaf g root b e own m is (skipped f) = absurd (cc)
one_leaf g root b e own m is (leaf f) = (refl, refl)
one_leaf g root b e own m is (closed f) = absurd (cc)
one_leaf g root b e own m is (dir f a w) = absurd (cc)

pub one_closed : (g : Scene) (root : List ℕ) (b : Branch) (e : Entry) (own : List Item) (m : ℕ) → fate g root b e ≡ load
    → WalkedOne g root b (Ok e) own m
    → (own ≡ loaded g e) × (m ≡ 0)
one_closed g root b e own m is (skipped f) = absurd (cc)
one_closed g root b e own m is (leaf f) = absurd (cc)
one_closed g root b e own m is (closed f) = (refl, refl)
one_closed g root b e own m is (dir f a w) = absurd (cc)

-- an entered directory: what its listing gives, in some arrangement
pub record Entered (g : Scene) (root : List ℕ) (b : Branch) (e : Entry) (own : List Item) (m : ℕ) : Type 0 where
  pub things : List Listed
  pub items : List Item
  pub k : ℕ
  pub arranged : IsArranged g.order e.path (listing_of (g.tree.list e.path)) things
  pub each : WalkedEach g root b things items k
  pub are : own ≡ loaded g e ++ (unlisted e (g.tree.list e.path) ++ items)
  pub count : m ≡ suc k

pub one_dir : (g : Scene) (root : List ℕ) (b : Branch) (e : Entry) (own : List Item) (m : ℕ) → fate g root b e ≡ enter
    → WalkedOne g root b (Ok e) own m → Entered g root b e own m
one_dir g root b e own m is (skipped f) = absurd (cc)
one_dir g root b e own m is (leaf f) = absurd (cc)
one_dir g root b e own m is (closed f) = absurd (cc)
one_dir g root b e own m is (dir {xs = xs} {items = items} {n = k} f a w) = record {
  things = xs;
  items = items;
  k = k;
  arranged =
      a;
  each = w;
  are = refl;
  count = refl;
}
