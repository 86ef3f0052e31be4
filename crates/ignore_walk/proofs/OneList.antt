-- An entry gives no two lists, and roots give no two lists.
use Rattle.std.proofs.Common.{◌≡◌, ℕ, suc, ◌+◌, true, false, List, [], ◌∷◌, ◌++◌, codes, bytes_eq, None, Result, Ok, Err, refl, ◌∙◌, ap, subst, arith}
use Rattle.ignore_base.specs.Problem.{Problem}
use Rattle.ignore_files.specs.declared.types.Listed.{Listed}
use Rattle.ignore_walk.specs.Branch.{Branch}
use Rattle.ignore_walk.specs.Child.{child, branch_below}
use Rattle.ignore_walk.specs.Entry.{Entry, Item, stdin_entry}
use Rattle.ignore_walk.specs.Scene.{Scene}
use Rattle.ignore_walk.specs.Walked.{IsOrdered, WalkedOne, WalkedEach, loaded, unlisted, listing_of, failed, skipped, leaf, closed, dir, none, more}
use Rattle.ignore_walk.specs.Whole.{WalkedRoots, root_entry, above_root, reported_before, stdin, other}
use Rattle.ignore_walk.specs.Whole.{none as no_roots}
use Rattle.ignore_walk.proofs.Arranged.{one_arrangement}
use Rattle.ignore_walk.proofs.Given.{each_none, each_more, one_failed, one_skipped, one_leaf, one_closed, one_dir}

mutual
  pub one_list : (g : Scene) (root : List ℕ) (b : Branch) (r : Result Entry Problem) (xs ys : List Item) (m n : ℕ)
      → IsOrdered g.order → WalkedOne g root b r xs m → WalkedOne g root b r ys n → (ys ≡ xs) × (n ≡ m)
  one_list g root b (Err p) xs ys m n o failed v = one_failed g root b p ys n v
  one_list g root b (Ok e) xs ys m n o (skipped f) v = one_skipped g root b e ys n f v
  one_list g root b (Ok e) xs ys m n o (leaf f) v = one_leaf g root b e ys n f v
  one_list g root b (Ok e) xs ys m n o (closed f) v = one_closed g root b e ys n f v
  one_list g root b (Ok e) xs ys m n o (dir {xs = ls} {items = items} {n = k} f a w) v =
      let t = one_dir g root b e ys n f v in
      let same : t.things ≡ ls = one_arrangement g.order e.path (listing_of (g.tree.list e.path)) ls t.things o a t.arranged in
      let r = each_list g root b ls items t.items k t.k o w (subst (λ l. WalkedEach g root b l t.items t.k) same t.each) in
      (t.are ∙ ap (λ (i : List Item). loaded g e ++ (unlisted e (g.tree.list e.path) ++ i)) r.0, t.count ∙ ap suc r.1)

  pub each_list : (g : Scene) (root : List ℕ) (b : Branch) (ls : List Listed) (xs ys : List Item) (m n : ℕ)
      → IsOrdered g.order → WalkedEach g root b ls xs m → WalkedEach g root b ls ys n → (ys ≡ xs) × (n ≡ m)
  each_list g root b [] xs ys m n o none v = each_none g root b ys n v
  each_list g root b (l ∷ ls) xs ys m n o (more {own = own} {others = others} {m = p} {n = q} w rest) v =
      let t = each_more g root b l ls ys n v in
      let first = one_list g root (branch_below b l) (child g root b l) own t.own p t.p o w t.one in
      let then_ = each_list g root b ls others t.others q t.q o rest t.each in (
        t.are ∙ (ap (λ (o : List Item). o ++ t.others) first.0 ∙ ap (λ (o :
            List Item). own ++ o) then_.0),
        omega (t.count, first.1, then_.1, arith),
      )

-- what is left where the first root is standard input
pub record Stdin (g : Scene) (seen roots : List (List ℕ)) (ys : List Item) (n : ℕ) : Type 0 where
  pub items : List Item
  pub k : ℕ
  pub rest : WalkedRoots g seen roots items k
  pub are : ys ≡ Ok (stdin_entry, None) ∷ items
  pub count : n ≡ suc k

pub roots_stdin : (g : Scene) (seen roots : List (List ℕ)) (r : List ℕ) (ys : List Item) (n : ℕ) → bytes_eq r (codes "-") ≡ true
    → WalkedRoots g seen (r ∷ roots) ys n → Stdin g seen roots ys n
roots_stdin g seen roots r ys n is (stdin w) = record { items = _; k = _; rest = w; are = refl; count = refl }
roots_stdin g seen roots r ys n is (other h w v) = absurd (cc (is, h))

-- what is left where it is another
pub record Root (g : Scene) (seen roots : List (List ℕ)) (r : List ℕ) (ys : List Item) (n : ℕ) : Type 0 where
  pub own : List Item
  pub items : List Item
  pub p : ℕ
  pub k : ℕ
  pub one : WalkedOne g r [] (root_entry g r) own p
  pub rest : WalkedRoots g (seen ++ above_root g r) roots items k
  pub are : ys ≡ reported_before g seen r ++ (own ++ items)
  pub count : n ≡ suc (p + k)

pub roots_root : (g : Scene) (seen roots : List (List ℕ)) (r : List ℕ) (ys : List Item) (n : ℕ) → bytes_eq r (codes "-") ≡ false
    → WalkedRoots g seen (r ∷ roots) ys n → Root g seen roots r ys n
roots_root g seen roots r ys n is (stdin w) = absurd (cc (is))
roots_root g seen roots r ys n is (other h w v) = record { own = _; items = _; p = _; k = _; one = w; rest = v; are = refl; count = refl }

pub roots_none : (g : Scene) (seen : List (List ℕ)) (ys : List Item) (n : ℕ) → WalkedRoots g seen [] ys n → (ys ≡ []) × (n ≡ 0)
roots_none g seen ys n no_roots = (refl, refl)

pub one_whole : (g : Scene) (seen roots : List (List ℕ)) (xs ys : List Item) (m n : ℕ)
    → IsOrdered g.order → WalkedRoots g seen roots xs m → WalkedRoots g seen roots ys n → (ys ≡ xs) × (n ≡ m)
one_whole g seen [] xs ys m n o no_roots v = roots_none g seen ys n v
one_whole g seen (r ∷ roots) xs ys m n o (stdin {items = items} {n = k} w) v =
    let t = roots_stdin g seen roots r ys n refl v in
    let same = one_whole g seen roots items t.items k t.k o w t.rest in
    (t.are ∙ ap (λ (i : List Item). Ok (stdin_entry, None) ∷ i) same.0, t.count ∙ ap suc same.1)
one_whole g seen (r ∷ roots) xs ys m n o (other {own = own} {items = items} {m = p} {n = k} h w rest) v =
    let t = roots_root g seen roots r ys n h v in
    let first = one_list g r [] (root_entry g r) own t.own p t.p o w t.one in
    let same = one_whole g (seen ++ above_root g r) roots items t.items k t.k o rest t.rest in (
      t.are ∙ ap (λ (i : List Item). reported_before g seen r ++ i) (ap (λ (i : List Item). i ++ t.items) first.0 ∙ ap (λ (i :
          List Item). own ++ i) same.0),
      omega (t.count, first.1, same.1, arith),
    )
