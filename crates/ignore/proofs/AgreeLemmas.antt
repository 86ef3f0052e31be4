-- What the matchers of a builder keep is what the queries of its roots keep.
use Rattle.std.proofs.Common.{◌≡◌, ◌⊎◌, ◌↔◌, ⊎_elim, inl, inr, ℕ, zero, suc, Bool, true, false, List, [], ◌∷◌, bytes_eq, codes, map, reverse, string_bytes, Contains, Option, refl, sym, ap, ◌∙◌, subst, arith}
use Rattle.ignore_base.specs.Paths.{joined}
use Rattle.ignore_dir.specs.Query.{query}
use Rattle.ignore_dir.specs.Scene.{scene}
use Rattle.ignore_dir.specs.declared.outside.Outside.{Outside}
use Rattle.ignore_dir.specs.declared.settings.Settings.{Settings}
use Rattle.ignore_files.specs.Tree.{Tree}
use Rattle.ignore_files.specs.declared.env.Env.{Env}
use Rattle.ignore_query.specs.Reached.{scene_of}
use Rattle.ignore_query.specs.declared.incremental.IncrementalIgnore.{IncrementalIgnore}
use Rattle.ignore_walk.specs.Agreement.{IsKeptBelow, Reachable, is_kept, keeps}
use Rattle.ignore_walk.specs.Branch.{Branch}
use Rattle.ignore_walk.specs.Child.{is_dir_kind}
use Rattle.ignore_walk.specs.Entry.{Entry, Item, stdin_entry}
use Rattle.ignore_walk.specs.Scene.{Scene, queries}
use Rattle.ignore_walk.specs.Visits.{IsYielded}
use Rattle.ignore_walk.specs.Whole.{Whole}
use Rattle.ignore_walk.specs.declared.callbacks.Callbacks.{Ghosts as Callbacks}
use Rattle.ignore_walk.specs.declared.callbacks.Order.{Order}
use Rattle.ignore.specs.Agreement.{IsKeptByOne, IsMatcherIn, IsReached, answer_at, matcher_root}
use Rattle.ignore.specs.Asked.{IsOutside}
use Rattle.ignore.specs.Headline.{IsSceneOf}
use Rattle.ignore.specs.Matchers.{AreMatchers, asked_at, asked_by}
use Rattle.ignore.specs.declared.options.WalkOptions.{WalkOptions}

-- what a list contains, through a function

contains_map : {A B : Type 0} (f : A → B) (xs : List A) (x : A) → Contains xs x → Contains (map f xs) (f x)
contains_map f [] x (k, lt, at) = absurd (omega (lt, arith))
contains_map f (y ∷ ys) x (zero, lt, at) = (zero, omega arith, ap f at)
contains_map f (y ∷ ys) x (suc k, lt, at) =
    let r = contains_map f ys x (k, omega (lt, arith), at) in
    let less = r.1 in (suc r.0, omega (less, arith), r.2)

contains_unmap : {A B : Type 0} (f : A → B) (xs : List A) (y : B) → Contains (map f xs) y → (x : A) × Contains xs x × (f x ≡ y)
contains_unmap f [] y (k, lt, at) = absurd (omega (lt, arith))
contains_unmap f (x ∷ xs) y (zero, lt, at) = (x, (zero, omega arith, refl), at)
contains_unmap f (x ∷ xs) y (suc k, lt, at) =
    let r = contains_unmap f xs y (k, omega (lt, arith), at) in
    let less = r.1.1 in (r.0, (suc r.1.0, omega (less, arith), r.1.2), r.2)

-- the query of a matcher is that of its root

scene_is : (g : Scene) (m : IncrementalIgnore) → IsMatcherIn g m → scene_of m.asked g.tree g.loads ≡ queries g (matcher_root m)
scene_is g m in_ =
    ap (λ (s : Settings). scene g.tree g.loads s m.asked.outside (matcher_root m)) in_.settings
    ∙ ap (λ (o : Outside). scene g.tree g.loads g.settings o (matcher_root m)) in_.outside

pub answer_kept : (g : Scene) (m : IncrementalIgnore) (place : Branch) (e : Entry) → IsMatcherIn g m
    → keeps (answer_at g m place e) ≡ is_kept g (matcher_root m) place e
unfolding is_kept
answer_kept g m place e in_ = ap (λ q. keeps (query q (joined (reverse place)) (is_dir_kind e.kind)).0) (scene_is g m in_)

-- the matchers of a builder are those of its roots

-- what a matcher of a root is asked by
abbrev asked_below : WalkOptions → Outside → Option (List ℕ) → List ℕ → Settings × Outside × List ℕ × Option (List ℕ)
asked_below b o dir root = (b.settings, o, root, dir)

module _ {S : Type 0} (calls : Callbacks S) (owner : S) (env : Env) (b : WalkOptions) (order : Order) (tree : Tree) (o : Outside) (g : Scene)
    (ms : List IncrementalIgnore) (scene : IsSceneOf calls owner b order tree o g)
    (asked : map asked_by ms ≡ asked_at b o env.current_dir) where
  -- a matcher that is asked by these is one of the walk
  in_scene : (m : IncrementalIgnore) (root : List ℕ) → asked_below b o env.current_dir root ≡ asked_by m → IsMatcherIn g m
  in_scene m root is = record {
    settings = sym (ap (λ t. t.0) is) ∙ sym scene.settings;
    outside = sym (ap (λ t. t.1) is) ∙ sym scene.outside;
  }

  of_matcher : (m : IncrementalIgnore) → Contains ms m → IsMatcherIn g m × Contains b.roots (matcher_root m)
  of_matcher m has =
      let r = contains_unmap (asked_below b o env.current_dir) b.roots (asked_by m)
      (subst (λ l. Contains l (asked_by m)) asked (contains_map asked_by ms m has)) in
      (in_scene m r.0 r.2, subst (λ (path : List ℕ). Contains b.roots path) (ap (λ t. t.2) r.2) r.1)

  of_root : (root : List ℕ) → Contains b.roots root → (m : IncrementalIgnore) × Contains ms m × IsMatcherIn g m × (matcher_root m ≡ root)
  of_root root has =
      let t = asked_below b o env.current_dir root in
      let r = contains_unmap asked_by ms t
      (subst (λ l. Contains l t) (sym asked) (contains_map (asked_below b o env.current_dir) b.roots root has)) in
      (r.0, r.1, in_scene r.0 root (sym r.2), ap (λ u. u.2) r.2)

  kept_by_one : (e : Entry) → IsKeptBelow g b.roots e → IsKeptByOne g ms e
  kept_by_one e k =
      let m = of_root k.root k.given in
      let at = sym m.3 in
      let P : List ℕ → Type 0 = λ root. is_kept g root k.place e ≡ true in
      record {
        matcher = m.0;
        place = k.place;
        given = m.1;
        reached = record {
          no_stdin = subst (λ root. bytes_eq root (codes "-") ≡ false) at k.no_stdin;
          reachable = subst (λ root. Reachable g root k.place e) at k.reachable;
          within = k.within;
        };
        kept = answer_kept g m.0 k.place e m.2 ∙ subst P at k.kept;
      }

  kept_below : (e : Entry) → IsKeptByOne g ms e → IsKeptBelow g b.roots e
  kept_below e k =
      let m = of_matcher k.matcher k.given in
      record {
        root = matcher_root k.matcher;
        place = k.place;
        given = m.1;
        no_stdin = k.reached.no_stdin;
        reachable = k.reached.reachable;
        within = k.reached.within;
        kept = sym (answer_kept g k.matcher k.place e m.0) ∙ k.kept;
      }

abbrev IsStdin : List (List ℕ) → Entry → Type 0
IsStdin roots e = (e ≡ stdin_entry) × Contains roots (codes "-")

-- what is said of the queries of the roots, of the matchers
pub by_matchers : {S : Type 0} (calls : Callbacks S) (owner : S) (env : Env) (b : WalkOptions) (order : Order) (tree : Tree) (o p : Outside)
    (g : Scene) (ms : List IncrementalIgnore) (e : Entry) (Y : Type 0) → IsSceneOf calls owner b order tree o g → p ≡ o
    → map asked_by ms ≡ asked_at b p env.current_dir → Y ↔ (IsStdin b.roots e ⊎ IsKeptBelow g b.roots e)
    → Y ↔ (IsStdin b.roots e ⊎ IsKeptByOne g ms e)
by_matchers calls owner env b order tree o p g ms e Y scene same asked t =
    let at = subst (λ (x : Outside). map asked_by ms ≡ asked_at b x env.current_dir) same asked in (
      λ y. ⊎_elim (λ (s : IsStdin b.roots e). inl s) (λ (k : IsKeptBelow g b.roots e).
          inr (kept_by_one calls owner env b order tree o g ms scene at e k)) (t.0 y),
      λ (k : IsStdin b.roots e ⊎ IsKeptByOne g ms e).
          t.1 (⊎_elim (λ (s : IsStdin b.roots e). inl s) (λ (k : IsKeptByOne g ms e).
          inr (kept_below calls owner env b order tree o g ms scene at e k)) k),
    )

-- each matcher of a builder is one of the walk
pub are_in : {S : Type 0} (calls : Callbacks S) (owner : S) (env : Env) (b : WalkOptions) (order : Order) (tree : Tree) (o p : Outside)
    (g : Scene) (ms : List IncrementalIgnore) (m : IncrementalIgnore) → IsSceneOf calls owner b order tree o g → p ≡ o
    → map asked_by ms ≡ asked_at b p env.current_dir → Contains ms m → IsMatcherIn g m × Contains b.roots (matcher_root m)
are_in calls owner env b order tree o p g ms m scene same asked has =
    of_matcher calls owner env b order tree o g ms scene
    (subst (λ (x : Outside). map asked_by ms ≡ asked_at b x env.current_dir) same asked) m has
