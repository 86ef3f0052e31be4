-- What remains of a builder's walk, and the headline.
use Rattle.std.proofs.Common.{◌≡◌, ◌≤◌, ◌<◌, ◌⊎◌, ℕ, List, [], ◌∷◌, ◌++◌, Option, Result, Ok, Err, IfOk, IfErr, inl, inr, sym, ◌∙◌, ap, subst}
use Rattle.std.specs.Iterator.{Drains, Yields, YieldsThen}
use Rattle.ignore_dir.specs.declared.outside.Outside.{Outside}
use Rattle.ignore_files.specs.declared.files.Files.{Ghosts as Files}
use Rattle.ignore_files.specs.Gives.{IsHonest}
use Rattle.ignore_files.specs.Tree.{Tree}
use Rattle.ignore_files.specs.declared.env.Env.{Env}
use Rattle.ignore_base.specs.declared.fault.Fault.TheVariants.{StepLimit}
use Rattle.ignore_base.specs.Problem.{Problem, io, memory, problem_of}
use Rattle.ignore_base.specs.declared.error.Error.{Error}
use Rattle.ignore_walk.specs.declared.walk.Walk.{Walk}
use Rattle.ignore_walk.specs.Entry.{Item}
use Rattle.ignore_walk.specs.Nexts.{EndsBy, Remaining, Starts}
use Rattle.ignore_walk.specs.Paces.{TookSteps, Work}
use Rattle.ignore_walk.specs.Runs.{IsRun}
use Rattle.ignore_walk.specs.Scene.{Scene}
use Rattle.ignore_walk.specs.Suits.{Suits}
use Rattle.ignore_walk.specs.Whole.{Whole}
use Rattle.ignore_walk.specs.declared.callbacks.Callbacks.{Ghosts as Callbacks}
use Rattle.ignore_walk.specs.declared.callbacks.Order.{Order}
use Rattle.ignore.specs.declared.options.WalkOptions.{WalkOptions}
use Rattle.ignore.specs.Closures.{options_of}
use Rattle.ignore.specs.Finished.{IsEnd, IsFinished}
use Rattle.ignore.specs.Headline.{Headline, IsAboveLimit, IsOnlyList, IsSceneOf}
use Rattle.ignore.specs.Walks.{IsNewWalkBy, IsWalkBy}
use Rattle.ignore.proofs.OutsideOnly.{scene_by}

-- a scene of a walk is one that its owner suits
pub scene_suits : {F S : Type 0} (files : Files F) (calls : Callbacks S) (f : F) (owner : S) (b : WalkOptions) (order : Order)
    (t : Tree) (o : Outside) (g : Scene) → IsHonest files f t → IsSceneOf calls owner b order t o g
    → Suits files calls f owner b.settings o (options_of b order) g
scene_suits files calls f owner b order t o g honest s = record {
  honest = subst (λ (t : Tree). IsHonest files f t) (sym s.tree) honest;
  loads = s.loads;
  settings = s.settings;
  outside = s.outside;
  device = s.device;
  filter = s.filter;
  order = s.sorted;
}

-- from a fact of the value in an `Ok` to another
pub on_ok : {A E : Type 0} {P Q : A → Type 0} (r : Result A E) → ((a : A) → P a → Q a) → IfOk r P → IfOk r Q
on_ok (Ok a) f p = f a p
on_ok (Err e) f p = tt

-- a fact of each `Ok`
pub on_each_ok : {A E : Type 0} {P : Type 0} (r : Result A E) → P → IfOk r (λ _. P)
on_each_ok (Ok a) p = p
on_each_ok (Err e) p = tt

-- of a finished walk no item ended it, the last one included
none_last : (front : List Item) (last : Item) → IsFinished (front ++ last ∷ []) → ¬ (IsEnd last)
none_last [] last (not, done) end = not end
none_last (item ∷ front) last (not, done) end = none_last front last done end

is_end : (item : Item) (left n : ℕ) → EndsBy item left n → IsEnd item
is_end item left n (inl m) = inl m
is_end item left n (inr (l, few)) = inr l

-- a finished run is the whole list
pub finished_run : (all items : List Item) (left n : ℕ) → IsFinished all → IsRun all items left n → (all ≡ items) × (n ≤ left)
finished_run all items left n done (inl whole) = whole
finished_run all items left n done (inr e) =
    absurd (none_last e.front e.last (subst IsFinished e.are done) (is_end e.last left n e.ended))

-- calls of a walk are calls of what it keeps
pub yields_inner : {V W A : Type 0} (R : W → Option A → W → Type 0) (inner : V → W) (a t : V) (xs : List A)
    → Yields (λ a o b. R (inner a) o (inner b)) a xs t → Yields R (inner a) xs (inner t)
yields_inner R inner a t [] y = ap inner y
yields_inner R inner a t (x ∷ xs) (j, s, y) = (inner j, s, yields_inner R inner j t xs y)

pub drains_inner : {V W A : Type 0} (R : W → Option A → W → Type 0) (inner : V → W) (a : V) (xs : List A)
    → Drains (λ a o b. R (inner a) o (inner b)) a xs → Drains R (inner a) xs
drains_inner R inner a xs (u, (t, y, s)) = (inner u, (inner t, yields_inner R inner a t xs y, s))

pub yields_then_inner : {V W A : Type 0} (R : W → Option A → W → Type 0) (inner : V → W) (a v : V) (xs : List A) (answer : Option A)
    → YieldsThen (λ a o b. R (inner a) o (inner b)) a xs answer v → YieldsThen R (inner a) xs answer (inner v)
yields_then_inner R inner a v xs answer (t, y, s) = (inner t, yields_inner R inner a t xs y, s)

-- the result of a walk that was collected

pub only_of : {F S V E : Type 0} (files : Files F) (calls : Callbacks S) (f : F) (owner : S) (env : Env) (b : WalkOptions)
    (order : Order) (w : Walk F S) (view : V → List Item) (r : Result V E) → IsWalkBy files calls f owner env b order w
    → w.left ≡ b.limit
    → ((g : Scene) (items : List Item) (n : ℕ) → Remaining files calls g w items n → IfOk r (λ v. view v ≡ items))
    → ((g : Scene) (items : List Item) (n : ℕ) → Remaining files calls g w items n → IfOk r (λ v. n ≤ w.left))
    → IfOk r (λ v. IsOnlyList files calls f owner env b order (view v))
only_of files calls f owner env b order w view (Ok v) by limit complete within = λ tree honest.
    let o = by tree honest in (
      o.0,
      o.1,
      λ s items n scene whole.
          let r = o.2 s items n (scene_suits files calls f owner b order tree o.0 s honest scene) whole in
          (complete s items n r, subst (λ (left : ℕ). n ≤ left) limit (within s items n r)),
    )
only_of files calls f owner env b order w view (Err e) by limit complete within = tt

pub headline_of : {F S V E : Type 0} (files : Files F) (calls : Callbacks S) (f : F) (owner : S) (env : Env) (b : WalkOptions)
    (order : Order) (w : Walk F S) (view : V → List Item) (r : Result V E) → IsNewWalkBy files calls f owner env b order w
    → w.left ≡ b.limit
    → ((g : Scene) (roots : List (List ℕ)) → Starts files calls g w roots → IfOk r (λ v. (n : ℕ) × (n ≤ w.left) × Whole g roots (view v) n))
    → IfOk r (λ v. Headline files calls f owner env b order (view v))
headline_of files calls f owner env b order w view (Ok v) by limit exists = λ tree honest outside read s scene.
    let o = by tree honest in
    let by_read = scene_by calls owner env b order tree outside o.0 s read o.1 scene in
    let l = exists s b.roots (o.2 s (scene_suits files calls f owner b order tree o.0 s honest by_read)) in
    (l.0, subst (λ (left : ℕ). l.0 ≤ left) limit l.1, l.2)
headline_of files calls f owner env b order w view (Err e) by limit exists = tt

pub ended_of : {F S V E : Type 0} (files : Files F) (calls : Callbacks S) (f : F) (owner : S) (env : Env) (b : WalkOptions)
    (order : Order) (w : Walk F S) (problem : E → Problem) (r : Result V E) → IsWalkBy files calls f owner env b order w
    → w.left ≡ b.limit
    → ((g : Scene) (items : List Item) (n : ℕ) → Remaining files calls g w items n
    → IfErr r (λ e. (problem e ≡ memory) ⊎ ((problem e ≡ io StepLimit) × (w.left < n))))
    → IfErr r (λ e. (problem e ≡ memory) ⊎ (problem e ≡ io StepLimit))
    → IfErr r (λ e. (problem e ≡ memory) ⊎ ((problem e ≡ io StepLimit) × IsAboveLimit files calls f owner env b order))
ended_of files calls f owner env b order w problem (Ok v) by limit ended errors = tt
ended_of files calls f owner env b order w problem (Err e) by limit ended (inl m) = inl m
ended_of files calls f owner env b order w problem (Err e) by limit ended (inr l) = inr (
  l,
  λ tree honest.
      let o = by tree honest in (
        o.0,
        o.1,
        λ s items n scene whole.
            let r = o.2 s items n (scene_suits files calls f owner b order tree o.0 s honest scene) whole in
            elim (ended s items n r) [
              | inl m ↦ absurd (let e = sym m ∙ l in cc (e))
              | inr (k, few) ↦ subst (λ (left : ℕ). left < n) limit few
            ],
      ),
)

-- a walk that was ended by the limit: the files, the limit and the roots under other names
pub limited_by : {F A : Type 0} (files : Files F) (f h : F) (l m : ℕ) (a b : Work) (r : Result A Error) → h ≡ f → l ≡ m → a ≡ b
    → IfErr r (λ e. problem_of e ≡ io StepLimit → (w : Work) × TookSteps (files.list_gives h) l a w)
    → IfErr r (λ e. problem_of e ≡ io StepLimit → (w : Work) × TookSteps (files.list_gives f) m b w)
limited_by {F = F} files f h l m a b r same limit roots t =
    subst (λ (x : F). IfErr r (λ e. problem_of e ≡ io StepLimit → (w : Work) × TookSteps (files.list_gives x) m b w)) same
    (subst (λ (n : ℕ). IfErr r (λ e. problem_of e ≡ io StepLimit → (w : Work) × TookSteps (files.list_gives h) n b w)) limit
    (subst (λ (x : Work). IfErr r (λ e. problem_of e ≡ io StepLimit → (w : Work) × TookSteps (files.list_gives h) l x w)) roots t))
