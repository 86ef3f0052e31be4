-- The items of a walk of a builder without closures, as those of a list.
use Rattle.std.proofs.Common.{◌≡◌, ◌≢◌, ◌<◌, ◌≤◌, ◌++◌, ◌∷◌, ℕ, List, [], All, IfSome, Option, None, Some, true, false, ◌⊎◌, Err, Ok, inl, inr, ap, subst, refl, sym, ◌∙◌}
use Rattle.std.proofs.lemmas.List.Elements.{All-contains, All-head, All-tail, Contains-push}
use Rattle.ignore_base.specs.Problem.{Problem, io, memory}
use Rattle.ignore_base.specs.declared.fault.Fault.TheVariants.{StepLimit}
use Rattle.ignore_dir.specs.declared.outside.Outside.{Outside}
use Rattle.ignore_files.specs.Gives.{IsHonest}
use Rattle.ignore_files.specs.Tree.{Tree}
use Rattle.ignore_files.specs.declared.env.Env.{Env}
use Rattle.ignore_files.specs.declared.files.Files.{Ghosts as Files}
use Rattle.ignore_walk.proofs.EndLemmas.{whole_finished}
use Rattle.ignore_walk.specs.Entry.{Item}
use Rattle.ignore_walk.specs.GoesOn.{GoesOn, is_fatal}
use Rattle.ignore_walk.specs.Nexts.{EndsBy, Remaining}
use Rattle.ignore_walk.specs.Runs.{EndsLast, IsBegun, IsRun}
use Rattle.ignore_walk.specs.Scene.{Scene}
use Rattle.ignore_walk.specs.Suits.{Suits}
use Rattle.ignore_walk.specs.declared.callbacks.Callbacks.{Ghosts as Callbacks}
use Rattle.ignore_walk.specs.declared.callbacks.Order.{Order}
use Rattle.ignore_walk.specs.declared.callbacks.Order.TheVariants.{Listed}
use Rattle.ignore_walk.specs.declared.walk.Walk.{Walk}
use Rattle.ignore.specs.Closures.{no_closures, options_of}
use Rattle.ignore.specs.Finished.{IsEnd, IsFinished}
use Rattle.ignore.specs.Headline.{Headline, IsBareScene, IsOnlyList, IsSceneOf}
use Rattle.ignore.specs.Walks.{IsWalkBy}
use Rattle.ignore.specs.declared.options.WalkOptions.{WalkOptions}
use Rattle.commands.specs.Listing.{IsOf}
use Rattle.commands.specs.Walking.{AreBegun, AreListed, ComesNext, IsCut}

-- an item after which a walk goes on ends none
not_end : (item : Item) → GoesOn item → IsEnd item → ⊥
not_end (Ok e) on (inl m) = cc m
not_end (Ok e) on (inr l) = cc l
not_end (Err p) on (inl m) =
    let is : p ≡ memory = cc m in
    let fatal = subst (λ (q : Problem). is_fatal q ≡ false) is on in cc fatal
not_end (Err p) on (inr l) =
    let is : p ≡ io StepLimit = cc l in
    let fatal = subst (λ (q : Problem). is_fatal q ≡ false) is on in cc fatal

-- a run that out of memory didn't end was finished, or cut by the limit
finished_or_cut : (all : List Item) → EndsLast all → All (λ (item : Item). item ≢ Err memory) all
    → IsFinished all ⊎ ((front : List Item) × (all ≡ front ++ Err (io StepLimit) ∷ []))
finished_or_cut [] h enough = inl tt
finished_or_cut (item ∷ []) (inl on) enough = inl (not_end item on, tt)
finished_or_cut (item ∷ []) (inr (inl m)) enough = absurd (All-head (λ (i : Item). i ≢ Err memory) item [] enough m)
finished_or_cut (item ∷ []) (inr (inr limit)) enough = inr ([], ap (λ (i : Item). i ∷ []) limit)
finished_or_cut (item ∷ (next ∷ items)) h enough =
    elim (finished_or_cut (next ∷ items) h.1 (All-tail (λ (i : Item). i ≢ Err memory) item (next ∷ items) enough)) [
      | inl done ↦ inl (not_end item h.0, done)
      | inr (front, is) ↦ inr (item ∷ front, ap (λ xs. item ∷ xs) is)
    ]

-- no list that was cut is a finished one
not_finished : (front : List Item) → IsFinished (front ++ Err (io StepLimit) ∷ []) → ⊥
not_finished [] done = done.0 (inr refl)
not_finished (item ∷ front) done = not_finished front done.1

-- a run that was cut is a beginning of the list, which takes more steps
cut_run : (all items : List Item) (limit left n : ℕ) → left ≡ limit → All (λ (item : Item). item ≢ Err memory) all
    → ((front : List Item) × (all ≡ front ++ Err (io StepLimit) ∷ [])) → IsFinished items → IsRun all items left n
    → (limit < n) × IsCut all items
cut_run all items limit left n is enough cut done (inl (whole, short)) =
    absurd (not_finished cut.0 (subst IsFinished (sym whole ∙ cut.1) done))
cut_run all items limit left n is enough cut done (inr e) =
    elim e.ended [
      | inl m ↦
          let known = subst (λ (xs : List Item). All (λ item. item ≢ Err memory) xs) e.are enough in
          absurd (All-contains (λ (item : Item). item ≢ Err memory) (e.front ++ e.last ∷ []) e.last known (Contains-push e.front e.last) m)
      | inr (l, few) ↦ (
        subst (λ (k : ℕ). k < n) is few,
        record {
          front = e.front;
          rest = e.rest;
          begins = e.begins;
          are = e.are ∙ ap (λ (item : Item). e.front ++ item ∷ []) l;
        },
      )
    ]

-- the item at which a run ended, unless out of memory, comes after those before it
comes_next : (item : Item) (next : Option Item) (rest : List Item) (limit left n : ℕ) → IsOf item next → left ≡ limit
    → ((others : List Item) × (rest ≡ item ∷ others)) ⊎ EndsBy item left n → IfSome next (λ i. ComesNext limit i rest n)
comes_next item None rest limit left n own is at = tt
comes_next item (Some i) rest limit left n own is (inl (others, first)) =
    inl (others, first ∙ ap (λ (j : Item). j ∷ others) (sym (own.0)))
comes_next item (Some i) rest limit left n own is (inr (inl m)) = absurd (own.1 (own.0 ∙ m))
comes_next item (Some i) rest limit left n own is (inr (inr (cut, few))) = inr (own.0 ∙ cut, subst (λ (l : ℕ). l < n) is few)

-- a walk by these settings whose owner answers as if there were no closures
module _ {F S : Type 0} (files : Files F) (calls : Callbacks S) (f : F) (owner : S) (env : Env) (b : WalkOptions) (order : Order)
    (bare : (t : Tree) (o : Outside) (g : Scene) → IsBareScene b t o g → IsSceneOf calls owner b order t o g) where
  suits : (t : Tree) (o : Outside) (g : Scene) → IsHonest files f t → IsBareScene b t o g
      → Suits files calls f owner b.settings o (options_of b order) g
  suits t o g honest plain =
      let s = bare t o g plain in
      record {
        honest = subst (λ (u : Tree). IsHonest files f u) (sym s.tree) honest;
        loads = s.loads;
        settings = s.settings;
        outside = s.outside;
        device = s.device;
        filter = s.filter;
        order = s.sorted;
      }

  whole_list : (all : List Item) → Headline files calls f owner env b order all → Headline files no_closures f tt env b Listed all
  whole_list all h = λ tree honest outside read g plain. h tree honest outside read g (bare tree outside g plain)

  only_list : (all : List Item) → IsOnlyList files calls f owner env b order all → IsOnlyList files no_closures f tt env b Listed all
  only_list all h = λ tree honest.
      let l = h tree honest in (l.0, l.1, λ g items n plain whole. l.2 g items n (bare tree l.0 g plain) whole)

  -- all that such a walk has yielded, unless out of memory ended it
  pub listed : (w : Walk F S) (all : List Item) → IsWalkBy files calls f owner env b order w → w.left ≡ b.limit
      → All (λ (item : Item). item ≢ Err memory) all → EndsLast all → (IsFinished all → Headline files calls f owner env b order all)
      → (IsFinished all → IsOnlyList files calls f owner env b order all)
      → ((g : Scene) (items : List Item) (n : ℕ) → Remaining files calls g w items n → IsRun all items w.left n)
      → AreListed files f env b all
  listed w all by limit enough ends whole only run =
      elim (finished_or_cut all ends enough) [
        | inl done ↦ inl (whole_list all (whole done), only_list all (only done))
        | inr cut ↦ inr (
          cut,
          λ tree honest.
              let o = by tree honest in (
                o.0,
                o.1,
                λ g items n plain are.
                    cut_run all items b.limit w.left n limit enough cut (whole_finished g b.roots items n plain.loads are)
                    (run g items n (o.2 g items n (suits tree o.0 g honest plain) are)),
              ),
        )
      ]

  -- what it has yielded before an item
  pub begun : (w : Walk F S) (all : List Item) (item : Item) (next : Option Item) → IsWalkBy files calls f owner env b order w
      → w.left ≡ b.limit → IsOf item next
      → ((g : Scene) (items : List Item) (n : ℕ) → Remaining files calls g w items n → IsBegun all item items w.left n)
      → AreBegun files f env b all next
  begun w all item next by limit own first = λ tree honest.
      let o = by tree honest in (
        o.0,
        o.1,
        λ g items n plain are.
            let h = first g items n (o.2 g items n (suits tree o.0 g honest plain) are) in
            (h.rest, h.begins, comes_next item next h.rest b.limit w.left n own limit h.next),
      )
