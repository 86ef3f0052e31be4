-- What a walk has yielded when it answers none, before, and after.
use Rattle.std.proofs.Common.{◌≡◌, ◌≢◌, ◌≤◌, ◌+◌, ◌++◌, ℕ, List, [], ◌∷◌, Option, None, Some, Ok, Err, option_map, map, inl, inr, refl, sym, ◌∙◌, ap, subst, arith, append_assoc, false}
use Rattle.std.specs.Iterator.{Drains, Yields, YieldsThen}
use Rattle.ignore_base.specs.Text.{Path}
use Rattle.ignore_base.specs.Problem.{Problem, io, memory}
use Rattle.ignore_base.specs.declared.fault.Fault.TheVariants.{StepLimit}
use Rattle.ignore_files.specs.declared.files.Files.{Ghosts as Files}
use Rattle.ignore_walk.specs.Entry.{Entry, Item}
use Rattle.ignore_walk.specs.Finished.{IsEnd, IsFinished}
use Rattle.ignore_walk.specs.GoesOn.{HasNoEnd}
use Rattle.ignore_walk.specs.Moves.{IsAfter}
use Rattle.ignore_walk.specs.Nexts.{EndsBy, IsLast, IsOver, NextGives, Remaining, Starts}
use Rattle.ignore_walk.specs.Runs.{EndsLast, IsBegun, IsRun}
use Rattle.ignore_walk.specs.Scene.{Scene}
use Rattle.ignore_walk.specs.Stands.{Becomes}
use Rattle.ignore_walk.specs.Suits.{IsGroundOf}
use Rattle.ignore_walk.specs.Whole.{Whole}
use Rattle.ignore_walk.specs.declared.ground.Ground.{Ground}
use Rattle.ignore_walk.proofs.MoveLemmas.{after_more, after_none}
use Rattle.ignore_walk.proofs.StandLemmas.{becomes_by}
use Rattle.ignore_walk.specs.declared.callbacks.Callbacks.{Ghosts as Callbacks}
use Rattle.ignore_walk.specs.declared.walk.Walk.{Walk}

abbrev Step : {F S A : Type 0} → Files F → Callbacks S → (A → Item) → Walk F S → Option A → Walk F S → Type 0
Step files calls item a answer b = NextGives files calls a (option_map item answer) b

-- a walk that is over yields nothing
none_more : {F S A : Type 0} (files : Files F) (calls : Callbacks S) (item : A → Item) (a t : Walk F S) (xs : List A) → IsOver a
    → Yields (Step files calls item) a xs t → xs ≡ []
none_more files calls item a t [] over y = refl
none_more files calls item a t (x ∷ xs) over (j, s, y) = absurd (let e = s.over over in cc (e))

-- an item before a run
pub one_more : (x : Item) (all items others : List Item) (left n now k : ℕ) → items ≡ x ∷ others → n + now ≡ k + left
    → IsRun all others now k → IsRun (x ∷ all) items left n
one_more x all items others left n now k are taken (inl (whole, enough)) =
    inl (ap (λ (i : List Item). x ∷ i) whole ∙ sym are, omega (taken, enough, arith))
one_more x all items others left n now k are taken (inr e) =
    inr (record {
      front = x ∷ e.front;
      rest = e.rest;
      last = e.last;
      are = ap (λ (i : List Item). x ∷ i) e.are;
      begins = are ∙ ap (λ (i : List Item). x ∷ i) e.begins;
      ended = elim e.ended [
        | inl m ↦ inl m
        | inr (l, few) ↦ inr (l, omega (few, taken, arith))
      ];
    })

pub run_is_list : {F S A : Type 0} (files : Files F) (calls : Callbacks S) (item : A → Item) (g : Scene) (a : Walk F S) (xs : List A)
    (items : List Item) (n : ℕ) → Drains (Step files calls item) a xs → Remaining files calls g a items n
    → IsRun (map item xs) items a.left n
run_is_list files calls item g a [] items n (u, (t, same, s)) r =
    let end = (subst (λ (t : Walk _ _). Step files calls item t None u) (sym same) s).given g items n r in
    inl (sym end.0, end.1)
run_is_list files calls item g a (x ∷ xs) items n (u, (t, (j, s, y), e)) r =
    elim (s.given g items n r) [
      | inl h ↦ one_more (item x) (map item xs) items h.others a.left n j.left h.k h.are h.taken
          (run_is_list files calls item g j xs h.others h.k (u, (t, y, e)) h.rest)
      | inr (ended, over) ↦
          let none = none_more files calls item j t xs (s.last r.goes_on over).0 y in
          inr (record {
            front = [];
            rest = items;
            last = item x;
            are = ap (λ (xs : List _). item x ∷ map item xs) none;
            begins = refl;
            ended = ended;
          })
    ]

-- the list that a run has shown

shown_list : {F S A : Type 0} (files : Files F) (calls : Callbacks S) (item : A → Item) (g : Scene) (roots : List Path) (a : Walk F S)
    (xs : List A) (front : List Item) (k : ℕ) → Drains (Step files calls item) a xs → IsGroundOf files calls a.ground g → a.ended ≡ false
    → Becomes g a.stack (IsAfter g roots front k) → IsFinished (map item xs)
    → (n : ℕ) × (n ≤ k + a.left) × Whole g roots (front ++ map item xs) n
shown_list files calls item g roots a [] front k (u, (t, same, s)) suits on b done =
    let end = (subst (λ (t : Walk _ _). Step files calls item t None u) (sym same) s).shows g b.root b.place b.seen suits on b.is in
    (end.0 + k, omega (end.1, arith), b.by [] end.0 end.2)
shown_list files calls item g roots a (x ∷ xs) front k (u, (t, (j, s, y), e)) suits on b (goes, done) =
    elim (s.shows g b.root b.place b.seen suits on b.is) [
      | inl end ↦ absurd (goes end.0)
      | inr h ↦
          let ground = subst (λ (ground : Ground _ _). IsGroundOf files calls ground g) (sym s.paced.ground) suits in
          let c : Becomes g j.stack (IsAfter g roots (front ++ item x ∷ []) (k + h.0)) =
          becomes_by g j.stack _ _ h.3 (λ t p. after_more g roots _ t front (item x) k h.0 b.by p) in
          let r = shown_list files calls item g roots j xs (front ++ item x ∷ []) (k + h.0) (u, (t, y, e)) ground h.2 c done in
          let left = h.1 in
          let few = r.1 in (
            r.0,
            omega (few, left, arith),
            subst (λ (all : List Item). Whole g roots all r.0) (append_assoc front (item x ∷ []) (map item xs)) r.2,
          )
    ]

pub run_exists : {F S A : Type 0} (files : Files F) (calls : Callbacks S) (item : A → Item) (g : Scene) (roots : List Path) (a : Walk F S)
    (xs : List A) → Drains (Step files calls item) a xs → Starts files calls g a roots → IsFinished (map item xs)
    → (n : ℕ) × (n ≤ a.left) × Whole g roots (map item xs) n
run_exists files calls item g roots a xs drains starts done =
    let b : Becomes g a.stack (IsAfter g roots [] 0) = becomes_by g a.stack _ _ starts.whole (λ t h. after_none g roots t h) in
    let r = shown_list files calls item g roots a xs [] 0 drains starts.suits starts.goes_on b done in
    let few = r.1 in
    (r.0, omega (few, arith), r.2)

-- before the end

-- a walk that is over yields nothing, whatever it is asked for
no_more : {F S A : Type 0} (files : Files F) (calls : Callbacks S) (item : A → Item) (a v : Walk F S) (xs : List A) (x : A) → IsOver a
    → YieldsThen (Step files calls item) a xs (Some x) v → ⊥
no_more files calls item a v [] x over (t, same, s) =
    let e = (subst (λ (t : Walk _ _). Step files calls item t (Some x) v) (sym same) s).over over in cc (e)
no_more files calls item a v (y ∷ xs) x over (t, (j, s, ys), last) = let e = s.over over in cc (e)

-- an item before a beginning
one_before : (x item : Item) (all items others : List Item) (left n now k : ℕ) → items ≡ x ∷ others → n + now ≡ k + left
    → IsBegun all item others now k → IsBegun (x ∷ all) item items left n
one_before x item all items others left n now k are taken b =
    record {
      rest = b.rest;
      begins = are ∙ ap (λ (i : List Item). x ∷ i) b.begins;
      next = elim b.next [
        | inl next ↦ inl next
        | inr (inl m) ↦ inr (inl m)
        | inr (inr (l, few)) ↦ inr (inr (l, omega (few, taken, arith)))
      ];
    }

pub run_begins : {F S A : Type 0} (files : Files F) (calls : Callbacks S) (item : A → Item) (g : Scene) (a v : Walk F S) (xs : List A)
    (x : A) (items : List Item) (n : ℕ) → YieldsThen (Step files calls item) a xs (Some x) v → Remaining files calls g a items n
    → IsBegun (map item xs) (item x) items a.left n
run_begins files calls item g a v [] x items n (t, same, s) r =
    record {
      rest = items;
      begins = refl;
      next = elim ((subst (λ (t : Walk _ _). Step files calls item t (Some x) v) (sym same) s).given g items n r) [
        | inl h ↦ inl (h.others, h.are)
        | inr (ended, over) ↦ inr ended
      ];
    }
run_begins files calls item g a v (y ∷ xs) x items n (t, (j, s, ys), last) r =
    elim (s.given g items n r) [
      | inl h ↦ one_before (item y) (item x) (map item xs) items h.others a.left n j.left h.k h.are h.taken
          (run_begins files calls item g j v xs x h.others h.k (t, ys, last) h.rest)
      | inr (ended, over) ↦ absurd (no_more files calls item j v xs x (s.last r.goes_on over).0 (t, ys, last))
    ]

-- an item that is neither of the errors that end a walk is one of those that remained
pub begins_and_next : (all items : List Item) (item : Item) (left n : ℕ) → item ≢ Err memory → item ≢ Err (io StepLimit)
    → IsBegun all item items left n → (others : List Item) × (items ≡ all ++ item ∷ others)
begins_and_next all items item left n enough within b =
    elim b.next [
      | inl (others, is) ↦ (others, b.begins ∙ ap (λ (o : List Item). all ++ o) is)
      | inr (inl m) ↦ absurd (enough m)
      | inr (inr (l, few)) ↦ absurd (within l)
    ]

-- of items that end no walk none ends it, so one that does is none of those that remained
no_end_at : (all others : List Item) (item : Item) → IsFinished (all ++ item ∷ others) → ¬ IsEnd item
no_end_at [] others item h = h.0
no_end_at (x ∷ all) others item h = no_end_at all others item h.1

pub ended_by : (all items : List Item) (item : Item) (left n : ℕ) → IsFinished items → IsEnd item → IsBegun all item items left n
    → EndsBy item left n
ended_by all items item left n finished end b =
    elim b.next [
      | inl (others, is) ↦
          absurd (no_end_at all others item
          (subst IsFinished (b.begins ∙ ap (λ (o : List Item). all ++ o) is) finished) end)
      | inr e ↦ e
    ]

-- after none, and at an early end

unmapped : {A B : Type 0} (f : A → B) (answer : Option A) → option_map f answer ≡ None → answer ≡ None
unmapped f None h = refl
unmapped f (Some x) h = absurd (cc (h))

-- none follows none
pub none_again : {F S A : Type 0} (files : Files F) (calls : Callbacks S) (item : A → Item) (a b c : Walk F S) (answer : Option A)
    → NextGives files calls a None b → Step files calls item b answer c → answer ≡ None
none_again files calls item a b c answer first second = unmapped item answer (second.over (first.none refl))

-- a walk that ends by the limit, whatever the files answer, has no step left
pub limit_ends : (left : ℕ) → IsLast (Some (Err (io StepLimit))) left → left ≡ 0
limit_ends left (inl m) = absurd (cc (m))
limit_ends left (inr l) = l.1

-- no walk ends by an entry
pub no_entry_ends : (e : Entry × Option Problem) (left : ℕ) → IsLast (Some (Ok e)) left → ⊥
no_entry_ends e left (inl m) = cc (m)
no_entry_ends e left (inr l) = let o = l.0 in cc (o)

-- no item but the last ends a walk
pub ends_last : {F S A : Type 0} (files : Files F) (calls : Callbacks S) (item : A → Item) (a : Walk F S) (xs : List A)
    → Drains (Step files calls item) a xs → HasNoEnd a.stack → EndsLast (map item xs)
ends_last files calls item a [] d h = tt
ends_last files calls item a (x ∷ []) (u, (t, (j, s, y), e)) h =
    elim (s.ends h).1 [
      | inl goes_on ↦ inl goes_on
      | inr end ↦ inr end.0
    ]
ends_last files calls item a (x ∷ (z ∷ xs)) (u, (t, (j, s, y), e)) h =
    let now = s.ends h in
    elim now.1 [
      | inl goes_on ↦ (goes_on, ends_last files calls item j (z ∷ xs) (u, (t, y, e)) now.0)
      | inr end ↦ absurd (let none = none_more files calls item j t (z ∷ xs) end.1 y in cc (none))
    ]
