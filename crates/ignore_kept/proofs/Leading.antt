-- A call on a guide's handle is one on what it keeps, and one on a guide whose first root was begun.
use Rattle.std.proofs.Common.{◌≡◌, ℕ, false, List, Option, Some, None, Result, Ok, Err, OnErr, is_some, inl, inr, refl, sym, ap, subst, ◌∙◌}
use Rattle.std.specs.Str.{IsUtf8}
use Rattle.ignore.specs.Asked.{AddsIgnoreBy}
use Rattle.ignore.specs.AskedNext.{AsksNext}
use Rattle.ignore.specs.declared.options.WalkOptions.{WalkOptions}
use Rattle.ignore_base.specs.Problem.{Problem, io}
use Rattle.ignore_base.specs.Text.{Bytes, Path}
use Rattle.ignore_base.specs.declared.fault.Fault.TheVariants.{NoCurrentDir}
use Rattle.ignore_guide.specs.Guide.{IsSameGuide, IsUnchanged, KeepsPlaces}
use Rattle.ignore_guide.specs.Hosted.{CallRefused, StepGives, StepPlaces}
use Rattle.ignore_guide.specs.Names.{IsAsked, IsRefused, is_name}
use Rattle.ignore_guide.specs.Places.{IsGone, IsSamePlaces}
use Rattle.ignore_guide.specs.Told.{IsAlmostFresh, ReadTold}
use Rattle.ignore_guide.specs.contracts.told.ToldFiles.TheImpl.{ghosts}
use Rattle.ignore_guide.specs.declared.error.GuideError.{GuideError}
use Rattle.ignore_guide.specs.declared.error.GuideError.TheVariants as error
use Rattle.ignore_guide.specs.declared.guide.Guide.{Guide}
use Rattle.ignore_guide.specs.declared.hosted.Call.{Call}
use Rattle.ignore_guide.specs.declared.hosted.Call.TheVariants as call
use Rattle.ignore_guide.specs.declared.hosted.Step.{Step}
use Rattle.ignore_guide.specs.declared.hosted.Step.TheVariants as step
use Rattle.ignore_guide.specs.declared.hosted.Waiting.{Waiting}
use Rattle.ignore_guide.specs.declared.missing.Question.{Question}
use Rattle.ignore_guide.specs.declared.places.Place.{Place}
use Rattle.ignore_guide.specs.declared.told.Told.{Told}
use Rattle.ignore_kept.specs.Guides.{AddsIn, AsksOuter, AtBegun, AtOf, Ends, Enters, Gives, GivesAt, GivesFirst, GivesIn, KeptBy, OnGuide, OnOf, Roots, RootsAt, RootsFirst, RootsIn, Steps, is_waiting, keeping, place_in, settled}
use Rattle.ignore_kept.specs.Given.{NotGiven}
use Rattle.ignore_kept.specs.Kinds.{guided_in}
use Rattle.ignore_kept.specs.Listings.{IsListing, ListsNames}
use Rattle.ignore_kept.specs.Stops.{guide_stop}
use Rattle.ignore_kept.specs.declared.guided.Begun.{Begun}
use Rattle.ignore_kept.specs.declared.guided.Guided.{Guided}
use Rattle.ignore_kept.specs.declared.guided.Reading.{Reading}
use Rattle.ignore_kept.specs.declared.guided.Stage.{Stage}
use Rattle.ignore_kept.specs.declared.guided.Stage.TheVariants as stage
use Rattle.ignore_kept.specs.declared.kept.Kept.{Kept}
use Rattle.ignore_kept.specs.declared.stopped.Stopped.{Stopped}
use Rattle.ignore_kept.specs.declared.stopped.Stopped.TheVariants.{NotUtf8, Memory as Full, Limit, Invalid, Misused, Tree}

pub on_guide : {A : Type 0} (P : Guided → Result A Stopped → Guided → Type 0) (kept : Kept) (old : Guided) (r : Result A Stopped) (new : Guided)
    → kept ≡ keeping old → P old r new → OnGuide P kept r (keeping new)
on_guide P kept old r new is h =
    subst (λ (k : Option Guided). OnOf P k kept r (keeping new)) (sym (ap guided_in is)) (new, refl, h)

pub at_begun : {A : Type 0} (P : Begun → Result A Stopped → Begun → Type 0) (guided : Guided) (old : Begun) (r : Result A Stopped) (new : Begun)
    → guided.stage ≡ stage.Begun old → P old r new → AtBegun P guided r (record guided { stage = stage.Begun new })
at_begun P guided old r new is h =
    subst (λ (s : Stage). AtOf P s guided r (record guided { stage = stage.Begun new })) (sym is) (new, refl, h)

-- Roots.

pub roots_fresh : (root text : Bytes) (old : Guided) (r : Result (Option Place) Stopped) (new : Guided) → text ≡ root
    → old.stage ≡ stage.Fresh → (old.stage ≡ stage.Fresh → RootsFirst text old r new) → Roots root old r new
roots_fresh root text old r new e is h =
    inr (subst (λ (s : Stage). RootsAt root s old r new) (sym is) (subst (λ (t : Bytes). RootsFirst t old r new) e (h is)))

pub roots_reading : (root : Bytes) (old : Guided) (reading : Reading) (new : Guided) → old.stage ≡ stage.Reading reading → new ≡ old
    → Roots root old (Err Misused) new
roots_reading root old reading new is same = inr (subst (λ (s : Stage). RootsAt root s old (Err Misused) new) (sym is) (refl, same))

pub roots_begun : (root text : Bytes) (old : Guided) (before : Begun) (r : Result (Option Place) Stopped) (after : Begun) → text ≡ root
    → old.stage ≡ stage.Begun before → RootsIn text before r after → Roots root old r (record old { stage = stage.Begun after })
roots_begun root text old before r after e is h =
    inr (subst (λ (s : Stage). RootsAt root s old r (record old { stage = stage.Begun after })) (sym is)
    (after, refl, subst (λ (t : Bytes). RootsIn t before r after) e h))

pub roots_none : (root : Bytes) (old new : Guided) → new ≡ old → ¬ (IsUtf8 root) → Roots root old (Err NotUtf8) new
roots_none root old new same u = inl (refl, u, same)

-- Steps.

none-waits : (w : Option Waiting) → is_some w ≡ false → w ≡ None
none-waits None e = refl
none-waits (Some w) e = absurd (cc (e))

-- a call that ended left the guide alone changed
pub ends_step : (b : Begun) (g : Guide) → IsSamePlaces b.guide.places g.places → KeepsPlaces b.guide g
    → ((place : Place) → IsGone b.guide.places place → IsGone g.places place) → IsSameGuide b.guide g → is_waiting b ≡ false
    → Ends b (record b { guide = g })
ends_step b g as_before kept gone same idle = (
  g,
  as_before,
  record { places = kept; gone = gone; same = same },
  ap (λ (w : Option Waiting). let x : Begun = record b { guide = g; waits = w } in x) (none-waits b.waits idle),
)

settled-mid : (b : Begun) (h : Guide) (s : Step) → settled (record b { guide = h }) h s ≡ settled b h s
settled-mid b h (step.Wants w) = refl
settled-mid b h (step.Arrived r) = refl

-- a step of the guide is one of the call
pub stepped : (b : Begun) (asked : Call) (told : Told) (h : Guide) (s : Step) (after : Begun) (place : Option Place)
    → StepGives ghosts asked told b.guide s h → StepPlaces asked b.guide.places s h.places → KeepsPlaces b.guide h
    → ((p : Place) → IsGone b.guide.places p → IsGone h.places p) → IsSameGuide b.guide h
    → after ≡ settled (record b { guide = h }) h s → place ≡ place_in s → Steps b asked told place after
stepped b asked told h s after place gives placed kept gone same is at =
    (s, h, gives, placed, record { places = kept; gone = gone; same = same }, is ∙ settled-mid b h s, at)

-- after an error of the guide nothing changed, unless memory ran out
pub kept_by : (e : GuideError) (b : Begun) (h : Guide) → IsUnchanged e b.guide h → KeptBy e b (record b { guide = h })
kept_by error.Memory b h u = tt
kept_by error.NoPlace b h u = ap (λ (g : Guide). let x : Begun = record b { guide = g } in x) u
kept_by error.NoName b h u = ap (λ (g : Guide). let x : Begun = record b { guide = g } in x) u
kept_by error.HasChildren b h u = ap (λ (g : Guide). let x : Begun = record b { guide = g } in x) u

-- an error of the guide as the reason why a directory wasn't entered
pub enters_not : (parent : Place) (name names : Bytes) (b after : Begun) (text : Bytes) (e : GuideError) → text ≡ name → is_waiting b ≡ false
    → IsRefused b.guide.places parent text e → KeptBy e b after → Ends b after → Enters parent name names b (Err (guide_stop e)) after
enters_not parent name names b after text error.Memory is idle r k ends = ends
enters_not parent name names b after text error.NoPlace is idle r k ends = (k, inr (inr (inl r)))
enters_not parent name names b after text error.NoName is idle r k ends =
    (k, inr (inr (inr (subst (λ (n : Bytes). is_name n ≡ false) is r))))
enters_not parent name names b after text error.HasChildren is idle r k ends = absurd r

-- names that can't be read are why it wasn't
pub enters_unlisted : (parent : Place) (name names : Bytes) (b : Begun) (e : Stopped) → is_waiting b ≡ false → ListsNames names (Err e)
    → Enters parent name names b (Err e) b
enters_unlisted parent name names b NotUtf8 idle h = (refl, inr h)
enters_unlisted parent name names b Misused idle h = (refl, inr (inl h))
enters_unlisted parent name names b Full idle h = (
  b.guide,
  λ place. refl,
  record { places = λ place depth at s. s; gone = λ place g. g; same = record { settings = refl; outside = refl } },
  ap (λ (w : Option Waiting). let x : Begun = record b { waits = w } in x) (none-waits b.waits idle),
)
enters_unlisted parent name names b other idle h = absurd h

-- an error of the guide as the reason why a call that waited has ended
pub gives_not : (kind : ℕ) (bytes : Bytes) (fault : ℕ) (b after : Begun) (w : Waiting) (e : GuideError) → b.waits ≡ Some w
    → CallRefused b.guide.places w.call e → Ends b after → GivesIn kind bytes fault b (Err (guide_stop e)) after
gives_not kind bytes fault b after w error.Memory is r ends = ends
gives_not kind bytes fault b after w error.NoPlace is r ends = inr (ends, (w, error.NoPlace, is, r))
gives_not kind bytes fault b after w error.NoName is r ends = inr (ends, (w, error.NoName, is, r))
gives_not kind bytes fault b after w error.HasChildren is r ends = inr (ends, (w, error.HasChildren, is, r))

-- what isn't given is why a call goes on waiting
pub gives_none : (kind : ℕ) (bytes : Bytes) (fault : ℕ) (b : Begun) (w : Waiting) (e : Stopped) → b.waits ≡ Some w
    → NotGiven w.question.wanted kind bytes fault e → GivesIn kind bytes fault b (Err e) b
gives_none kind bytes fault b w NotUtf8 is h = (refl, (w, is, h))
gives_none kind bytes fault b w Misused is h = inl (refl, inr h)
gives_none kind bytes fault b w other is h = absurd h

-- why the first root goes on waiting
pub gives_first_none : (kind : ℕ) (bytes : Bytes) (fault : ℕ) (reading : Reading) (old : Guided) (e : Stopped)
    → NotGiven reading.question.wanted kind bytes fault e → GivesFirst kind bytes fault reading old (Err e) old
gives_first_none kind bytes fault reading old NotUtf8 h = (refl, h)
gives_first_none kind bytes fault reading old Misused h = (refl, h)
gives_first_none kind bytes fault reading old other h = absurd h

pub gives_fresh : (kind : ℕ) (bytes : Bytes) (fault : ℕ) (old new : Guided) → old.stage ≡ stage.Fresh → new ≡ old
    → Gives kind bytes fault old (Err Misused) new
gives_fresh kind bytes fault old new is same = subst (λ (s : Stage). GivesAt kind bytes fault s old (Err Misused) new) (sym is) (refl, same)

pub gives_first : (kind : ℕ) (bytes : Bytes) (fault : ℕ) (old : Guided) (reading : Reading) (r : Result (Option Place) Stopped) (new : Guided)
    → old.stage ≡ stage.Reading reading → GivesFirst kind bytes fault reading old r new → Gives kind bytes fault old r new
gives_first kind bytes fault old reading r new is h = subst (λ (s : Stage). GivesAt kind bytes fault s old r new) (sym is) h

pub gives_begun : (kind : ℕ) (bytes : Bytes) (fault : ℕ) (old : Guided) (before after : Begun) (r : Result (Option Place) Stopped)
    → old.stage ≡ stage.Begun before → GivesIn kind bytes fault before r after
    → Gives kind bytes fault old r (record old { stage = stage.Begun after })
gives_begun kind bytes fault old before after r is h =
    subst (λ (s : Stage). GivesAt kind bytes fault s old r (record old { stage = stage.Begun after })) (sym is) (after, refl, h)

-- before the first root was begun a call on directories does nothing
pub not_begun_fresh : {A : Type 0} (P : Begun → Result A Stopped → Begun → Type 0) (old new : Guided) → old.stage ≡ stage.Fresh → new ≡ old
    → AtBegun P old (Err Misused) new
not_begun_fresh P old new is same = subst (λ (s : Stage). AtOf P s old (Err Misused) new) (sym is) (refl, same)

pub not_begun_reading : {A : Type 0} (P : Begun → Result A Stopped → Begun → Type 0) (old : Guided) (reading : Reading) (new : Guided)
    → old.stage ≡ stage.Reading reading → new ≡ old → AtBegun P old (Err Misused) new
not_begun_reading P old reading new is same = subst (λ (s : Stage). AtOf P s old (Err Misused) new) (sym is) (refl, same)

-- what is asked next, by the paths of a guide
pub asks_outer : (o : Guided) (told : Told) (paths : List Path) (q found : Option Question) → paths ≡ o.paths → q ≡ found
    → AsksNext told o.env o.options paths q → AsksOuter o told found
asks_outer o told paths q found same is h =
    subst (λ (r : Option Question). AsksOuter o told r) is (subst (λ (ps : List Path). AsksNext told o.env o.options ps q) same h)

-- nothing more is
pub asks_no_more : (o : Guided) (told : Told) (paths : List Path) (q : Option Question) → paths ≡ o.paths → q ≡ None
    → AsksNext told o.env o.options paths q → AsksOuter o told None
asks_no_more o told paths q same is h = asks_outer o told paths q None same is h

-- Files of rules that are added.

pub adds_in : (told : Told) (path : Path) (dir : Option Path) (old new : WalkOptions) (reported : Option Problem)
    → ((d : Path) → dir ≡ Some d → AddsIgnoreBy (ReadTold told path) path d old new reported)
    → (dir ≡ None → (reported ≡ Some (io NoCurrentDir)) × (new ≡ old)) → AddsIn told path dir old new reported
adds_in told path None old new reported known unknown = ((unknown refl).1, (unknown refl).0)
adds_in told path (Some d) old new reported known unknown = known d refl

-- what holds of any error
pub on_err : {A E : Type 0} (r : Result A E) (P : Type 0) → P → OnErr r P
on_err (Ok a) P h = tt
on_err (Err e) P h = h

-- a directory was entered by a text that is its name
pub enters : (parent : Place) (name names : Bytes) (b after : Begun) (text : Bytes) (place : Option Place) → text ≡ name → is_waiting b ≡ false
    → IsAsked b.guide.places parent text → IsListing names
    → ((told : Told) × IsAlmostFresh told × Steps b (call.Enter parent text) told place after) → Enters parent name names b (Ok place) after
enters parent name names b after text place is idle there listed steps =
    subst (λ (n : Bytes). Enters parent n names b (Ok place) after) is (idle, there, listed, steps)

same-reading : (a b : Reading) → stage.Reading a ≡ stage.Reading b → a ≡ b
same-reading a b e = cc (e)

-- the first root that waits is the one that a stage has
pub as_reading : (s : Stage) (a b : Reading) → s ≡ stage.Reading a → s ≡ stage.Reading b → a ≡ b
as_reading s a b x y = same-reading a b (sym x ∙ y)

same-waiting : (a b : Waiting) → Some a ≡ Some b → a ≡ b
same-waiting a b e = cc (e)

-- and the call that waits
pub as_waiting : (w : Option Waiting) (a b : Waiting) → w ≡ Some a → w ≡ Some b → a ≡ b
as_waiting w a b x y = same-waiting a b (sym x ∙ y)
