-- At or below the roots of a walk.
use Rattle.std.proofs.Common.{◌≡◌, inl, inr, ℕ, suc, ◌+◌, Bool, true, false, ◌&&◌, not, List, [], ◌∷◌, ◌++◌, length, map, reverse, Option, None, Some, option_map, OnOk, Result, Ok, Err, if◌then◌else◌, refl, sym, ◌∙◌, ap, subst, arith}
use Rattle.std.specs.Prelude.{⊤, All, Contains, codes, IsPermutation, MatchOption, cond, option_to_list}
use Rattle.std.proofs.lemmas.List.{reverse-append, reverse-reverse}
use Rattle.std.proofs.lemmas.List.Elements.{All-append, All-cons, All-contains_itself, All-head, All-map, All-nil, All-rest, All-tail}
use Rattle.std.proofs.lemmas.List.Sorted.{All-permutation, IsPermutation-reverse}
use Rattle.std.specs.Iterator.{Drains, Yields, YieldsThen}
use Rattle.ignore_base.proofs.CleanLemmas.{Decides-name}
use Rattle.ignore_base.specs.Paths.{IsName, has_slash, is_proper, join_of}
use Rattle.ignore_base.specs.Problem.{Problem}
use Rattle.ignore_base.specs.Text.{Path}
use Rattle.ignore_base.specs.declared.error.Error.{Error}
use Rattle.ignore_base.specs.declared.fault.Fault.{Fault}
use Rattle.ignore_base.specs.declared.fault.Fault.TheVariants.{BadName}
use Rattle.ignore_dir.specs.declared.settings.Settings.{Settings}
use Rattle.ignore_files.specs.declared.files.Files.{Ghosts as Files}
use Rattle.ignore_files.specs.declared.types.FileType.{FileType}
use Rattle.ignore_files.specs.declared.types.Listed.{Listed}
use Rattle.ignore_files.specs.declared.types.Listed.TheVariants as thing
use Rattle.ignore_walk.specs.Below.{AnswersBelow, AreBelow, EnteredBelow, HasName, IsAtOrBelow, IsThing, KeepsBelow, MadeBelow, StaysBelow, WorksBelow}
use Rattle.ignore_walk.specs.Branch.{Branch, entered, path_of}
use Rattle.ignore_walk.specs.Child.{named}
use Rattle.ignore_walk.specs.Entry.{Entry, Item, item_of}
use Rattle.ignore_walk.specs.Nexts.{NextGives}
use Rattle.ignore_walk.specs.Paces.{Begins, IsListed, IsStep, Leaves, Lists, MayEnter, MayEnterIn, Takes, TakesOne, TookSteps, Work, more, none, work_at, work_of}
use Rattle.ignore_walk.specs.Walked.{is_at_least, listing_of, unlisted, yielded}
use Rattle.ignore_walk.specs.declared.callbacks.Callbacks.{Ghosts as Callbacks}
use Rattle.ignore_walk.specs.declared.entry.DirEntry.{DirEntry}
use Rattle.ignore_walk.specs.declared.frame.Frame.{Frame}
use Rattle.ignore_walk.specs.declared.stack.Stack.{Stack}
use Rattle.ignore_walk.specs.declared.walk.Walk.{Walk}
use Rattle.ignore_walk.proofs.ChildLemmas.{frames_length}

-- items

-- these were in hand, and those were made
pub made_below : (roots : List Path) (old new own : List Item) → new ≡ old ++ own → All (StaysBelow roots) old → All (StaysBelow roots) own
    → All (StaysBelow roots) new
made_below roots old new own are h k = subst (All (StaysBelow roots)) (sym are) (All-append (StaysBelow roots) old own h k)

-- one item
pub one_below : (roots : List Path) (item : Item) → StaysBelow roots item → All (StaysBelow roots) (item ∷ [])
one_below roots item h = All-cons (StaysBelow roots) item [] h (All-nil (StaysBelow roots))

-- an entry that is yielded, unless it is above the least depth
pub yielded_below : (roots : List Path) (s : Settings) (e : Entry) (problem : Option Problem) → IsAtOrBelow roots e.path e.depth
    → All (StaysBelow roots) (yielded s e problem)
yielded_below roots s e problem h = cases (is_at_least s.min_depth e.depth)
  where
    cases : (b : Bool) → All (StaysBelow roots) (cond b (Ok (e, problem) ∷ []) [])
    cases true = one_below roots (Ok (e, problem)) (inr h)
    cases false = All-nil (StaysBelow roots)

-- the fault of a listing
pub unlisted_below : (roots : List Path) (e : Entry) (r : Result (List Listed) Fault) → All (StaysBelow roots) (unlisted e r)
unlisted_below roots e (Ok xs) = All-nil (StaysBelow roots)
unlisted_below roots e (Err fault) = one_below roots (Err _) tt

-- nothing is in hand
pub none_below : (roots : List Path) (made : List (Result DirEntry Error)) → made ≡ [] → All (StaysBelow roots) (map item_of made)
none_below roots made empty =
    subst (λ (made : List (Result DirEntry Error)). All (StaysBelow roots) (map item_of made)) (sym empty) (All-nil (StaysBelow roots))

-- the same items are in hand
pub same_below : (roots : List Path) (a b : Stack) → b.made ≡ a.made → MadeBelow roots a → MadeBelow roots b
same_below roots a b same h = subst (All (StaysBelow roots)) (sym (ap (λ m. map item_of m.items) same)) h

-- the first item is handed out, if there is one
pub first_below : (roots : List Path) (old new : List (Result DirEntry Error)) (r : Option (Result DirEntry Error))
    → old ≡ option_to_list r ++ new → All (StaysBelow roots) (map item_of old)
    → All (StaysBelow roots) (map item_of new) × AnswersBelow roots (option_map item_of r)
first_below roots old new None is h = (subst (λ (l : List (Result DirEntry Error)). All (StaysBelow roots) (map item_of l)) is h, tt)
first_below roots old new (Some x) is h =
    let t = subst (λ (l : List (Result DirEntry Error)). All (StaysBelow roots) (map item_of l)) is h in (
      All-tail (StaysBelow roots) (item_of x) (map item_of new) t,
      All-head (StaysBelow roots) (item_of x) (map item_of new) t,
    )

-- listed things

named_has : (x : Listed) → HasName (named x)
named_has (thing.Entry name kind) = cases (is_proper name && not (has_slash name)) refl
  where
    cases : (b : Bool) → is_proper name && not (has_slash name) ≡ b
        → HasName (cond b (thing.Entry name kind) (thing.Fault BadName))
    cases true h = (Decides-name name).0 h
    cases false h = tt
named_has (thing.Fault fault) = tt

all_named_have : (xs : List Listed) → All HasName (map named xs)
all_named_have [] = All-nil HasName
all_named_have (x ∷ xs) = All-cons HasName (named x) (map named xs) (named_has x) (all_named_have xs)

answer_has : (answer : Result (List Listed) Fault) → All HasName (listing_of answer)
answer_has (Ok xs) = all_named_have xs
answer_has (Err fault) = All-nil HasName

pub listed_have : (lists : Lists) (path : Path) (things : List Listed) → IsListed lists path things → All HasName things
listed_have lists path things (answer, gives, permuted) =
    All-permutation HasName (listing_of answer) things permuted (answer_has answer)

-- directories

-- the directory that was entered last is the first from the inside
pub last_first : (frames around : List Frame) (f : Frame) → frames ≡ around ++ f ∷ [] → reverse frames ≡ f ∷ reverse around
last_first frames around f are = ap reverse are ∙ reverse-append around (f ∷ [])

pub last_below : (roots : List Path) (frames around : List Frame) (f : Frame) → frames ≡ around ++ f ∷ []
    → EnteredBelow roots (reverse frames) → AreBelow roots (f ∷ reverse around)
last_below roots frames around f are h = subst (EnteredBelow roots) (last_first frames around f are) h

pub below_last : (roots : List Path) (frames around : List Frame) (f : Frame) → frames ≡ around ++ f ∷ []
    → AreBelow roots (f ∷ reverse around) → EnteredBelow roots (reverse frames)
below_last roots frames around f are h = subst (EnteredBelow roots) (sym (last_first frames around f are)) h

first_path : (root p : Path) (place : Branch) (ps : List Path) → p ∷ ps ≡ entered root place → p ≡ path_of root place
first_path root p [] ps h = cc h
first_path root p (name ∷ place) ps h = cc h

other_paths : (root p q : Path) (ps : List Path) (place : Branch) → p ∷ (q ∷ ps) ≡ entered root place
    → (name : List ℕ) × (b : Branch) × (place ≡ name ∷ b) × (q ∷ ps ≡ entered root b)
other_paths root p q ps [] h = absurd (cc h)
other_paths root p q ps (name ∷ place) h = (name, place, refl, cc h)

-- a root is entered
pub root_below : (roots : List Path) (root : Path) (f : Frame) → Contains roots root → f.path ≡ root → All HasName f.rest.items
    → AreBelow roots (f ∷ [])
root_below roots root f given path listed = record {
  root = root;
  place = [];
  given = given;
  names = All-nil IsName;
  paths = ap (λ (p : Path). p ∷ []) path;
  listed = All-cons (λ (f : Frame). All HasName f.rest.items) f [] listed (All-nil (λ (f : Frame). All HasName f.rest.items));
}

-- what is listed in the directory that was entered last is entered
pub inner_below : (roots : List Path) (name : List ℕ) (f g : Frame) (fs : List Frame) → AreBelow roots (f ∷ fs) → IsName name
    → g.path ≡ join_of f.path name → All HasName g.rest.items → AreBelow roots (g ∷ (f ∷ fs))
inner_below roots name f g fs are is_name path listed =
    let dir : f.path ≡ path_of are.root are.place = first_path are.root f.path are.place (map (λ (f : Frame). f.path) fs) are.paths in
    let at : g.path ≡ path_of are.root (name ∷ are.place) = path ∙ ap (λ (p : Path). join_of p name) dir in
    let others = are.paths in
    record {
      root = are.root;
      place = name ∷ are.place;
      given = are.given;
      names = All-cons IsName name are.place is_name are.names;
      paths = cc (at, others);
      listed = All-cons (λ (f : Frame). All HasName f.rest.items) g (f ∷ fs) listed are.listed;
    }

-- the first of what is listed was taken
pub rest_below : (roots : List Path) (x : Listed) (f g : Frame) (fs : List Frame) → AreBelow roots (f ∷ fs) → g.path ≡ f.path
    → f.rest.items ≡ x ∷ g.rest.items → AreBelow roots (g ∷ fs)
rest_below roots x f g fs are path taken =
    let H : Frame → Type 0 = λ (f : Frame). All HasName f.rest.items in
    record {
      root = are.root;
      place = are.place;
      given = are.given;
      names = are.names;
      paths = ap (λ (p : Path). p ∷ map (λ (f : Frame). f.path) fs) path ∙ are.paths;
      listed = All-cons H g fs (All-rest HasName x g.rest.items f.rest.items taken (All-head H f fs are.listed)) (All-tail H f fs are.listed);
    }

-- the thing that was taken
pub taken_has : (roots : List Path) (x : Listed) (f : Frame) (fs : List Frame) (xs : List Listed) → AreBelow roots (f ∷ fs)
    → f.rest.items ≡ x ∷ xs → HasName x
taken_has roots x f fs xs are taken =
    let all = All-head (λ (f : Frame). All HasName f.rest.items) f fs are.listed in
    All-head HasName x xs (subst (All HasName) taken all)

-- the directory that was entered last is left
pub outer_below : (roots : List Path) (f : Frame) (fs : List Frame) → AreBelow roots (f ∷ fs) → EnteredBelow roots fs
outer_below roots f [] are = tt
outer_below roots f (g ∷ fs) are =
    let h = other_paths are.root f.path g.path (map (λ (f : Frame). f.path) fs) are.place are.paths in
    let names = subst (All IsName) h.2 are.names in
    record {
      root = are.root;
      place = h.1;
      given = are.given;
      names = All-tail IsName h.0 h.1 names;
      paths = h.3;
      listed = All-tail (λ (f : Frame). All HasName f.rest.items) f (g ∷ fs) are.listed;
    }

-- a listed thing that is an entry, in the directory that was entered last
pub thing_below : (roots : List Path) (frames around : List Frame) (f : Frame) (x : Listed) (e : Entry) → frames ≡ around ++ f ∷ []
    → EnteredBelow roots (reverse frames) → HasName x → IsThing f.path (length frames) x e → IsAtOrBelow roots e.path e.depth
thing_below roots frames around f (thing.Entry name kind) e are entered has (path, deep) =
    let below = last_below roots frames around f are entered in
    let turned = ap (map (λ (f : Frame). f.path)) (last_first frames around f are) ∙ below.paths in
    let many : length frames ≡ length below.place + 1 = frames_length frames below.root below.place turned in
    let dir : f.path ≡ path_of below.root below.place =
    first_path below.root f.path below.place (map (λ (f : Frame). f.path) (reverse around)) below.paths in
    record {
      root = below.root;
      place = name ∷ below.place;
      given = below.given;
      names = All-cons IsName name below.place has below.names;
      is = path ∙ ap (λ (p : Path). join_of p name) dir;
      deep = omega (deep, many, arith);
    }
thing_below roots frames around f (thing.Fault fault) e are entered has is = absurd is

-- a root that is an entry
pub root_is_below : (roots : List Path) (root : Path) (e : Entry) → Contains roots root → (e.path ≡ root) × (e.depth ≡ 0)
    → IsAtOrBelow roots e.path e.depth
root_is_below roots root e given (path, deep) =
    record { root = root; place = []; given = given; names = All-nil IsName; is = path; deep = deep }

-- steps

-- at first
pub first_works : (roots : List Path) → WorksBelow roots (work_at roots)
first_works roots = record { waiting = All-contains_itself roots; entered = tt }

begins_below : (roots : List Path) (lists : Lists) (old new : Work) → WorksBelow roots old → Begins lists old new → WorksBelow roots new
begins_below roots lists old new h b =
    let waiting = subst (All (Contains roots)) b.roots h.waiting in
    record {
      waiting = All-tail (Contains roots) b.root new.roots waiting;
      entered = cases b.enters;
    }
  where
    cases : MayEnter lists b.root [] new.frames → EnteredBelow roots (reverse new.frames)
    cases (inl same) = subst (λ (fs : List Frame). EnteredBelow roots (reverse fs)) (sym same) tt
    cases (inr (f, path, listed, is)) =
        let given = All-head (Contains roots) b.root new.roots (subst (All (Contains roots)) b.roots h.waiting) in
        below_last roots new.frames [] f is (root_below roots b.root f given path (listed_have lists b.root f.rest.items listed))

enters_below : (roots : List Path) (lists : Lists) (x : Listed) (frames around new : List Frame) (f : Frame) (dir : Path)
    → frames ≡ around ++ f ∷ [] → f.path ≡ dir → HasName x → AreBelow roots (f ∷ reverse around) → MayEnterIn lists dir x frames new
    → EnteredBelow roots (reverse new)
enters_below roots lists (thing.Entry name kind) frames around new f dir are at has below (inl same) =
    subst (λ (fs : List Frame). EnteredBelow roots (reverse fs)) (sym same) (below_last roots frames around f are below)
enters_below roots lists (thing.Entry name kind) frames around new f dir are at has below (inr (g, path, listed, is)) =
    let inner : AreBelow roots (g ∷ (f ∷ reverse around)) =
    inner_below roots name f g (reverse around) below has (path ∙ ap (λ (p : Path). join_of p name) (sym at))
    (listed_have lists _ g.rest.items listed) in
    let turned : reverse new ≡ g ∷ (f ∷ reverse around) =
    last_first new frames g is ∙ ap (λ (fs : List Frame). g ∷ fs) (last_first frames around f are) in
    subst (EnteredBelow roots) (sym turned) inner
enters_below roots lists (thing.Fault fault) frames around new f dir are at has below same =
    subst (λ (fs : List Frame). EnteredBelow roots (reverse fs)) (sym same) (below_last roots frames around f are below)

-- after a thing was taken
pub took_below : (roots : List Path) (old between : Work) (x : Listed) → (one : TakesOne old x between) → WorksBelow roots old
    → AreBelow roots (one.after ∷ reverse one.around) × HasName x
took_below roots old between x one h =
    let was = last_below roots old.frames one.around one.before one.was h.entered in (
      rest_below roots x one.before one.after (reverse one.around) was one.same one.taken,
      taken_has roots x one.before (reverse one.around) one.after.rest.items was one.taken,
    )

takes_below : (roots : List Path) (lists : Lists) (old new : Work) → WorksBelow roots old → Takes lists old new → WorksBelow roots new
takes_below roots lists old new h t =
    let one = t.taken in
    let now = took_below roots old t.between t.thing one h in
    record {
      waiting = subst (All (Contains roots)) (sym (t.roots ∙ one.roots)) h.waiting;
      entered = enters_below roots lists t.thing t.between.frames one.around new.frames one.after one.before.path one.is one.same now.1 now.0 t.enters;
    }

leaves_below : (roots : List Path) (old new : Work) → WorksBelow roots old → Leaves old new → WorksBelow roots new
leaves_below roots old new h l = record {
  waiting = subst (All (Contains roots)) (sym l.roots) h.waiting;
  entered = outer_below roots l.left (reverse new.frames) (last_below roots old.frames new.frames l.left l.frames h.entered);
}

pub step_below : (roots : List Path) (lists : Lists) (old new : Work) → WorksBelow roots old → IsStep lists old new → WorksBelow roots new
step_below roots lists old new h (inl begins) = begins_below roots lists old new h begins
step_below roots lists old new h (inr (inl takes)) = takes_below roots lists old new h takes
step_below roots lists old new h (inr (inr leaves)) = leaves_below roots old new h leaves

pub steps_below : (roots : List Path) (lists : Lists) (k : ℕ) (a b : Work) → WorksBelow roots a → TookSteps lists k a b → WorksBelow roots b
steps_below roots lists k a b h none = h
steps_below roots lists k a c h (more {k = j} {b = b} steps step) = step_below roots lists b c (steps_below roots lists j a b h steps) step

-- an entry that was taken in the directory that was entered last
pub took_thing : (roots : List Path) (old between : Work) (x : Listed) (e : Entry) → (one : TakesOne old x between) → WorksBelow roots old
    → IsThing one.after.path (length between.frames) x e → IsAtOrBelow roots e.path e.depth
took_thing roots old between x e one h is =
    let now = took_below roots old between x one h in
    thing_below roots between.frames one.around one.after x e one.is (below_last roots between.frames one.around one.after one.is now.0) now.1 is

-- what is in hand after a step, where its items and its work are known
pub keeps_on_ok : {A E : Type 0} (r : Result A E) (roots : List Path) (lists : Lists) (old new : Stack) → WorksBelow roots (work_of old)
    → OnOk r (IsStep lists (work_of old) (work_of new)) → OnOk r (MadeBelow roots new) → OnOk r (KeepsBelow roots new)
keeps_on_ok (Ok a) roots lists old new h step made =
    record { work = step_below roots lists (work_of old) (work_of new) h step; made = made }
keeps_on_ok (Err e) roots lists old new h step made = tt

-- each directory that was entered

frames_below : (roots : List Path) (fs : List Frame) → EnteredBelow roots fs → All (λ (f : Frame). (depth : ℕ) × IsAtOrBelow roots f.path depth) fs
frames_below roots [] h = All-nil (λ (f : Frame). (depth : ℕ) × IsAtOrBelow roots f.path depth)
frames_below roots (f ∷ fs) h =
    let own : (depth : ℕ) × IsAtOrBelow roots f.path depth = (
      length h.place,
      record {
        root = h.root;
        place = h.place;
        given = h.given;
        names = h.names;
        is = first_path h.root f.path h.place (map (λ (f : Frame). f.path) fs) h.paths;
        deep = refl;
      },
    ) in
    All-cons (λ (f : Frame). (depth : ℕ) × IsAtOrBelow roots f.path depth) f fs own (frames_below roots fs (outer_below roots f fs h))

pub work_below : (roots : List Path) (w : Work) → WorksBelow roots w
    → All (λ (f : Frame). (depth : ℕ) × IsAtOrBelow roots f.path depth) w.frames
work_below roots w h =
    let P : Frame → Type 0 = λ (f : Frame). (depth : ℕ) × IsAtOrBelow roots f.path depth in
    let turned = frames_below roots (reverse w.frames) h.entered in
    subst (All P) (reverse-reverse w.frames)
    (All-permutation P (reverse w.frames) (reverse (reverse w.frames)) (IsPermutation-reverse (reverse w.frames)) turned)

-- runs

abbrev Step : {F S A : Type 0} → Files F → Callbacks S → (A → Item) → Walk F S → Option A → Walk F S → Type 0
Step files calls item a answer b = NextGives files calls a (option_map item answer) b

yields_below : {F S A : Type 0} (files : Files F) (calls : Callbacks S) (item : A → Item) (roots : List Path) (a t : Walk F S) (xs : List A)
    → Yields (Step files calls item) a xs t → KeepsBelow roots a.stack → All (StaysBelow roots) (map item xs) × KeepsBelow roots t.stack
yields_below files calls item roots a t [] same h =
    (All-nil (StaysBelow roots), subst (λ (w : Walk _ _). KeepsBelow roots w.stack) same h)
yields_below files calls item roots a t (x ∷ xs) (j, s, y) h =
    let now = s.below roots h in
    let others = yields_below files calls item roots j t xs y now.0 in
    (All-cons (StaysBelow roots) (item x) (map item xs) now.1 others.0, others.1)

pub run_below : {F S A : Type 0} (files : Files F) (calls : Callbacks S) (item : A → Item) (roots : List Path) (a : Walk F S) (xs : List A)
    → Drains (Step files calls item) a xs → KeepsBelow roots a.stack → All (StaysBelow roots) (map item xs)
run_below files calls item roots a xs (u, (t, y, s)) h = (yields_below files calls item roots a t xs y h).0

pub begun_below : {F S A : Type 0} (files : Files F) (calls : Callbacks S) (item : A → Item) (roots : List Path) (a v : Walk F S) (xs : List A)
    (x : A) → YieldsThen (Step files calls item) a xs (Some x) v → KeepsBelow roots a.stack
    → All (StaysBelow roots) (map item xs) × StaysBelow roots (item x)
begun_below files calls item roots a v xs x (t, y, s) h =
    let all = yields_below files calls item roots a t xs y h in (all.0, (s.below roots all.1).1)
