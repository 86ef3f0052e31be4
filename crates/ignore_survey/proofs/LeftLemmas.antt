-- What a stack stands for stays the same while directories are listed and left, and loses what is taken;
-- and what it stands for then is all that it stood for.
use Rattle.std.proofs.Common.{◌≡◌, ◌↔◌, ℕ, Bool, true, false, List, [], ◌∷◌, ◌++◌, Option, None, Some, Result, Ok, Err, IfOk, refl, sym, ◌∙◌, ap, subst, append_assoc}
use Rattle.std.proofs.lemmas.List.{append-nil}
use Rattle.std.specs.Prelude.{if◌then◌else◌}
use Rattle.std.specs.declared.alloc.Global.{Global}
use Rattle.std.specs.declared.string.String.{String}
use Rattle.ignore_base.specs.Paths.{join_of}
use Rattle.ignore_base.specs.Problem.{Problem, at_path, io, problem_of}
use Rattle.ignore_base.specs.Text.{Path}
use Rattle.ignore_base.specs.declared.error.Error.{Error}
use Rattle.ignore_base.specs.declared.fault.Fault.{Fault}
use Rattle.ignore_dir.specs.Scene.{QueryScene}
use Rattle.ignore_files.specs.declared.types.FileType.{FileType}
use Rattle.ignore_files.specs.declared.types.Listed.{Listed}
use Rattle.ignore_files.specs.declared.types.Listed.TheVariants as thing
use Rattle.ignore_survey.specs.Stands.{Enters, Finds, Hands, Left, Stands, Takes, Waits, found_at, found_of, next_dir}
use Rattle.ignore_survey.specs.Survey.{Below, Each, Entry, IsSurvey, Item, Lists, entry_at, goes_on, is_open, place, unlisted}
use Rattle.ignore_survey.specs.Survey.{fails, lists, none, fault, leaf, inner, closed, of_root}
use Rattle.ignore_survey.specs.declared.stack.Frame.{Frame}
use Rattle.ignore_survey.specs.declared.stack.Stack.{Stack}
use Rattle.ignore_survey.proofs.SurveyLemmas.{below_failed, below_listed, each_entry, each_fault, each_none}

-- from one to the next
pub iff_trans : {A B C : Type 0} → A ↔ B → B ↔ C → A ↔ C
iff_trans h k = (λ a. k.0 (h.0 a), λ c. h.1 (k.1 c))

pub ok_more : {A E : Type 0} (P Q : A → Type 0) (r : Result A E) → ((x : A) → P x → Q x) → IfOk r P → IfOk r Q
ok_more P Q (Ok x) more h = more x h
ok_more P Q (Err e) more h = tt

-- the innermost directory of which nothing is left is left
pub leave : (g : QueryScene) (f : Frame) (fs : List Frame) (items : List Item) → f.rest.items ≡ []
    → Left g (f ∷ fs) items ↔ Left g fs items
leave g f fs items empty = (on, back)
  where
    on : Left g (f ∷ fs) items → Left g fs items
    on left =
        let own : left.own ≡ [] = each_none g f.path left.own (subst (λ (xs : List Listed). Each g f.path xs left.own) empty left.first) in
        let are : left.outer ≡ items = sym (left.are ∙ ap (λ (o : List Item). o ++ left.outer) own) in
        subst (Left g fs) are left.rest

    back : Left g fs items → Left g (f ∷ fs) items
    back left =
        record {
          own = [];
          outer = items;
          first = subst (λ (xs : List Listed). Each g f.path xs []) (sym empty) none;
          rest = left;
          are = refl;
        }

-- a thing is taken of it
pub taken : (g : QueryScene) (f h : Frame) (x : Listed) (fs : List Frame) (items : List Item) → h.path ≡ f.path
    → f.rest.items ≡ x ∷ h.rest.items → Left g (f ∷ fs) items ↔ Takes g h x fs items
taken g f h x fs items path rest = (on, back)
  where
    on : Left g (f ∷ fs) items → Takes g h x fs items
    on left =
        record {
          own = left.own;
          outer = left.outer;
          first = subst (λ (p : Path). Each g p (x ∷ h.rest.items) left.own) (sym path)
              (subst (λ (xs : List Listed). Each g f.path xs left.own) rest left.first);
          rest = left.rest;
          are = left.are;
        }

    back : Takes g h x fs items → Left g (f ∷ fs) items
    back takes =
        record {
          own = takes.own;
          outer = takes.outer;
          first = subst (λ (xs : List Listed). Each g f.path xs takes.own) (sym rest)
              (subst (λ (p : Path). Each g p (x ∷ h.rest.items) takes.own) path takes.first);
          rest = takes.rest;
          are = takes.are;
        }

-- where no directory waits, the entered ones give all that is left
pub none_waits : (g : QueryScene) (s : Stack) (items : List Item) → s.waiting ≡ None → Stands g s items ↔ Left g s.frames.items items
none_waits g s items shut = (on, back)
  where
    on : Stands g s items → Left g s.frames.items items
    on stands =
        let own : stands.own ≡ [] = subst (λ (w : Option Path). Waits g w stands.own) shut stands.first in
        let are : stands.outer ≡ items = sym (stands.are ∙ ap (λ (o : List Item). o ++ stands.outer) own) in
        subst (Left g s.frames.items) are stands.rest

    back : Left g s.frames.items items → Stands g s items
    back left =
        record {
          own = [];
          outer = items;
          first = subst (λ (w : Option Path). Waits g w []) (sym shut) refl;
          rest = left;
          are = refl;
        }

-- a directory is entered by what it lists
pub enters_listed : (g : QueryScene) (dir : Path) (f : Frame) → f.path ≡ dir → Lists g.tree (place g.root dir) f.rest.items → Enters g dir (Ok f)
enters_listed g dir f path listed = λ items. (
  λ below. subst (λ (p : Path). Each g p f.rest.items items) (sym path) (below_listed g dir items f.rest.items listed below),
  λ each. lists listed (subst (λ (p : Path). Each g p f.rest.items items) path each),
)

-- or it can't be listed
pub enters_failed : (g : QueryScene) (dir : Path) (e : Error) (f : Fault) → g.tree.list (place g.root dir) ≡ Err f
    → problem_of e ≡ at_path (place g.root dir) (io f) → Enters g dir (Err e)
enters_failed g dir e f shut is = λ items.
    let alone : Problem → List Item = λ p. Err p ∷ [] in (
      λ below. below_failed g dir items f shut below ∙ ap alone (sym is),
      λ are. subst (Below g dir) (sym (are ∙ ap alone is)) (fails shut),
    )

-- the directory that waits is entered
pub entered : (g : QueryScene) (s : Stack) (f : Frame) (dir : Path) (items : List Item) → s.waiting ≡ Some dir → Enters g dir (Ok f)
    → Stands g s items ↔ Left g (f ∷ s.frames.items) items
entered g s f dir items waits enters = (on, back)
  where
    on : Stands g s items → Left g (f ∷ s.frames.items) items
    on stands =
        let below : Below g dir stands.own = subst (λ (w : Option Path). Waits g w stands.own) waits stands.first in
        record { own = stands.own; outer = stands.outer; first = (enters stands.own).0 below; rest = stands.rest; are = stands.are }

    back : Left g (f ∷ s.frames.items) items → Stands g s items
    back left =
        record {
          own = left.own;
          outer = left.outer;
          first = subst (λ (w : Option Path). Waits g w left.own) (sym waits) ((enters left.own).1 left.first);
          rest = left.rest;
          are = left.are;
        }

-- the directory that waits can't be listed
pub refused : (g : QueryScene) (s t : Stack) (e : Error) (dir : Path) (items : List Item) → s.waiting ≡ Some dir → t.waiting ≡ None
    → t.frames.items ≡ s.frames.items → Enters g dir (Err e) → Stands g s items ↔ Hands g t (Err (problem_of e)) items
refused g s t e dir items waits empty same enters = (on, back)
  where
    alone : List Item
    alone = Err (problem_of e) ∷ []

    on : Stands g s items → Hands g t (Err (problem_of e)) items
    on stands =
        let below : Below g dir stands.own = subst (λ (w : Option Path). Waits g w stands.own) waits stands.first in
        record {
          others = stands.outer;
          are = stands.are ∙ ap (λ (o : List Item). o ++ stands.outer) ((enters stands.own).0 below);
          rest = (none_waits g t stands.outer empty).1 (subst (λ (l : List Frame). Left g l stands.outer) (sym same) stands.rest);
        }

    back : Hands g t (Err (problem_of e)) items → Stands g s items
    back h =
        record {
          own = alone;
          outer = h.others;
          first = subst (λ (w : Option Path). Waits g w alone) (sym waits) ((enters alone).1 refl);
          rest = subst (λ (l : List Frame). Left g l h.others) same ((none_waits g t h.others empty).0 h.rest);
          are = h.are;
        }

module _ (g : QueryScene) (f : Frame) (fs : List Frame) where
  -- what waits after an entry
  waits_for : (path : Path) (kind : FileType) (inside : List Item) (b : Bool) → b ≡ goes_on g path kind
      → (goes_on g path kind ≡ false → inside ≡ []) → (goes_on g path kind ≡ true → Below g path inside)
      → Waits g (if b then Some path else None) inside
  waits_for path kind inside true is shut goes = goes (sym is)
  waits_for path kind inside false is shut goes = shut (sym is)

  -- an entry gives itself and what waits after it
  entry_gives : (name : List ℕ) (kind : FileType) (xs : List Listed) (inside items : List Item) (b : Bool)
      → goes_on g (join_of f.path name) kind ≡ b → Waits g (if b then Some (join_of f.path name) else None) inside → Each g f.path xs items
      → Each g f.path (thing.Entry name kind ∷ xs) (Ok (entry_at g (join_of f.path name) kind) ∷ (inside ++ items))
  entry_gives name kind xs inside items true is waits each = inner is waits each
  entry_gives name kind xs inside items false is waits each =
      subst (λ (o : List Item). Each g f.path (thing.Entry name kind ∷ xs) (Ok (entry_at g (join_of f.path name) kind) ∷ (o ++ items)))
      (sym waits) (leaf is each)

  module _ (t : Stack) (items : List Item) (empty : t.waiting ≡ None) (frames : t.frames.items ≡ f ∷ fs) where
    -- what was taken of a directory is the first item, and the directory has the rest of it
    found_on : (x : Listed) → Takes g f x fs items → Finds g t (found_at g.root f.path x) items
    found_on (thing.Fault k) takes =
        let e = each_fault g f.path k f.rest.items takes.own takes.first in
        record {
          others = e.0 ++ takes.outer;
          are = takes.are ∙ ap (λ (o : List Item). o ++ takes.outer) e.1;
          rest = (none_waits g t (e.0 ++ takes.outer) empty).1 (subst (λ (l : List Frame). Left g l (e.0 ++ takes.outer)) (sym frames)
              (record { own = e.0; outer = takes.outer; first = e.2; rest = takes.rest; are = refl }));
        }
    found_on (thing.Entry name kind) takes =
        let path = join_of f.path name in
        let e = each_entry g f.path name kind f.rest.items takes.own takes.first in
        record {
          others = e.inside ++ (e.items ++ takes.outer);
          are = takes.are ∙ (ap (λ (o : List Item). o ++ takes.outer) e.are
              ∙ ap (λ (o : List Item). Ok (entry_at g path kind) ∷ o) (append_assoc e.inside e.items takes.outer));
          rest = record {
            own = e.inside;
            outer = e.items ++ takes.outer;
            first = waits_for path kind e.inside (goes_on g path kind) refl e.leaf_there e.inner_there;
            rest = subst (λ (l : List Frame). Left g l (e.items ++ takes.outer)) (sym frames)
                (record { own = e.items; outer = takes.outer; first = e.each; rest = takes.rest; are = refl });
            are = refl;
          };
        }

    -- and what the stack gives then is all that there was
    found_back : (x : Listed) → Finds g t (found_at g.root f.path x) items → Takes g f x fs items
    found_back (thing.Fault k) h =
        let left : Left g (f ∷ fs) h.others = subst (λ (l : List Frame). Left g l h.others) frames ((none_waits g t h.others empty).0 h.rest) in
        record {
          own = unlisted g f.path k ∷ left.own;
          outer = left.outer;
          first = fault left.first;
          rest = left.rest;
          are = h.are ∙ ap (λ (o : List Item). unlisted g f.path k ∷ o) left.are;
        }
    found_back (thing.Entry name kind) h =
        let path = join_of f.path name in
        let left : Left g (f ∷ fs) h.rest.outer = subst (λ (l : List Frame). Left g l h.rest.outer) frames h.rest.rest in
        record {
          own = Ok (entry_at g path kind) ∷ (h.rest.own ++ left.own);
          outer = left.outer;
          first = entry_gives name kind f.rest.items h.rest.own left.own (goes_on g path kind) refl h.rest.first left.first;
          rest = left.rest;
          are = h.are ∙ ap (λ (o : List Item). Ok (entry_at g path kind) ∷ o) (h.rest.are
              ∙ (ap (λ (o : List Item). h.rest.own ++ o) left.are ∙ sym (append_assoc h.rest.own left.own left.outer)));
        }

    pub found : (x : Listed) → Takes g f x fs items ↔ Finds g t (found_at g.root f.path x) items
    found x = (found_on x, found_back x)

-- after an entry, the stack waits for what is below it
pub next_waits : (g : QueryScene) (s t : Stack) (path : Path) (kind : FileType) (e : Entry) (items : List Item)
    → e ≡ entry_at g path kind → t.waiting ≡ (if e.answer.descends then Some e.path else None)
    → t.frames.items ≡ s.frames.items → Finds g s (Ok (path, kind)) items ↔ Hands g t (Ok e) items
next_waits g s t path kind e items is waits same = (on, back)
  where
    next : t.waiting ≡ next_dir g path kind
    next = waits ∙ ap (λ (x : Entry). if x.answer.descends then Some x.path else None) is

    on : Finds g s (Ok (path, kind)) items → Hands g t (Ok e) items
    on h =
        record {
          others = h.others;
          are = h.are ∙ ap (λ (x : Entry). Ok x ∷ h.others) (sym is);
          rest = record {
            own = h.rest.own;
            outer = h.rest.outer;
            first = subst (λ (w : Option Path). Waits g w h.rest.own) (sym next) h.rest.first;
            rest = subst (λ (l : List Frame). Left g l h.rest.outer) (sym same) h.rest.rest;
            are = h.rest.are;
          };
        }

    back : Hands g t (Ok e) items → Finds g s (Ok (path, kind)) items
    back h =
        record {
          others = h.others;
          are = h.are ∙ ap (λ (x : Entry). Ok x ∷ h.others) is;
          rest = record {
            own = h.rest.own;
            outer = h.rest.outer;
            first = subst (λ (w : Option Path). Waits g w h.rest.own) next h.rest.first;
            rest = subst (λ (l : List Frame). Left g l h.rest.outer) same h.rest.rest;
            are = h.rest.are;
          };
        }

-- what was listed, by what it is
pub finds_as : (g : QueryScene) (s : Stack) (f h : Result (String Global × FileType) Error) (items : List Item) → f ≡ h
    → Finds g s (found_of f) items ↔ Finds g s (found_of h) items
finds_as g s f h items is = (
  λ finds. subst (λ (x : Result (String Global × FileType) Error). Finds g s (found_of x) items) is finds,
  λ finds. subst (λ (x : Result (String Global × FileType) Error). Finds g s (found_of x) items) (sym is) finds,
)

-- at first the root waits, where it is surveyed
abbrev pub waits_if : Bool → Option Path
waits_if goes = if goes then Some [] else None

module _ (g : QueryScene) (s : Stack) (items : List Item) (waits : s.waiting ≡ waits_if (is_open g)) (empty : s.frames.items ≡ []) where
  waits_at : (b : Bool) → is_open g ≡ b → s.waiting ≡ waits_if b
  waits_at b is = waits ∙ ap waits_if is

  pub stand_whole : IsSurvey g items → Stands g s items
  stand_whole survey =
      record {
        own = items;
        outer = [];
        first = by items survey;
        rest = subst (λ (l : List Frame). Left g l []) (sym empty) refl;
        are = sym (append-nil items);
      }
    where
      by : (all : List Item) → IsSurvey g all → Waits g s.waiting all
      by all (closed shut) = subst (λ (w : Option Path). Waits g w []) (sym (waits_at false shut)) refl
      by all (of_root goes below) = subst (λ (w : Option Path). Waits g w all) (sym (waits_at true goes)) below

  of_waiting : (own : List Item) (b : Bool) → is_open g ≡ b → Waits g s.waiting own → IsSurvey g own
  of_waiting own true goes w = of_root goes (subst (λ (x : Option Path). Waits g x own) (waits_at true goes) w)
  of_waiting own false shut w =
      let gone : own ≡ [] = subst (λ (x : Option Path). Waits g x own) (waits_at false shut) w in subst (IsSurvey g) (sym gone) (closed shut)

  -- and it gives no more than the survey of the root
  pub whole_stands : Stands g s items → IsSurvey g items
  whole_stands stands =
      let gone : stands.outer ≡ [] = subst (λ (l : List Frame). Left g l stands.outer) empty stands.rest in
      let are : items ≡ stands.own = stands.are ∙ (ap (λ (o : List Item). stands.own ++ o) gone ∙ append-nil stands.own) in
      subst (IsSurvey g) (sym are) (of_waiting stands.own (is_open g) refl stands.first)
