-- What an entry and a root are, by their place, and what is chosen of them.
use Rattle.std.proofs.Common.{◌≡◌, ℕ, ◌+◌, ◌-◌, ◌<◌, Bool, true, false, cond, not, ◌&&◌, ◌||◌, List, [], ◌∷◌, get_or, length, map, reverse, slice_get, if◌then◌else◌, Option, None, Some, Result, Ok, Err, OnOk, MatchOption, refl, sym, ◌∙◌, ap, subst, arith}
use Rattle.std.specs.declared.cmp.Ordering.{Ordering}
use Rattle.std.proofs.lemmas.List.{get_or-reverse, length-reverse}
use Rattle.std.proofs.lemmas.Option.{get_or_from_slice_get}
use Rattle.ignore_base.specs.Paths.{join_of}
use Rattle.ignore_base.specs.Problem.{Problem, at_depth, io}
use Rattle.ignore_base.specs.declared.fault.Fault.{Fault}
use Rattle.ignore_files.specs.Memory.{and_then}
use Rattle.ignore_files.specs.declared.types.Identity.{Identity}
use Rattle.ignore_files.specs.declared.types.Listed.{Listed}
use Rattle.ignore_files.specs.declared.types.Listed.TheVariants as thing
use Rattle.ignore_files.specs.declared.types.Metadata.{Metadata}
use Rattle.ignore_dir.specs.Query.{is_dir_there}
use Rattle.ignore_dir.specs.Limits.{is_deepest}
use Rattle.ignore_walk.specs.Branch.{Branch, path_of}
use Rattle.ignore_walk.specs.Child.{child, branch_below, or_failed, with_device, identity_at}
use Rattle.ignore_walk.specs.Entry.{Entry}
use Rattle.ignore_walk.specs.Frames.{IsFrame, AreFrames, outermost, inside}
use Rattle.ignore_walk.specs.Left.{IsNext}
use Rattle.ignore_walk.specs.Scene.{Scene}
use Rattle.ignore_walk.specs.Stands.{name_in}
use Rattle.ignore_walk.specs.Suits.{IsOrderBy}
use Rattle.ignore_walk.specs.Walked.{IsOrdered, skip, yield, load, enter, fate, is_skipped, leads_in, is_foreign}
use Rattle.ignore_walk.specs.Whole.{root_by, root_of, root_entry, above_root, reported_before, stays_link}
use Rattle.ignore_walk.specs.declared.callbacks.Order.{Order}
use Rattle.ignore_walk.specs.declared.callbacks.Order.TheVariants.{Listed as AsListed, ByName, ByPath}
use Rattle.ignore_walk.specs.declared.frame.Frame.{Frame}
use Rattle.ignore_walk.proofs.ChildLemmas.{child_path, fault_is}

-- answers

pub on_ok_map : {A E : Type 0} {P Q : Type 0} (r : Result A E) → (P → Q) → OnOk r P → OnOk r Q
on_ok_map (Ok a) f p = f p
on_ok_map (Err e) f p = tt

pub when_none : {X : Type 0} (A : Type 0) (B : X → Type 0) (o : Option X) → o ≡ None → MatchOption o A B → A
when_none A B None is m = m
when_none A B (Some x) is m = absurd (cc (is))

pub when_some : {X : Type 0} (A : Type 0) (B : X → Type 0) (o : Option X) (x : X) → o ≡ Some x → MatchOption o A B → B x
when_some A B None x is m = absurd (cc (is))
when_some A B (Some y) x is m = let e : y ≡ x = cc (is) in subst B e m

-- fates

pub fate_skip : (g : Scene) (root : List ℕ) (b : Branch) (e : Entry) → is_skipped g root b e ≡ true → fate g root b e ≡ skip
unfolding fate
fate_skip g root b e h = rw h refl

enters : (skipped leads deepest foreign : Bool)
    → (if skipped then skip else if not leads || deepest then yield else if foreign then load else enter) ≡ enter → leads ≡ true
enters true leads deepest foreign h = absurd (cc (h))
enters false true deepest foreign h = refl
enters false false deepest foreign h = absurd (cc (h))

pub enter_leads : (g : Scene) (root : List ℕ) (b : Branch) (e : Entry) → fate g root b e ≡ enter → leads_in g b e ≡ true
unfolding fate
enter_leads g root b e h = enters (is_skipped g root b e) (leads_in g b e) (is_deepest g.settings.max_depth e.depth) (is_foreign g root e) h

pub root_kept : (g : Scene) (root : List ℕ) (e : Entry) → is_skipped g root [] e ≡ false
unfolding is_skipped
root_kept g root e = refl

-- the order

pub chosen_ordered : (order : Order) (answers : (List ℕ → List ℕ → Ordering) → Type 0) (chosen : Option (List ℕ → List ℕ → List ℕ → Bool))
    → IsOrderBy order answers chosen → IsOrdered chosen
chosen_ordered AsListed answers chosen (cmp, by, o, is) = rw is tt
chosen_ordered ByName answers chosen (cmp, by, o, is) = rw is (λ dir. o)
chosen_ordered ByPath answers chosen (cmp, by, o, is) =
    rw is (λ dir. record {
      one_way = λ a b. o.one_way (join_of dir a) (join_of dir b);
      chain = λ a b c. o.chain (join_of dir a)
          (join_of dir b) (join_of dir c);
    })

-- roots

abbrev found : Entry → Result Entry Problem
found e = Ok e

ok_path : (e f : Entry) (root : List ℕ) → (e.path ≡ root) → found e ≡ Ok f → f.path ≡ root
ok_path e f root p h = let same : e ≡ f = cc (h) in subst (λ (x : Entry). x.path ≡ root) same p

pub and_then_ok : {A B E : Type 0} (f : A → Result B E) (r : Result A E) (y : B) → and_then f r ≡ Ok y → (x : A) × (r ≡ Ok x) × (f x ≡ Ok y)
and_then_ok f (Ok x) y h = (x, refl, h)
and_then_ok f (Err e) y h = absurd (cc (h))

pub or_failed_ok : {A B : Type 0} (path : List ℕ) (depth : ℕ) (f : A → Result B Problem) (r : Result A Fault) (y : B)
    → or_failed path depth f r ≡ Ok y → (x : A) × (f x ≡ Ok y)
or_failed_ok path depth f (Ok x) y h = (x, h)
or_failed_ok path depth f (Err fault) y h = absurd (cc (h))

checked_path : (b : Bool) (r : Result Identity Fault) (e f : Entry) (root : List ℕ) → (e.path ≡ root)
    → cond b (or_failed e.path e.depth (λ (id : Identity). Ok e) r) (Ok e) ≡ Ok f → f.path ≡ root
checked_path true (Ok id) e f root p h = ok_path e f root p h
checked_path true (Err fault) e f root p h = absurd (cc (h))
checked_path false r e f root p h = ok_path e f root p h

either_path : (b : Bool) (e f : Entry) (root : List ℕ) → e.path ≡ root → f.path ≡ root → (cond b e f).path ≡ root
either_path true e f root p q = p
either_path false e f root p q = q

pub root_path : (g : Scene) (root : List ℕ) (e : Entry) → root_entry g root ≡ Ok e → e.path ≡ root
unfolding root_entry
root_path g root e h =
    let is_dir = is_dir_there (g.tree.stat root true) in
    let t = and_then_ok (with_device g is_dir) (or_failed root 0 (root_of g root) (g.tree.stat root false)) e h in
    let own = or_failed_ok root 0 (root_of g root) (g.tree.stat root false) t.0 t.1 in
    let found = or_failed_ok root 0 (λ (m : Metadata). Ok (root_by g root own.0.file_type m.file_type)) (g.tree.stat root true) t.0 own.1 in
    let path : (root_by g root own.0.file_type found.0.file_type).path ≡ root =
    either_path (stays_link g own.0.file_type found.0.file_type) _ _ root refl refl in
    checked_path (g.same_file_system && is_dir) (identity_at g.tree t.0.path) t.0 e root
    (ok_path (root_by g root own.0.file_type found.0.file_type) t.0 root path found.1) t.2

-- nothing is above a root that leads to no directory
pub plain_root : (g : Scene) (root : List ℕ) → is_dir_there (g.tree.stat root true) ≡ false → above_root g root ≡ []
plain_root g root plain = rw plain refl

pub plain_report : (g : Scene) (seen : List (List ℕ)) (root : List ℕ) → is_dir_there (g.tree.stat root true) ≡ false
    → reported_before g seen root ≡ []
plain_report g seen root plain = rw (plain_root g root plain) refl

-- places

no_entry : (p : Problem) (e : Entry) → Err p ≡ found e → ⊥
no_entry p e h = cc (h)

pub child_place : (g : Scene) (root : List ℕ) (b : Branch) (x : Listed) (e : Entry) → child g root b x ≡ Ok e
    → (name : List ℕ) × (branch_below b x ≡ name ∷ b) × (name_in x ≡ name) × (e.path ≡ path_of root (name ∷ b))
child_place g root b (thing.Entry name kind) e h = (name, refl, refl, child_path g root b name kind e h)
child_place g root b (thing.Fault fault) e h = absurd (no_entry (at_depth (length b + 1) (io fault)) e (sym (fault_is g root b fault) ∙ h))

pub next_inside : (g : Scene) (root : List ℕ) (place : Branch) (fs : List Frame) (name : List ℕ) → AreFrames g root place fs
    → IsNext (name ∷ place) place (map (λ (f : Frame). f.rest.items) fs)
next_inside g root place fs name (outermost is) = (name, refl)
next_inside g root place fs name (inside is all) = (name, refl)

-- the frame that was entered last

first_frame : (g : Scene) (root : List ℕ) (place : Branch) (fs : List Frame) (d : Frame) → AreFrames g root place fs
    → IsFrame g root place (get_or fs 0 d)
first_frame g root place fs d (outermost is) = is
first_frame g root place fs d (inside is all) = is

some_frames : (g : Scene) (root : List ℕ) (place : Branch) (fs : List Frame) → AreFrames g root place fs → 0 < length fs
some_frames g root place fs (outermost is) = omega arith
some_frames g root place fs (inside is all) = omega arith

pub entered_last : (g : Scene) (root : List ℕ) (place : Branch) (fs : List Frame) (f : Frame) → AreFrames g root place (reverse fs)
    → slice_get fs (length fs - 1) ≡ Some f → IsFrame g root place f
entered_last g root place fs f all last =
    let some : 0 < length fs = omega (some_frames g root place (reverse fs) all, length-reverse fs, arith) in
    let at : get_or fs (length fs - 1) f ≡ f = get_or_from_slice_get fs (length fs - 1) f f last in
    let turned : get_or (reverse fs) 0 f ≡ get_or fs (length fs - 1 - 0) f = get_or-reverse fs 0 f some in
    let same : length fs - 1 - 0 ≡ length fs - 1 = omega arith in
    subst (λ (f : Frame). IsFrame g root place f) (turned ∙ (ap (λ (k : ℕ). get_or fs k f) same
    ∙ at)) (first_frame g root place (reverse fs) f all)
