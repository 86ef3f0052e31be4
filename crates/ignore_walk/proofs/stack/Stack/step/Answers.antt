use Rattle.std.proofs.Common.{◌≡◌, ◌++◌, ◌∷◌, [], ℕ, List, Ok, Err, Result, inl, inr, reverse, refl, sym, ◌∙◌, ap, subst, false, length, IfErr, IfOk}
use Rattle.ignore_base.specs.Problem.{Problem, problem_of}
use Rattle.ignore_base.specs.declared.error.Error.{Error}
use Rattle.ignore_walk.specs.Branch.{Branch, text_at}
use Rattle.ignore_walk.specs.Child.{child, branch_below, is_dir_kind}
use Rattle.ignore_walk.specs.Entry.{Entry, entry_of}
use Rattle.ignore_walk.specs.Found.{IsFound}
use Rattle.ignore_walk.specs.Frames.{AreFrames}
use Rattle.ignore_walk.specs.Moves.{Gives, Moves, fails, with_made}
use Rattle.ignore_walk.specs.Paces.{work_of}
use Rattle.ignore_walk.specs.Stands.{state_of}
use Rattle.ignore_walk.specs.declared.found.Found.{Found}
use Rattle.ignore_walk.specs.declared.frame.Frame.{Frame}
use Rattle.ignore_walk.specs.declared.stack.Stack.{Stack}
use Rattle.ignore_walk.proofs.VisitLemmas.{on_ok_map, when_none, when_some, child_place}
use Rattle.ignore_walk.proofs.PaceLemmas.{entered_in, none_in, on_any_ok, taken}
use Rattle.ignore_walk.proofs.StandLemmas.{becomes_by, stand_made, takes_same}
use Rattle.ignore_walk.proofs.NoEndLemmas.{made_go_on, same_no_end}
use Rattle.ignore_walk.specs.GoesOn.{is_fatal}
use Rattle.ignore_walk.proofs.BelowLemmas.{made_below, one_below, same_below, took_thing}
use Rattle.ignore_walk.specs.Below.{IsThing}
use Rattle.ignore_walk.proofs.stack.Stack.step.Goals as goal

pub returns-in-None-clause-stepped : goal.returns-in-None-clause-stepped
returns-in-None-clause-stepped g c = λ s root place seen suits some is.
    when_none _ _ c.take_listed.result c.in-None.is (c.take_listed.ensures.taken s root place seen some is)

pub returns-in-Err-clause-stepped : goal.returns-in-Err-clause-stepped
returns-in-Err-clause-stepped g c = λ s root place seen suits some is.
    let was = c.take_listed.new.self in
    let stack : Stack = record was { text = c.set_text.new.text } in
    let x = c.in-Some.listed in
    let t = takes_same s root place seen c.args.self.now was stack x (record { seen = refl; roots = refl; above = refl; device = refl })
    refl refl refl (when_some _ _ c.take_listed.result x c.in-Some.is (c.take_listed.ensures.taken s root place seen some is)) in
    let p = problem_of c.in-Err.error in
    let state = state_of stack root place seen in
    let frames : AreFrames s root place (reverse c.as_slice-in-Some.result.now) =
    subst (λ (fs : List Frame). AreFrames s root place (reverse fs)) (sym c.as_slice-in-Some.ensures.value) t.frames in
    let failed : child s root place x ≡ Err p =
    subst (λ (r : Result Found Error). IsFound s (λ e. is_dir_kind e.kind) r (child s root place x)) c.in-Err.is
    (c.in_ok-error-in-Some.ensures.value s root place suits frames) in
    let gives : Gives s state (branch_below place x) (child s root place x) (with_made state (Err p ∷ [])) =
    subst (λ (r : Result Entry Problem). Gives s state (branch_below place x) r (with_made state (Err p ∷ []))) (sym failed) fails in
    on_ok_map c.make_error.result
    (λ makes. stand_made s root place seen stack _ (Err p ∷ []) (Moves s (state_of c.args.self.now root place seen))
    (record { seen = refl; roots = refl; above = refl; device = refl }) refl refl makes t.is (t.step _ gives))
    c.make_error.ensures.value

pub returns-in-Ok-clause-stepped : goal.returns-in-Ok-clause-stepped
returns-in-Ok-clause-stepped g c = λ s root place seen suits some is.
    let was = c.take_listed.new.self in
    let stack : Stack = record was { text = c.set_text.new.text } in
    let x = c.in-Some.listed in
    let t = takes_same s root place seen c.args.self.now was stack x (record { seen = refl; roots = refl; above = refl; device = refl })
    refl refl refl (when_some _ _ c.take_listed.result x c.in-Some.is (c.take_listed.ensures.taken s root place seen some is)) in
    let e = entry_of c.in-Ok.found.entry in
    let state = state_of stack root place seen in
    let frames : AreFrames s root place (reverse c.as_slice-in-Some.result.now) =
    subst (λ (fs : List Frame). AreFrames s root place (reverse fs)) (sym c.as_slice-in-Some.ensures.value) t.frames in
    let frames' : AreFrames s root place (reverse c.as_slice.result.now) =
    subst (λ (fs : List Frame). AreFrames s root place (reverse fs)) (sym c.as_slice.ensures.value) t.frames in
    let found : IsFound s (λ e. is_dir_kind e.kind) (Ok c.in-Ok.found) (child s root place x) =
    subst (λ (r : Result Found Error). IsFound s (λ e. is_dir_kind e.kind) r (child s root place x)) c.in-Ok.is
    (c.in_ok-error-in-Some.ensures.value s root place suits frames) in
    let is_entry : child s root place x ≡ Ok e = found.0 in
    let at = child_place s root place x e is_entry in
    let text = c.in_ok-set_text-in-Some.ensures s root place frames' ∙ ap (λ (n : List ℕ). text_at s root place ++ n) at.2 in
    on_ok_map c.take.result
    (λ becomes. becomes_by s c.take.new.self (Gives s state (at.0 ∷ place) (Ok e)) (Moves s (state_of c.args.self.now root place seen)) becomes
    (λ u gives. t.step u (subst (λ (b : Branch). Gives s state b (child s root place x) u) (sym at.1)
    (subst (λ (r : Result Entry Problem). Gives s state (at.0 ∷ place) r u) (sym is_entry) gives))))
    (c.take.ensures.taken s root place at.0 seen suits t.is t.frames t.at text
    (record { path = at.3; sound = found.1; device = found.2 }))

pub returns-in-None-clause-paced : goal.returns-in-None-clause-paced
returns-in-None-clause-paced g c = λ some.
    inr (inr (when_none _ _ c.take_listed.result c.in-None.is (c.take_listed.ensures.next some)))

pub returns-in-Err-clause-paced : goal.returns-in-Err-clause-paced
returns-in-Err-clause-paced g c = λ some.
    let x = c.in-Some.listed in
    let one = when_some _ _ c.take_listed.result x c.in-Some.is (c.take_listed.ensures.next some) in
    on_any_ok c.make_error.result
    (taken (g.F.Files.list_gives c.args.ground.now.files.now) (work_of c.args.self.now) (work_of c.take_listed.new.self) _ x one
    (none_in (g.F.Files.list_gives c.args.ground.now.files.now) one.before.path x c.take_listed.new.self.frames.items) refl)

pub returns-in-Ok-clause-paced : goal.returns-in-Ok-clause-paced
returns-in-Ok-clause-paced g c = λ some.
    let x = c.in-Some.listed in
    let one = when_some _ _ c.take_listed.result x c.in-Some.is (c.take_listed.ensures.next some) in
    let lists = g.F.Files.list_gives c.args.ground.now.files.now in
    let e = entry_of c.in-Ok.found.entry in
    let deep = length c.as_slice-in-Some.result.now in
    let there : IsThing one.after.path deep x e =
    subst (λ (r : Result Found Error). IfOk r (λ f. IsThing one.after.path deep x (entry_of f.entry))) c.in-Ok.is
    (c.in_ok-error-in-Some.ensures.at one.around one.after (c.as_slice-in-Some.ensures.value ∙ one.is)) in
    let is : IsThing one.before.path deep x e = subst (λ (p : List ℕ). IsThing p deep x e) one.same there in
    on_ok_map c.take.result
    (λ enters. taken lists (work_of c.args.self.now) (work_of c.take_listed.new.self) (work_of c.take.new.self) x one
    (entered_in lists one.before.path deep x e c.take_listed.new.self.frames.items c.take.new.self.frames.items is enters)
    (ap (λ r. r.items) c.take.ensures.roots))
    c.take.ensures.enters

pub returns-in-None-clause-no_end : goal.returns-in-None-clause-no_end
returns-in-None-clause-no_end g c = λ h. same_no_end c.args.self.now c.take_listed.new.self c.take_listed.ensures.made h

pub returns-in-Err-clause-no_end : goal.returns-in-Err-clause-no_end
returns-in-Err-clause-no_end g c = λ h.
    let goes_on : is_fatal (problem_of c.in-Err.error) ≡ false =
    subst (λ (r : Result Found Error). IfErr r (λ e. is_fatal (problem_of e) ≡ false)) c.in-Err.is c.in_ok-error-in-Some.ensures.no_end in
    on_ok_map c.make_error.result
    (λ makes. made_go_on _ _ _ makes (same_no_end c.args.self.now c.take_listed.new.self c.take_listed.ensures.made h) (goes_on, tt))
    c.make_error.ensures.value

pub returns-in-Ok-clause-no_end : goal.returns-in-Ok-clause-no_end
returns-in-Ok-clause-no_end g c = λ h.
    c.take.ensures.no_end (same_no_end c.args.self.now c.take_listed.new.self c.take_listed.ensures.made h)

-- at or below the roots

pub returns-in-None-clause-below : goal.returns-in-None-clause-below
returns-in-None-clause-below g c = λ roots some h. same_below roots c.args.self.now c.take_listed.new.self c.take_listed.ensures.made h.made

pub returns-in-Err-clause-below : goal.returns-in-Err-clause-below
returns-in-Err-clause-below g c = λ roots some h.
    on_ok_map c.make_error.result
    (λ makes. made_below roots _ _ _ makes (same_below roots c.args.self.now c.take_listed.new.self c.take_listed.ensures.made h.made)
    (one_below roots _ tt))
    c.make_error.ensures.value

pub returns-in-Ok-clause-below : goal.returns-in-Ok-clause-below
returns-in-Ok-clause-below g c = λ roots some h.
    let x = c.in-Some.listed in
    let was = c.take_listed.new.self in
    let one = when_some _ _ c.take_listed.result x c.in-Some.is (c.take_listed.ensures.next some) in
    let e = entry_of c.in-Ok.found.entry in
    let deep = length c.as_slice-in-Some.result.now in
    let there : IsThing one.after.path deep x e =
    subst (λ (r : Result Found Error). IfOk r (λ f. IsThing one.after.path deep x (entry_of f.entry))) c.in-Ok.is
    (c.in_ok-error-in-Some.ensures.at one.around one.after (c.as_slice-in-Some.ensures.value ∙ one.is)) in
    let is : IsThing one.after.path (length was.frames.items) x e =
    subst (λ (fs : List Frame). IsThing one.after.path (length fs) x e) c.as_slice-in-Some.ensures.value there in
    c.take.ensures.below roots (took_thing roots (work_of c.args.self.now) (work_of was) x e one h.work is)
    (same_below roots c.args.self.now was c.take_listed.ensures.made h.made)
