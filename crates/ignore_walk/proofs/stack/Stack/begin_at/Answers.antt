use Rattle.std.proofs.Common.{◌≡◌, ◌∷◌, [], ℕ, List, Ok, Err, Result, inl, true, refl, sym, ◌∙◌, ap, subst, false, IfErr, IfOk, OnOk}
use Rattle.ignore_base.specs.Problem.{Problem, problem_of}
use Rattle.ignore_base.specs.declared.error.Error.{Error}
use Rattle.ignore_dir.specs.Query.{is_dir_there}
use Rattle.ignore_walk.specs.Entry.{Entry, entry_of}
use Rattle.ignore_walk.specs.Found.{IsFound}
use Rattle.ignore_walk.specs.Frames.{device_of}
use Rattle.ignore_walk.specs.Moves.{Gives, fails, with_made}
use Rattle.ignore_walk.specs.Stands.{Becomes, state_of}
use Rattle.ignore_walk.specs.Whole.{root_entry}
use Rattle.ignore_walk.specs.declared.found.Found.{Found}
use Rattle.ignore_walk.specs.declared.stack.Stack.{Stack}
use Rattle.ignore_walk.proofs.PaceLemmas.{on_any_ok}
use Rattle.ignore_walk.proofs.VisitLemmas.{on_ok_map, root_path, root_kept}
use Rattle.ignore_walk.proofs.StandLemmas.{stand_made, next_root, outside}
use Rattle.ignore_walk.proofs.NoEndLemmas.{made_go_on}
use Rattle.ignore_walk.specs.GoesOn.{is_fatal}
use Rattle.ignore_walk.proofs.BelowLemmas.{made_below, one_below, root_is_below}
use Rattle.ignore_walk.specs.Paces.{MayEnter}
use Rattle.ignore_walk.proofs.stack.Stack.begin_at.Goals as goal

pub returns-in-Err-clause-begun : goal.returns-in-Err-clause-begun
returns-in-Err-clause-begun g c = λ s seen suits empty kept is_dir above base.
    let root = c.args.root.now in
    let p = problem_of c.in-Err.error in
    let state = state_of c.args.self.now root [] seen in
    let failed : root_entry s root ≡ Err p =
    subst (λ (r : Result Found Error). IsFound s (λ e. c.args.is_dir) r (root_entry s root)) c.in-Err.is (c.in_ok-error.ensures.value s suits is_dir) in
    on_ok_map c.make_error.result
    (λ makes. stand_made s root [] seen c.args.self.now _ (Err p ∷ []) (Gives s state [] (root_entry s root))
    (record { seen = refl; roots = refl; above = refl; device = refl }) refl refl makes (outside s root [] seen c.args.self.now empty kept)
    (subst (λ (r : Result Entry Problem). Gives s state [] r (with_made state (Err p ∷ []))) (sym failed) fails))
    c.make_error.ensures.value

pub returns-in-Ok-clause-begun : goal.returns-in-Ok-clause-begun
returns-in-Ok-clause-begun g c = λ s seen suits empty kept is_dir above base.
    let root = c.args.root.now in
    let self = c.args.self.now in
    let e = entry_of c.in-Ok.found.entry in
    let state = state_of c.args.self.now root [] seen in
    let found : IsFound s (λ e. c.args.is_dir) (Ok c.in-Ok.found) (root_entry s root) =
    subst (λ (r : Result Found Error). IsFound s (λ e. c.args.is_dir) r (root_entry s root)) c.in-Ok.is (c.in_ok-error.ensures.value s suits is_dir) in
    let is : root_entry s root ≡ Ok e = found.0 in
    let path : e.path ≡ root = root_path s root e is in
    let next : Stack = record {
      roots = self.roots;
      seen = self.seen;
      levels = self.levels;
      above = self.above;
      device = c.in-Ok.found.device;
      frames = self.frames;
      made = self.made;
      text = self.text;
    } in
    subst (λ (r : Result Entry Problem). OnOk c.visit.result (Becomes s c.visit.new.self (Gives s state [] r))) (sym is)
    (c.visit.ensures.visited s root [] [] seen suits
    (outside s root [] seen next empty (record { kept = kept.kept; places = kept.places }))
    (record {
      path = path;
      leads_there = is_dir ∙ ap (λ (p : List ℕ). is_dir_there (s.tree.stat p true)) (sym path);
      kept = root_kept s root e;
      at = λ t. found.2 t ∙ ap (λ (p : List ℕ). device_of s p) path;
      device = λ t. found.2 t;
      seen_as = λ t. c.new.ensures ∙ base t;
      around = λ t. above t;
    }) (next_root c.args.self.now [] empty))

pub returns-in-Err-clause-enters : goal.returns-in-Err-clause-enters
returns-in-Err-clause-enters g c = on_any_ok c.make_error.result (inl refl)

pub returns-in-Ok-clause-enters : goal.returns-in-Ok-clause-enters
returns-in-Ok-clause-enters g c =
    let e = entry_of c.in-Ok.found.entry in
    let at : (e.path ≡ c.args.root.now) × (e.depth ≡ 0) =
    subst (λ (r : Result Found Error). IfOk r (λ f. ((entry_of f.entry).path ≡ c.args.root.now) × ((entry_of f.entry).depth ≡ 0))) c.in-Ok.is
    c.in_ok-error.ensures.at in
    subst (λ (p : List ℕ). OnOk c.visit.result (MayEnter (g.F.Files.list_gives c.args.ground.now.files.now) p c.args.self.now.frames.items c.visit.new.self.frames.items))
    at.0 c.visit.ensures.enters

pub returns-in-Err-clause-no_end : goal.returns-in-Err-clause-no_end
returns-in-Err-clause-no_end g c = λ h.
    let goes_on : is_fatal (problem_of c.in-Err.error) ≡ false =
    subst (λ (r : Result Found Error). IfErr r (λ e. is_fatal (problem_of e) ≡ false)) c.in-Err.is c.in_ok-error.ensures.no_end in
    on_ok_map c.make_error.result (λ makes. made_go_on _ _ _ makes h (goes_on, tt)) c.make_error.ensures.value

pub returns-in-Ok-clause-no_end : goal.returns-in-Ok-clause-no_end
returns-in-Ok-clause-no_end g c = λ h. c.visit.ensures.no_end h

pub returns-in-Err-clause-below : goal.returns-in-Err-clause-below
returns-in-Err-clause-below g c = λ roots given h.
    on_ok_map c.make_error.result (λ makes. made_below roots _ _ _ makes h (one_below roots _ tt)) c.make_error.ensures.value

pub returns-in-Ok-clause-below : goal.returns-in-Ok-clause-below
returns-in-Ok-clause-below g c = λ roots given h.
    let e = entry_of c.in-Ok.found.entry in
    let at : (e.path ≡ c.args.root.now) × (e.depth ≡ 0) =
    subst (λ (r : Result Found Error). IfOk r (λ f. ((entry_of f.entry).path ≡ c.args.root.now) × ((entry_of f.entry).depth ≡ 0))) c.in-Ok.is
    c.in_ok-error.ensures.at in
    c.visit.ensures.below roots (root_is_below roots c.args.root.now e given at) h
