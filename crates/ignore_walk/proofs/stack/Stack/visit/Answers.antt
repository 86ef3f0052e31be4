use Rattle.std.proofs.Common.{◌≡◌, ◌++◌, ℕ, List, Option, None, Ok, inl, map, option_map, refl, sym, ◌∙◌, ap, subst, true}
use Rattle.ignore_base.specs.Problem.{Problem, problem_of}
use Rattle.ignore_dir.specs.declared.settings.Settings.{Settings}
use Rattle.ignore_walk.specs.Branch.{path_of, text_at}
use Rattle.ignore_walk.specs.Entry.{entry_of, item_of}
use Rattle.ignore_walk.specs.Moves.{Gives, closes}
use Rattle.ignore_walk.specs.Moves.{yields as gives_leaf}
use Rattle.ignore_walk.specs.Opens.{Opens}
use Rattle.ignore_walk.specs.Fates.{fate_of}
use Rattle.ignore_walk.specs.Stands.{state_of}
use Rattle.ignore_walk.specs.Walked.{yield, load, enter, fate, yielded, loaded}
use Rattle.ignore_walk.proofs.VisitLemmas.{on_ok_map, enter_leads}
use Rattle.ignore_walk.proofs.PaceLemmas.{entered, on_any_ok}
use Rattle.ignore_walk.proofs.StandLemmas.{stand_made}
use Rattle.ignore_walk.proofs.NoEndLemmas.{made_go_on, yielded_go_on}
use Rattle.ignore_walk.proofs.BelowLemmas.{made_below, yielded_below}
use Rattle.ignore_walk.proofs.stack.Stack.visit.Goals as goal

pub returns-in-Yield-clause-visited : goal.returns-in-Yield-clause-visited
returns-in-Yield-clause-visited g c = λ s root place b seen suits is visits next.
    let e = entry_of c.args.found.entry in
    let made = map item_of c.args.self.now.made.items in
    let yields : fate s root b e ≡ yield =
    c.fate-fate.ensures.value s root b suits (λ t. visits.at t) (λ t. visits.device t) visits.leads_there visits.kept ∙ ap fate_of c.in-Yield.is in
    on_ok_map c.make.result
    (λ makes. stand_made s root place seen c.args.self.now _ (yielded s.settings e None) (Gives s (state_of c.args.self.now root place seen) b (Ok e))
    (record { seen = refl; roots = refl; above = refl; device = refl }) refl refl
    (makes ∙ ap (λ (t : Settings). made ++ yielded t e None) (sym suits.settings)) is
    (gives_leaf yields)) c.make.ensures.value

pub returns-in_ok-error-in-Load-clause-visited : goal.returns-in_ok-error-in-Load-clause-visited
returns-in_ok-error-in-Load-clause-visited g c = λ s root place b seen suits is visits next.
    let e = entry_of c.args.found.entry in
    let made = map item_of c.args.self.now.made.items in
    let problem = option_map problem_of c.in_ok-error-in-Load.error in
    let loads : fate s root b e ≡ load =
    c.fate-fate.ensures.value s root b suits (λ t. visits.at t) (λ t. visits.device t) visits.leads_there visits.kept ∙ ap fate_of c.in-Load.is in
    let found : problem ≡ (s.loads e.path).1 =
    c.in_ok-error-in-Load.ensures.value s suits ∙ ap (λ (p : List ℕ). (s.loads p).1) c.path.ensures in
    on_ok_map c.make-in-Load.result
    (λ makes. stand_made s root place seen c.args.self.now _ (loaded s e) (Gives s (state_of c.args.self.now root place seen) b (Ok e))
    (record { seen = refl; roots = refl; above = refl; device = refl }) refl refl
    (makes ∙ (ap (λ (t : Settings). made ++ yielded t e problem) (sym suits.settings)
    ∙ ap (λ (p : Option Problem). made ++ yielded s.settings e p) found)) is
    (closes loads)) c.make-in-Load.ensures.value

pub returns-in_ok-opened-in-Enter-clause-visited : goal.returns-in_ok-opened-in-Enter-clause-visited
returns-in_ok-opened-in-Enter-clause-visited g c = λ s root place b seen suits is visits next.
    let e = entry_of c.args.found.entry in
    let enters : fate s root b e ≡ enter =
    c.fate-fate.ensures.value s root b suits (λ t. visits.at t) (λ t. visits.device t) visits.leads_there visits.kept ∙ ap fate_of c.in-Enter.is in
    let leads : c.args.leads_in ≡ true = visits.leads_there ∙ enter_leads s root b e enters in
    let path : c.path-in-Enter.result.now ≡ path_of root b = c.path-in-Enter.ensures ∙ visits.path in
    let opens : Opens s (path_of root b) (text_at s root b) c.in_ok-opened-in-Enter.opened =
    subst (λ (t : List ℕ). Opens s (path_of root b) t c.in_ok-opened-in-Enter.opened) (visits.seen_as leads)
    (subst (λ (p : List ℕ). Opens s p c.args.text c.in_ok-opened-in-Enter.opened) path (c.in_ok-opened-in-Enter.ensures.value s suits)) in
    c.settle.ensures.entered s root place b seen suits.settings is (visits.at leads) (visits.around leads) visits.path opens enters next

pub returns-in-Yield-clause-enters : goal.returns-in-Yield-clause-enters
returns-in-Yield-clause-enters g c = on_any_ok c.make.result (inl refl)

pub returns-in_ok-error-in-Load-clause-enters : goal.returns-in_ok-error-in-Load-clause-enters
returns-in_ok-error-in-Load-clause-enters g c = on_any_ok c.make-in-Load.result (inl refl)

pub returns-in_ok-opened-in-Enter-clause-enters : goal.returns-in_ok-opened-in-Enter-clause-enters
returns-in_ok-opened-in-Enter-clause-enters g c =
    on_ok_map c.settle.result
    (entered (g.F.Files.list_gives c.args.ground.now.files.now) (entry_of c.args.found.entry).path c.in_ok-opened-in-Enter.opened.directory
    c.args.self.now.frames.items c.settle.new.self.frames.items (c.in_ok-opened-in-Enter.ensures.path ∙ c.path-in-Enter.ensures)
    c.in_ok-opened-in-Enter.ensures.listed)
    c.settle.ensures.enters

pub returns-in-Yield-clause-no_end : goal.returns-in-Yield-clause-no_end
returns-in-Yield-clause-no_end g c = λ h.
    on_ok_map c.make.result (λ makes. made_go_on _ _ _ makes h (yielded_go_on c.args.ground.now.settings (entry_of c.args.found.entry) None tt)) c.make.ensures.value

pub returns-in_ok-error-in-Load-clause-no_end : goal.returns-in_ok-error-in-Load-clause-no_end
returns-in_ok-error-in-Load-clause-no_end g c = λ h.
    let problem = option_map problem_of c.in_ok-error-in-Load.error in
    let soft = c.in_ok-error-in-Load.ensures.soft in
    on_ok_map c.make-in-Load.result
    (λ makes. made_go_on _ _ _ makes h (yielded_go_on c.args.ground.now.settings (entry_of c.args.found.entry) problem soft))
    c.make-in-Load.ensures.value

pub returns-in_ok-opened-in-Enter-clause-no_end : goal.returns-in_ok-opened-in-Enter-clause-no_end
returns-in_ok-opened-in-Enter-clause-no_end g c = λ h. c.settle.ensures.no_end c.in_ok-opened-in-Enter.ensures.soft h

pub returns-in-Yield-clause-below : goal.returns-in-Yield-clause-below
returns-in-Yield-clause-below g c = λ roots h made.
    on_ok_map c.make.result
    (λ makes. made_below roots _ _ _ makes made (yielded_below roots c.args.ground.now.settings (entry_of c.args.found.entry) None h))
    c.make.ensures.value

pub returns-in_ok-error-in-Load-clause-below : goal.returns-in_ok-error-in-Load-clause-below
returns-in_ok-error-in-Load-clause-below g c = λ roots h made.
    let problem = option_map problem_of c.in_ok-error-in-Load.error in
    on_ok_map c.make-in-Load.result
    (λ makes. made_below roots _ _ _ makes made (yielded_below roots c.args.ground.now.settings (entry_of c.args.found.entry) problem h))
    c.make-in-Load.ensures.value

pub returns-in_ok-opened-in-Enter-clause-below : goal.returns-in_ok-opened-in-Enter-clause-below
returns-in_ok-opened-in-Enter-clause-below g c = c.settle.ensures.below
