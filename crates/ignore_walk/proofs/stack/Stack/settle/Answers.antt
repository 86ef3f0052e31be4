use Rattle.std.proofs.Common.{◌≡◌, ◌++◌, ℕ, List, Option, option_map, length, map, refl, reverse, subst, sym, ◌∙◌, ap, append_assoc, None, false}
use Rattle.ignore_dir.specs.Lists.{Placed}
use Rattle.ignore_files.specs.declared.types.Listed.{Listed}
use Rattle.ignore_levels.specs.declared.list.Place.{Place}
use Rattle.ignore_levels.specs.Levels.{IsChain, counting, slots_of}
use Rattle.ignore_walk.specs.Branch.{placed_around, text_at}
use Rattle.ignore_walk.specs.Frames.{IsFrame}
use Rattle.ignore_walk.specs.OnList.{place_around}
use Rattle.ignore_walk.specs.declared.frame.Frame.{Frame}
use Rattle.ignore_walk.specs.Entry.{Item, entry_of, item_of, Entry}
use Rattle.ignore_base.specs.Problem.{Problem, problem_of}
use Rattle.ignore_dir.specs.declared.settings.Settings.{Settings}
use Rattle.std.specs.Result.{result_err}
use Rattle.ignore_walk.specs.Walked.{IsArranged, listing_of, yielded, loaded, unlisted}
use Rattle.ignore_walk.proofs.ListLemmas.{on-entered}
use Rattle.ignore_walk.proofs.RiseLemmas.{below-around, counted-is}
use Rattle.ignore_walk.proofs.StandLemmas.{stand_entered}
use Rattle.ignore_walk.proofs.NoEndLemmas.{answer_by, answer_by-fault, made_go_on, unlisted_go_on, yielded_go_on}
use Rattle.ignore_walk.proofs.BelowLemmas.{made_below, unlisted_below, yielded_below}
use Rattle.ignore_walk.proofs.stack.Stack.settle.Goals as goal

pub returns-clause-entered : goal.returns-clause-entered
returns-clause-entered c = λ s root place b seen settings is at around path opens enters next.
    let e = entry_of c.args.entry in
    let self = c.args.self.now in
    let found = c.args.opened.directory in
    let made = map item_of self.made.items in
    let problem = option_map problem_of c.args.opened.error in
    let lists = s.tree.list e.path in
    let yields : map item_of c.make.new.made.items ≡ made ++ loaded s e = c.in_ok-make.ensures.value
    ∙ (ap (λ (t : Settings). made ++ yielded t e problem) (sym settings)
    ∙ ap (λ (p : Option Problem). made ++ yielded s.settings e p) (opens.problem ∙ ap (λ (p : List ℕ). (s.loads p).1) (sym path))) in
    let faults : map item_of c.make_fault.new.made.items ≡ map item_of c.make.new.made.items ++ unlisted e lists =
    c.in_ok-make_fault.ensures.value e lists (path ∙ (sym opens.at ∙ sym c.as_str-path.ensures)) (sym c.depth-depth.ensures)
    (opens.fault ∙ ap (λ (p : List ℕ). result_err (s.tree.list p)) (sym path)) in
    let entered = c.in_ok-entered.ensures in
    let frame = c.in_ok-entered.entered in
    let is_frame : IsFrame s root b frame = record { path = entered.path ∙ opens.at; text = entered.text ∙ opens.seen_as } in
    let nearest : c.place_around-around.result ≡ place_around self.above (reverse self.frames.items) =
    c.place_around-around.ensures ∙ ap (λ (fs : List Frame). place_around self.above (reverse fs)) c.as_slice.ensures.value in
    let size : length found.text ≡ length (text_at s root b) = ap (λ (t : List ℕ). length t) opens.seen_as in
    let chain = entered.chain (counting (placed_around s root b))
    (subst (λ (p : Option Place). IsChain (slots_of self.levels) p (counting (placed_around s root b))) (sym nearest) around)
    (below-around s root b (length found.text) size) in
    let chain' = subst (λ (l : List Placed). IsChain (slots_of c.frame_of.new.levels) frame.place l)
    (counted-is s root b found.dir (length found.text) opens.dir size) chain in
    let on = on-entered s root self.seen.items place b frame (reverse self.frames.items) (slots_of self.levels) (slots_of c.frame_of.new.levels)
    entered.len next chain' entered.kept is.levels in
    let arranged = subst (λ (xs : List Listed). IsArranged s.order e.path (listing_of lists) xs) (sym entered.rest)
    (subst (λ (p : List ℕ). IsArranged s.order p (listing_of (s.tree.list p)) found.rest.items) (sym path) opens.rest) in
    stand_entered s root place b seen self _ e frame
    (record { seen = refl; roots = refl; above = refl; device = refl }) c.in_ok-push.ensures.items
    (faults ∙ (ap (λ (t : List Item). t ++ unlisted e lists) yields ∙ append_assoc made (loaded s e) (unlisted e lists)))
    is at is_frame on arranged enters next

pub returns-clause-enters : goal.returns-clause-enters
returns-clause-enters c =
    (c.in_ok-entered.entered, c.in_ok-entered.ensures.path, c.in_ok-entered.ensures.rest, c.in_ok-push.ensures.items)

pub returns-clause-no_end : goal.returns-clause-no_end
returns-clause-no_end c = λ soft h.
    let e : Entry = record { path = c.as_str-path.result.now; depth = c.depth-depth.result; kind = None; followed = false } in
    let lists = answer_by c.args.opened.fault in
    made_go_on _ _ _ (c.in_ok-make_fault.ensures.value e lists refl refl (answer_by-fault c.args.opened.fault))
    (made_go_on _ _ _ c.in_ok-make.ensures.value h
    (yielded_go_on c.args.settings.now (entry_of c.args.entry) (option_map problem_of c.args.opened.error) soft)) (unlisted_go_on e lists)

pub returns-clause-below : goal.returns-clause-below
returns-clause-below c = λ roots h made.
    let e : Entry = record { path = c.as_str-path.result.now; depth = c.depth-depth.result; kind = None; followed = false } in
    let lists = answer_by c.args.opened.fault in
    made_below roots _ _ _ (c.in_ok-make_fault.ensures.value e lists refl refl (answer_by-fault c.args.opened.fault))
    (made_below roots _ _ _ c.in_ok-make.ensures.value made
    (yielded_below roots c.args.settings.now (entry_of c.args.entry) (option_map problem_of c.args.opened.error) h)) (unlisted_below roots e lists)
