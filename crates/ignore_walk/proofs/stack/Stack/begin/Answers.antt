use Rattle.std.proofs.Common.{◌≡◌, ◌++◌, ◌∷◌, [], ℕ, List, Option, None, Ok, codes, inl, map, refl, reverse, sym, ◌∙◌, ap, subst}
use Rattle.std.specs.Prelude.{Contains}
use Rattle.std.proofs.lemmas.List.{append-nil, map-append}
use Rattle.std.proofs.lemmas.Slice.Eq.{bytes_eq-Decides}
use Rattle.ignore_base.specs.Problem.{Problem}
use Rattle.ignore_files.specs.declared.types.Listed.{Listed}
use Rattle.ignore_levels.specs.Levels.{IsChain, counting, slots_of}
use Rattle.ignore_walk.specs.Branch.{placed_above}
use Rattle.ignore_walk.specs.Entry.{Entry, Item, item_of, problem_in, stdin_entry}
use Rattle.ignore_walk.specs.Left.{State}
use Rattle.ignore_walk.specs.Moves.{Gives, Moves, begins, between}
use Rattle.ignore_walk.specs.Moves.{stdin as begins_stdin}
use Rattle.ignore_walk.specs.OnList.{place_around}
use Rattle.ignore_walk.specs.Paces.{MayEnter}
use Rattle.ignore_walk.specs.Stands.{IsAround, before_root, state_of}
use Rattle.ignore_walk.specs.declared.frame.Frame.{Frame}
use Rattle.ignore_walk.specs.Whole.{root_entry, above_root, reported_before}
use Rattle.ignore_walk.proofs.LeftLemmas.{state}
use Rattle.ignore_walk.proofs.VisitLemmas.{on_ok_map, plain_root, plain_report}
use Rattle.ignore_walk.proofs.StandLemmas.{becomes_by, stand_made, rests_none, outside}
use Rattle.ignore_walk.proofs.NoEndLemmas.{made_go_on}
use Rattle.ignore_walk.proofs.BelowLemmas.{made_below, one_below}
use Rattle.ignore_walk.proofs.stack.Stack.begin.Goals as goal

abbrev ok : Entry × Option Problem → Item
ok pair = Ok pair

pub returns-then-eq-clause-begun : goal.returns-then-eq-clause-begun
returns-then-eq-clause-begun g c = λ s last place seen suits empty kept.
    let stack = c.args.self.now in
    let root = c.args.root.now in
    let made = map item_of stack.made.items in
    let now : List Item = Ok (stdin_entry, None) ∷ [] in
    let own = c.in_ok-stdin.field-0 in
    let is : item_of (Ok own) ≡ Ok (stdin_entry, None) =
    ap (λ (e : Entry). ok (e, problem_in own)) c.in_ok-stdin.ensures.entry ∙ ap (λ (o : Option Problem). ok
    (stdin_entry, o)) c.in_ok-stdin.ensures.no_error in
    let makes : map item_of c.push_back.new.self.items ≡ made ++ now =
    ap (map item_of) c.in_ok-push_back.ensures.items ∙ (map-append item_of stack.made.items (Ok c.in_ok-stdin.field-0 ∷ [])
    ∙ ap (λ (i : Item). made ++ i ∷ []) is) in
    let first : root ≡ codes "-" = (bytes_eq-Decides root (codes "-")).0 (sym c.eq.ensures ∙ c.if-eq.true) in
    let before = before_root stack last place seen root in
    let step : Moves s before (between (made ++ now) last place seen stack.roots.items) =
    subst (λ (r : List ℕ). Moves s (between made last place seen (r ∷ stack.roots.items)) (between (made ++ now) last place seen stack.roots.items))
    (sym first) begins_stdin in
    stand_made s last place seen stack _ now (Moves s before) (record { seen = refl; roots = refl; above = refl; device = refl }) refl refl makes
    (outside s last place seen stack empty kept)
    (subst (λ (rests : List (List Listed)). Moves s before (state (made ++ now) last place rests seen stack.roots.items))
    (sym (rests_none stack empty)) step)

pub returns-then-branch-clause-begun : goal.returns-then-branch-clause-begun
returns-then-branch-clause-begun g c = λ s last place seen suits empty kept.
    let root = c.args.root.now in
    let stack = c.look_above.new.self in
    let made = map item_of c.args.self.now.made.items in
    let seen' = seen ++ above_root s root in
    let no_stdin = sym c.eq.ensures ∙ c.if-eq.false in
    let is_dir = sym c.if-branch.true ∙ c.in_ok-is_dir_found.ensures.value s.tree suits.honest in
    let found = sym is_dir in
    let empty' : stack.frames.items ≡ [] = rw c.in_ok-base.ensures.frames empty in
    let same : state_of stack root [] seen' ≡ between (made ++ reported_before s seen root) root [] seen' c.args.self.now.roots.items =
    ap (λ (rests : List (List Listed)). state (map item_of stack.made.items) root [] rests seen' stack.roots.items) (rests_none stack empty')
    ∙ (ap (λ (m : List Item). between m root [] seen' stack.roots.items) (c.in_ok-base.ensures.reported s seen suits kept found)
    ∙ ap (λ (roots : List (List ℕ)). between (made ++ reported_before s seen root) root [] seen' roots)
    (ap (λ r. r.items) c.in_ok-base.ensures.roots)) in
    let around : IsAround s root [] stack =
    subst (λ (fs : List Frame). IsChain (slots_of stack.levels) (place_around stack.above (reverse fs)) (counting (placed_above s root))) (sym empty')
    (c.in_ok-base.ensures.above s seen suits kept) in
    on_ok_map c.begin_at.result
    (λ becomes. becomes_by s c.begin_at.new.self (Gives s (state_of stack root [] seen') [] (root_entry s root))
    (Moves s (before_root c.args.self.now last place seen root)) becomes
    (λ t gives. begins no_stdin (subst (λ (u : State). Gives s u [] (root_entry s root) t) same gives)))
    (c.begin_at.ensures.begun s seen' suits empty' (c.in_ok-base.ensures.seen s seen suits kept found) is_dir
    (λ _. around) (λ _. c.in_ok-base.ensures.base s seen suits kept))

pub returns-clause-begun : goal.returns-clause-begun
returns-clause-begun g c = λ s last place seen suits empty kept.
    let root = c.args.root.now in
    let stack = c.args.self.now in
    let roots = stack.roots.items in
    let made = map item_of stack.made.items in
    let no_stdin = sym c.eq.ensures ∙ c.if-eq.false in
    let is_dir = sym c.if-branch.false ∙ c.in_ok-is_dir_found.ensures.value s.tree suits.honest in
    let found = sym is_dir in
    let seen' : seen ++ above_root s root ≡ seen = ap (λ (a : List (List ℕ)). seen ++ a) (plain_root s root found) ∙ append-nil seen in
    let made' : made ++ reported_before s seen root ≡ made =
    ap (λ (a : List Item). made ++ a) (plain_report s seen root found) ∙ append-nil made in
    let same : state_of stack root [] seen ≡ between (made ++ reported_before s seen root) root [] (seen ++ above_root s root) roots =
    ap (λ (rests : List (List Listed)). state made root [] rests seen roots) (rests_none stack empty)
    ∙ (sym (ap (λ (seen : List (List ℕ)). between made root [] seen roots) seen')
    ∙ sym (ap (λ (made : List Item). between made root [] (seen ++ above_root s root) roots) made')) in
    on_ok_map c.begin_at-2.result
    (λ becomes. becomes_by s c.begin_at-2.new.self (Gives s (state_of stack root [] seen) [] (root_entry s root))
    (Moves s (before_root stack last place seen root)) becomes
    (λ t gives. begins no_stdin (subst (λ (u : State). Gives s u [] (root_entry s root) t) same gives)))
    (c.begin_at-2.ensures.begun s seen suits empty kept is_dir (λ t. absurd (cc (t))) (λ t. absurd (cc (t))))

pub returns-then-eq-clause-enters : goal.returns-then-eq-clause-enters
returns-then-eq-clause-enters g c = λ empty. inl empty

pub returns-then-branch-clause-enters : goal.returns-then-branch-clause-enters
returns-then-branch-clause-enters g c = λ empty.
    on_ok_map c.begin_at.result
    (λ enters. subst (λ (fs : List Frame). MayEnter (g.F.Files.list_gives c.args.ground.now.files.now) c.args.root.now fs c.begin_at.new.self.frames.items)
    (ap (λ fs. fs.items) c.in_ok-base.ensures.frames ∙ empty) enters) c.begin_at.ensures.enters

pub returns-clause-enters : goal.returns-clause-enters
returns-clause-enters g c = λ empty.
    on_ok_map c.begin_at-2.result
    (λ enters. subst (λ (fs : List Frame). MayEnter (g.F.Files.list_gives c.args.ground.now.files.now) c.args.root.now fs c.begin_at-2.new.self.frames.items) empty enters) c.begin_at-2.ensures.enters

pub returns-then-eq-clause-no_end : goal.returns-then-eq-clause-no_end
returns-then-eq-clause-no_end g c = λ h.
    let made = map item_of c.args.self.now.made.items in
    let own = c.in_ok-stdin.field-0 in
    let is : item_of (Ok own) ≡ Ok (stdin_entry, None) =
    ap (λ (e : Entry). ok (e, problem_in own)) c.in_ok-stdin.ensures.entry ∙ ap (λ (o : Option Problem). ok
    (stdin_entry, o)) c.in_ok-stdin.ensures.no_error in
    let makes : map item_of c.push_back.new.self.items ≡ made ++ Ok (stdin_entry, None) ∷ [] =
    ap (map item_of) c.in_ok-push_back.ensures.items ∙ (map-append item_of c.args.self.now.made.items (Ok own ∷ [])
    ∙ ap (λ (i : Item). made ++ i ∷ []) is) in
    made_go_on made _ _ makes h (tt, tt)

pub returns-then-branch-clause-no_end : goal.returns-then-branch-clause-no_end
returns-then-branch-clause-no_end g c = λ h. c.begin_at.ensures.no_end (c.in_ok-base.ensures.no_end h)

pub returns-clause-no_end : goal.returns-clause-no_end
returns-clause-no_end g c = λ h. c.begin_at-2.ensures.no_end h

pub returns-then-eq-clause-below : goal.returns-then-eq-clause-below
returns-then-eq-clause-below g c = λ roots given h.
    let made = map item_of c.args.self.now.made.items in
    let own = c.in_ok-stdin.field-0 in
    let is : item_of (Ok own) ≡ Ok (stdin_entry, None) =
    ap (λ (e : Entry). ok (e, problem_in own)) c.in_ok-stdin.ensures.entry ∙ ap (λ (o : Option Problem). ok
    (stdin_entry, o)) c.in_ok-stdin.ensures.no_error in
    let makes : map item_of c.push_back.new.self.items ≡ made ++ Ok (stdin_entry, None) ∷ [] =
    ap (map item_of) c.in_ok-push_back.ensures.items ∙ (map-append item_of c.args.self.now.made.items (Ok own ∷ [])
    ∙ ap (λ (i : Item). made ++ i ∷ []) is) in
    let first : c.args.root.now ≡ codes "-" = (bytes_eq-Decides c.args.root.now (codes "-")).0 (sym c.eq.ensures ∙ c.if-eq.true) in
    made_below roots made _ _ makes h (one_below roots _ (inl (refl, subst (Contains roots) first given)))

pub returns-then-branch-clause-below : goal.returns-then-branch-clause-below
returns-then-branch-clause-below g c = λ roots given h. c.begin_at.ensures.below roots given (c.in_ok-base.ensures.below roots h)

pub returns-clause-below : goal.returns-clause-below
returns-clause-below g c = λ roots given h. c.begin_at-2.ensures.below roots given h
