use Rattle.std.specs.Prelude.{All, Contains}
use Rattle.std.proofs.lemmas.List.Elements.{All-head}
use Rattle.std.proofs.Common.{◌≡◌, ◌<◌, ◌∷◌, [], ℕ, List, OnOk, length, map, reverse, sym, ◌∙◌, ap, subst}
use Rattle.ignore_files.specs.declared.types.Listed.{Listed}
use Rattle.ignore_levels.specs.Levels.{slots_of}
use Rattle.ignore_walk.specs.Entry.{item_of}
use Rattle.ignore_walk.specs.Left.{State}
use Rattle.ignore_walk.specs.Moves.{Moves, between}
use Rattle.ignore_walk.specs.OnList.{AreOn}
use Rattle.ignore_walk.specs.Paces.{MayEnter, work_of}
use Rattle.ignore_walk.specs.Stands.{Becomes, state_of}
use Rattle.ignore_walk.specs.declared.frame.Frame.{Frame}
use Rattle.ignore_walk.proofs.LeftLemmas.{state}
use Rattle.ignore_walk.proofs.PaceLemmas.{begun}
use Rattle.ignore_walk.proofs.StandLemmas.{rests_none}
use Rattle.ignore_walk.proofs.VisitLemmas.{on_ok_map}
use Rattle.ignore_walk.proofs.BelowLemmas.{keeps_on_ok}
use Rattle.ignore_walk.proofs.stack.Stack.advance.Goals as goal

pub returns-in-Some-clause-advanced : goal.returns-in-Some-clause-advanced
returns-in-Some-clause-advanced g c = λ s last place seen suits work is.
    let stack = c.args.self.now in
    let made = map item_of stack.made.items in
    let others = c.pop_front.new.self.items in
    let empty : stack.frames.items ≡ [] = sym c.as_slice.ensures.value ∙ c.is_outside.ensures.yes c.if-not-is_outside.false in
    let same : state_of stack last place seen ≡ between made last place seen (c.as_str.result.now ∷ others) =
    ap (λ (rests : List (List Listed)). state made last place rests seen stack.roots.items) (rests_none stack empty)
    ∙ (ap (λ (all : List (List ℕ)). between made last place seen all) c.in-Some.ensures.items
    ∙ sym (ap (λ (root : List ℕ). between made last place seen (root ∷ others)) c.as_str.ensures)) in
    let places = subst (λ (fs : List Frame). AreOn s last stack.seen.items place (slots_of stack.levels) (reverse fs)) empty is.levels in
    subst (λ (u : State). OnOk c.begin.result (Becomes s c.begin.new.self (Moves s u))) (sym same)
    (c.begin.ensures.begun s last place seen suits empty (record { kept = is.kept; places = places }))

pub returns-in-Some-clause-paced : goal.returns-in-Some-clause-paced
returns-in-Some-clause-paced g c = λ work.
    let stack = c.args.self.now in
    let empty : stack.frames.items ≡ [] = sym c.as_slice.ensures.value ∙ c.is_outside.ensures.yes c.if-not-is_outside.false in
    let lists = g.F.Files.list_gives c.args.ground.now.files.now in
    let frames = c.begin.new.self.frames.items in
    on_ok_map c.begin.result
    (λ enters. begun lists (work_of stack) (work_of c.begin.new.self) c.in-Some.root c.pop_front.new.self.items empty c.in-Some.ensures.items
    (ap (λ r. r.items) c.begin.ensures.roots) (subst (λ (p : List ℕ). MayEnter lists p [] frames) c.as_str.ensures enters))
    (c.begin.ensures.enters empty)

pub returns-then-not-is_outside-clause-no_end : goal.returns-then-not-is_outside-clause-no_end
returns-then-not-is_outside-clause-no_end g c = c.step.ensures.no_end

pub returns-in-None-clause-no_end : goal.returns-in-None-clause-no_end
returns-in-None-clause-no_end g c = λ h. h

pub returns-in-Some-clause-no_end : goal.returns-in-Some-clause-no_end
returns-in-Some-clause-no_end g c = λ h. c.begin.ensures.no_end h

pub returns-then-not-is_outside-clause-below : goal.returns-then-not-is_outside-clause-below
returns-then-not-is_outside-clause-below g c = λ roots work h.
    let some : 0 < length c.args.self.now.frames.items =
    subst (λ (fs : List Frame). 0 < length fs) c.as_slice.ensures.value (c.is_outside.ensures.no c.if-not-is_outside.true) in
    keeps_on_ok c.step.result roots (g.F.Files.list_gives c.args.ground.now.files.now) c.args.self.now c.step.new.self h.work
    (c.step.ensures.paced some) (c.step.ensures.below roots some h)

pub returns-in-None-clause-below : goal.returns-in-None-clause-below
returns-in-None-clause-below g c = λ roots work h.
    let waiting = subst (All (Contains roots)) c.in-None.ensures.items h.work.waiting in
    record { work = record { waiting = waiting; entered = h.work.entered }; made = h.made }

pub returns-in-Some-clause-below : goal.returns-in-Some-clause-below
returns-in-Some-clause-below g c = λ roots work h.
    let stack = c.args.self.now in
    let others = c.pop_front.new.self.items in
    let empty : stack.frames.items ≡ [] = sym c.as_slice.ensures.value ∙ c.is_outside.ensures.yes c.if-not-is_outside.false in
    let given : Contains roots c.as_str.result.now =
    subst (Contains roots) (sym c.as_str.ensures)
    (All-head (Contains roots) c.in-Some.root others (subst (All (Contains roots)) c.in-Some.ensures.items h.work.waiting)) in
    keeps_on_ok c.begin.result roots (g.F.Files.list_gives c.args.ground.now.files.now) stack c.begin.new.self h.work
    (returns-in-Some-clause-paced g c work) (c.begin.ensures.below roots given h.made)
