use Rattle.std.proofs.Common.{◌<◌, ◌+◌, ◌∷◌, [], suc, Option, inl, inr, refl, sym, ◌∙◌, ap, subst, arith, Err}
use Rattle.ignore_walk.specs.Entry.{Item, item_of}
use Rattle.ignore_walk.specs.Left.{Remains, State}
use Rattle.ignore_walk.specs.Moves.{Precedes}
use Rattle.ignore_walk.specs.Nexts.{EndsOrGoesOn, Nexts, Shows}
use Rattle.ignore_walk.specs.Stands.{state_of}
use Rattle.ignore_walk.specs.Suits.{IsGroundOf}
use Rattle.ignore_walk.specs.declared.ground.Ground.{Ground}
use Rattle.ignore_walk.proofs.MoveLemmas.{precedes_first, precedes_none, precedes_same, precedes_step}
use Rattle.ignore_walk.proofs.NoEndLemmas.{memory_no_limit, none_go_on, problem_of-Memory}
use Rattle.ignore_walk.proofs.PaceLemmas.{all_steps, from_same, no_step, not_both, one_more_step, same_step}
use Rattle.ignore_walk.proofs.StandLemmas.{becomes_by, stands_on}
use Rattle.ignore_walk.proofs.VisitLemmas.{chosen_ordered}
use Rattle.ignore_walk.specs.Below.{AnswersBelow}
use Rattle.ignore_walk.proofs.walk.Walk.advance.Goals as goal

pub returns-in-Some-clause-given : goal.returns-in-Some-clause-given
returns-in-Some-clause-given g c = λ s items n r.
    let h = c.in-Some.ensures.handed s items n r.stands in
    inl (record {
      others = h.others;
      k = n;
      are = h.are;
      rest = record { suits = r.suits; goes_on = r.goes_on; stands = h.rest };
      taken = refl;
    })

pub returns-then-self-eq0-clause-given : goal.returns-then-self-eq0-clause-given
returns-then-self-eq0-clause-given g c = λ s items n r.
    let i = c.loop-self.invariant.remaining s items n
    (record { suits = r.suits; goes_on = r.goes_on; stands = c.in_default.ensures.handed s items n r.stands }) in
    let more : 0 < i.0 = c.is_done.ensures.more c.loop-self-test.true s items i.0 i.2.stands in
    let few : c.args.self.now.left < n = omega (i.1, c.if-self-eq0.true, more, arith) in
    subst (λ (o : Option Item). Nexts g.F.Files g.S.Callbacks s c.args.self.now o c.end.new.self items n) (sym c.end.ensures.item)
    (inr (inr (ap Err c.step_limit.ensures, few), c.end.ensures.over.0))

pub returns-in-Some-take_made-clause-given : goal.returns-in-Some-take_made-clause-given
returns-in-Some-take_made-clause-given g c = λ s items n r.
    let i = c.loop-self.invariant.remaining s items n
    (record { suits = r.suits; goes_on = r.goes_on; stands = c.in_default.ensures.handed s items n r.stands }) in
    let step = stands_on s _ _ items i.0 (chosen_ordered _ _ s.order i.2.suits.order) i.2.stands
    (c.in-Ok.ensures.advanced s i.2.stands.root i.2.stands.place i.2.stands.seen i.2.suits (c.is_done.ensures.work c.loop-self-test.true)
    i.2.stands.is) in
    let h = c.in-Some-take_made.ensures.handed s items step.0 step.2 in
    inl (record {
      others = h.others;
      k = step.0;
      are = h.are;
      rest = record { suits = i.2.suits; goes_on = i.2.goes_on; stands = h.rest };
      taken = omega (i.1, step.1, c.if-self-eq0.false, arith);
    })

pub loop-self-init : goal.loop-self-init
loop-self-init g c = record {
  made = c.in_default.ensures.length.1;
  fewer = omega arith;
  ground = refl;
  ended = refl;
  no_end = λ h. h;
  below = λ roots h. h;
  paced = (0, omega arith, no_step _ _ _ refl);
  remaining = λ s items n r. (n, refl, r);
  shows = λ s root place seen suits is. (
    0,
    omega arith,
    record { root = root; place = place; seen = seen; is = is; by = precedes_none s _ },
  );
}

pub loop-self-preserved : goal.loop-self-preserved
loop-self-preserved g c = record {
  made = c.in_default-take_made.ensures.length.1;
  fewer = omega (c.loop-self.invariant.fewer, arith);
  ground = c.loop-self.invariant.ground;
  ended = c.loop-self.invariant.ended;
  no_end = λ h. (c.in_default-take_made.ensures.no_end (c.in-Ok.ensures.no_end (c.loop-self.invariant.no_end h))).0;
  below = λ roots h.
      let step = c.in-Ok.ensures.below roots (c.is_done.ensures.work c.loop-self-test.true) (c.loop-self.invariant.below roots h) in
      (c.in_default-take_made.ensures.below roots step).0;
  paced = one_more_step _ _ c.loop-self.self.left _ _ _ _ (omega (c.if-self-eq0.false, arith)) c.loop-self.invariant.paced
      (same_step g.F.Files c.args.self.now.ground c.loop-self.self.ground _ _ c.loop-self.invariant.ground
      (c.in-Ok.ensures.paced (c.is_done.ensures.work c.loop-self-test.true)))
      c.in_default-take_made.ensures.same _ (omega (c.if-self-eq0.false, arith));
  remaining = λ s items n r.
      let i = c.loop-self.invariant.remaining s items n r in
      let step = stands_on s _ _ items i.0 (chosen_ordered _ _ s.order i.2.suits.order) i.2.stands
      (c.in-Ok.ensures.advanced s i.2.stands.root i.2.stands.place i.2.stands.seen i.2.suits (c.is_done.ensures.work c.loop-self-test.true)
      i.2.stands.is) in (
        step.0,
        omega (i.1, step.1, c.if-self-eq0.false, arith),
        record {
          suits = i.2.suits;
          goes_on = i.2.goes_on;
          stands = c.in_default-take_made.ensures.handed s items step.0 step.2;
        },
      );
  shows = λ s root place seen suits is.
      let i = c.loop-self.invariant.shows s root place seen suits is in
      let b = i.2 in
      let ground = subst (λ (ground : Ground _ _). IsGroundOf g.F.Files g.S.Callbacks ground s) (sym c.loop-self.invariant.ground) suits in
      let step = c.in-Ok.ensures.advanced s b.root b.place b.seen ground (c.is_done.ensures.work c.loop-self-test.true) b.is in
      let h = c.in_default-take_made.ensures.first s step.root step.place step.seen step.is in (
        suc i.0,
        omega (i.1, c.if-self-eq0.false, arith),
        becomes_by s _ _ _ h (λ t same. precedes_same s _ _ t [] (suc i.0) (precedes_step s _ _ _ [] i.0 b.by step.by) same),
      );
}

pub returns-clause-given : goal.returns-clause-given
returns-clause-given g c = λ s items n r.
    let i = c.loop-self.invariant.remaining s items n
    (record { suits = r.suits; goes_on = r.goes_on; stands = c.in_default.ensures.handed s items n r.stands }) in
    let done = c.is_done.ensures.none c.loop-self-test.false i.2.goes_on s items i.0 c.loop-self.invariant.made i.2.stands in
    (done.0, omega (i.1, done.1, arith))

-- the steps that were taken

pub returns-in-Some-clause-paced : goal.returns-in-Some-clause-paced
returns-in-Some-clause-paced g c = record {
  ground = refl;
  paced = λ same. (0, omega arith, no_step _ _ _ c.in-Some.ensures.same);
  limited = λ on over is. absurd (not_both _ over on);
}

pub returns-then-self-eq0-clause-paced : goal.returns-then-self-eq0-clause-paced
returns-then-self-eq0-clause-paced g c =
    let on = c.is_done.ensures.goes_on c.loop-self-test.true in
    record {
      ground = c.end.ensures.ground ∙ c.loop-self.invariant.ground;
      paced = λ same. absurd (not_both _ c.end.ensures.over.0 (same ∙ (sym c.loop-self.invariant.ended ∙ on)));
      limited = λ over done is. (
        _,
        all_steps _ c.args.self.now.left c.loop-self.self.left _ _ c.if-self-eq0.true
            (from_same _ _ _ _ _ _ c.in_default.ensures.same c.loop-self.invariant.paced),
      );
    }

pub returns-in-Err-clause-paced : goal.returns-in-Err-clause-paced
returns-in-Err-clause-paced g c =
    let on = c.is_done.ensures.goes_on c.loop-self-test.true in
    record {
      ground = c.end-in-Err.ensures.ground ∙ c.loop-self.invariant.ground;
      paced = λ same. absurd (not_both _ c.end-in-Err.ensures.over.0 (same ∙ (sym c.loop-self.invariant.ended ∙ on)));
      limited = λ over done is. absurd (memory_no_limit _ c.end-in-Err.ensures.item is);
    }

pub returns-in-Some-take_made-clause-paced : goal.returns-in-Some-take_made-clause-paced
returns-in-Some-take_made-clause-paced g c =
    let step = same_step g.F.Files c.args.self.now.ground c.loop-self.self.ground _ _ c.loop-self.invariant.ground
    (c.in-Ok.ensures.paced (c.is_done.ensures.work c.loop-self-test.true)) in
    record {
      ground = c.loop-self.invariant.ground;
      paced = λ same.
          one_more_step _ c.args.self.now.left c.loop-self.self.left _ _ _ _ (omega (c.if-self-eq0.false, arith))
          (from_same _ _ _ _ _ _ c.in_default.ensures.same c.loop-self.invariant.paced) step c.in-Some-take_made.ensures.same _
          (omega (c.if-self-eq0.false, arith));
      limited = λ on over is. absurd (not_both _ over (c.loop-self.invariant.ended ∙ on));
    }

pub returns-clause-paced : goal.returns-clause-paced
returns-clause-paced g c = record {
  ground = c.loop-self.invariant.ground;
  paced = λ same. from_same _ _ _ _ _ _ c.in_default.ensures.same c.loop-self.invariant.paced;
  limited = λ on over is. absurd (cc (is));
}

-- items that end a walk

pub returns-in-Some-clause-ends : goal.returns-in-Some-clause-ends
returns-in-Some-clause-ends g c = λ h. let t = c.in-Some.ensures.no_end h in (t.0, inl t.1)

pub returns-then-self-eq0-clause-ends : goal.returns-then-self-eq0-clause-ends
returns-then-self-eq0-clause-ends g c = λ h. (
  none_go_on c.end.new.self.stack.made.items c.end.ensures.over.1,
  subst (λ (o : Option Item). EndsOrGoesOn o c.end.new.self) (sym c.end.ensures.item) (inr (inr (ap Err c.step_limit.ensures), c.end.ensures.over)),
)

pub returns-in-Err-clause-ends : goal.returns-in-Err-clause-ends
returns-in-Err-clause-ends g c = λ h. (
  none_go_on c.end-in-Err.new.self.stack.made.items c.end-in-Err.ensures.over.1,
  subst (λ (o : Option Item). EndsOrGoesOn o c.end-in-Err.new.self) (sym c.end-in-Err.ensures.item) (inr (inl (ap Err problem_of-Memory), c.end-in-Err.ensures.over)),
)

pub returns-in-Some-take_made-clause-ends : goal.returns-in-Some-take_made-clause-ends
returns-in-Some-take_made-clause-ends g c = λ h.
    let before = c.loop-self.invariant.no_end (c.in_default.ensures.no_end h).0 in
    let t = c.in-Some-take_made.ensures.no_end (c.in-Ok.ensures.no_end before) in
    (t.0, inl t.1)

pub returns-clause-ends : goal.returns-clause-ends
returns-clause-ends g c = λ h. (c.loop-self.invariant.no_end (c.in_default.ensures.no_end h).0, tt)

-- what a list is shown by

pub returns-in-Some-clause-shows : goal.returns-in-Some-clause-shows
returns-in-Some-clause-shows g c = λ s root place seen suits on is.
    let h = c.in-Some.ensures.first s root place seen is in
    inr (0, omega arith, on, becomes_by s _ _ _ h (λ t same. precedes_first s _ _ t _ 0 (precedes_none s _) same))

pub returns-then-self-eq0-clause-shows : goal.returns-then-self-eq0-clause-shows
returns-then-self-eq0-clause-shows g c = λ s root place seen suits on is.
    subst (λ (o : Option Item). Shows s (state_of c.args.self.now.stack root place seen) c.args.self.now.left o c.end.new.self) (sym c.end.ensures.item)
    (inl (inr (ap Err c.step_limit.ensures), c.end.ensures.over.0))

pub returns-in-Err-clause-shows : goal.returns-in-Err-clause-shows
returns-in-Err-clause-shows g c = λ s root place seen suits on is.
    subst (λ (o : Option Item). Shows s (state_of c.args.self.now.stack root place seen) c.args.self.now.left o c.end-in-Err.new.self)
    (sym c.end-in-Err.ensures.item) (inl (inl (ap Err problem_of-Memory), c.end-in-Err.ensures.over.0))

pub returns-in-Some-take_made-clause-shows : goal.returns-in-Some-take_made-clause-shows
returns-in-Some-take_made-clause-shows g c = λ s root place seen suits on is.
    let f = c.in_default.ensures.first s root place seen is in
    let i = c.loop-self.invariant.shows s f.root f.place f.seen suits f.is in
    let b = i.2 in
    let ground = subst (λ (ground : Ground _ _). IsGroundOf g.F.Files g.S.Callbacks ground s) (sym c.loop-self.invariant.ground) suits in
    let step = c.in-Ok.ensures.advanced s b.root b.place b.seen ground (c.is_done.ensures.work c.loop-self-test.true) b.is in
    let h = c.in-Some-take_made.ensures.first s step.root step.place step.seen step.is in
    inr (
      suc i.0,
      omega (i.1, c.if-self-eq0.false, arith),
      c.loop-self.invariant.ended ∙ on,
      becomes_by s _ _ _ h (λ t same.
          subst (λ (u : State). Precedes s u (item_of c.in-Some-take_made.item ∷ []) (suc i.0) t) (sym f.by)
          (precedes_first s _ _ t _ (suc i.0) (precedes_step s _ _ _ [] i.0 b.by step.by) same)),
    )

pub returns-clause-shows : goal.returns-clause-shows
returns-clause-shows g c = λ s root place seen suits on is.
    let f = c.in_default.ensures.first s root place seen is in
    let i = c.loop-self.invariant.shows s f.root f.place f.seen suits f.is in
    let b = i.2 in
    let end = c.is_done.ensures.nothing c.loop-self-test.false (c.loop-self.invariant.ended ∙ on) c.loop-self.invariant.made s b.root b.place b.seen in
    let sum = i.1 in
    (0 + i.0, omega (sum, arith), subst (λ (u : State). Remains s u [] (0 + i.0)) (sym f.by) (b.by [] 0 end))

-- at or below the roots

pub returns-in-Some-clause-below : goal.returns-in-Some-clause-below
returns-in-Some-clause-below g c = λ roots h. c.in-Some.ensures.below roots h

pub returns-then-self-eq0-clause-below : goal.returns-then-self-eq0-clause-below
returns-then-self-eq0-clause-below g c = λ roots h.
    (c.end.ensures.below roots, subst (AnswersBelow roots) (sym c.end.ensures.item) tt)

pub returns-in-Err-clause-below : goal.returns-in-Err-clause-below
returns-in-Err-clause-below g c = λ roots h.
    (c.end-in-Err.ensures.below roots, subst (AnswersBelow roots) (sym c.end-in-Err.ensures.item) tt)

pub returns-in-Some-take_made-clause-below : goal.returns-in-Some-take_made-clause-below
returns-in-Some-take_made-clause-below g c = λ roots h.
    let before = c.loop-self.invariant.below roots (c.in_default.ensures.below roots h).0 in
    c.in-Some-take_made.ensures.below roots (c.in-Ok.ensures.below roots (c.is_done.ensures.work c.loop-self-test.true) before)

pub returns-clause-below : goal.returns-clause-below
returns-clause-below g c = λ roots h. (c.loop-self.invariant.below roots (c.in_default.ensures.below roots h).0, tt)
