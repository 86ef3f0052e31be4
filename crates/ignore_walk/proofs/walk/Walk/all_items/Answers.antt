use Rattle.std.proofs.Common.{◌≡◌, ◌+◌, ◌++◌, ◌∷◌, [], List, Result, Some, inl, inr, map, refl, subst, sym, ◌∙◌, ap, append_assoc, arith}
use Rattle.std.specs.Prelude.{All}
use Rattle.std.proofs.lemmas.List.{append-nil, map-append}
use Rattle.std.proofs.lemmas.List.Elements.{All-nil}
use Rattle.ignore_base.specs.declared.fault.Fault.TheVariants.{StepLimit}
use Rattle.ignore_base.specs.Problem.{io, memory}
use Rattle.ignore_walk.specs.Entry.{Item, item_of}
use Rattle.ignore_base.specs.declared.error.Error.{Error}
use Rattle.ignore_walk.specs.Below.{StaysBelow}
use Rattle.ignore_walk.specs.GoesOn.{AllGoOn}
use Rattle.ignore_walk.specs.Moves.{IsAfter}
use Rattle.ignore_walk.specs.Suits.{IsGroundOf}
use Rattle.ignore_walk.specs.declared.entry.DirEntry.{DirEntry}
use Rattle.ignore_walk.specs.declared.ground.Ground.{Ground}
use Rattle.ignore_walk.proofs.MoveLemmas.{after_all, after_more, after_none}
use Rattle.ignore_walk.proofs.NoEndLemmas.{more_go_on}
use Rattle.ignore_walk.proofs.PaceLemmas.{both_steps, no_step, same_steps}
use Rattle.ignore_walk.proofs.StandLemmas.{becomes_by}
use Rattle.ignore_walk.proofs.BelowLemmas.{made_below, one_below}
use Rattle.ignore_walk.proofs.walk.Walk.all_items.Goals as goal

pub returns-then-self-clause-ended : goal.returns-then-self-clause-ended
returns-then-self-clause-ended g c = λ s items n r.
    let i = c.loop-item.invariant.remaining s items n r in
    elim (c.in-Some.ensures.given s i.0 i.1 i.4) [
      | inl h ↦ absurd (let e = sym h.rest.goes_on ∙ c.if-self.true in cc (e))
      | inr (inl m, t) ↦ inl (c.error_of.ensures memory m)
      | inr (inr (l, few), t) ↦ inr (c.error_of.ensures (io StepLimit) l, omega (few, i.3, arith))
    ]

pub returns-then-self-clause-errors : goal.returns-then-self-clause-errors
returns-then-self-clause-errors g c = λ on.
    let last = c.in-Some.ensures.last (c.loop-item.invariant.goes_on on) c.if-self.true in
    elim last.1 [
      | inl m ↦ inl (c.error_of.ensures memory m)
      | inr l ↦ inr (c.error_of.ensures (io StepLimit) l.0)
    ]

-- a walk that was over gives no item
pub returns-then-self-clause-over : goal.returns-then-self-clause-over
returns-then-self-clause-over g c = λ over.
    absurd (let e = c.in-Some.ensures.over (c.loop-item.invariant.over over).0 in cc (e))

pub loop-item-init : goal.loop-item-init
loop-item-init g c = record {
  remaining = λ s items n r.
      (items, n, sym (ap (λ (l : List (Result DirEntry Error)). map item_of l ++ items) c.new-all.ensures.items), refl, r);
  exists = λ s roots starts.
      let none = sym (ap (λ (l : List (Result DirEntry Error)). map item_of l) c.new-all.ensures.items) in (
        0,
        omega arith,
        becomes_by s _ _ _ starts.whole (λ t h. subst (λ (front : List Item). IsAfter s roots front 0 t) none (after_none s roots t h)),
      );
  ground = refl;
  goes_on = λ on. on;
  over = λ over. (over, c.new-all.ensures.items);
  paced = λ on. (0, omega arith, no_step _ _ _ refl);
  no_end = λ h. (h, subst (λ (l : List (Result DirEntry Error)). AllGoOn (map item_of l)) (sym c.new-all.ensures.items) tt);
  below = λ roots h. (
    h,
    subst (λ (l : List (Result DirEntry Error)). All (StaysBelow roots) (map item_of l)) (sym c.new-all.ensures.items) (All-nil (StaysBelow roots)),
  );
}

pub loop-item-preserved : goal.loop-item-preserved
loop-item-preserved g c = record {
  exists = λ s roots starts.
      let i = c.loop-item.invariant.exists s roots starts in
      let b = i.2 in
      let all = map item_of c.loop-item.all.items in
      let own = item_of c.in-Some.item in
      let pushed : map item_of c.push.new.self.items ≡ all ++ own ∷ [] =
      ap (map item_of) c.in_ok-push.ensures.items ∙ map-append item_of c.loop-item.all.items (c.in-Some.item ∷ []) in
      let on = c.loop-item.invariant.goes_on starts.goes_on in
      let suits = subst (λ (ground : Ground _ _). IsGroundOf g.F.Files g.S.Callbacks ground s) (sym c.loop-item.invariant.ground) starts.suits in
      elim (c.in-Some.ensures.shows s b.root b.place b.seen suits on b.is) [
        | inl e ↦ absurd (let h = sym c.if-self.false ∙ e.1 in cc (h))
        | inr h ↦ (
          i.0 + h.0,
          omega (i.1, h.1, arith),
          becomes_by s _ _ _ h.3 (λ t p.
              subst (λ (front : List Item). IsAfter s roots front (i.0 + h.0) t) (sym pushed)
              (after_more s roots _ t all own i.0 h.0 b.by p)),
        )
      ];
  goes_on = λ on. c.if-self.false;
  over = λ over. absurd (let e = c.in-Some.ensures.over (c.loop-item.invariant.over over).0 in cc (e));
  ground = c.in-Some.ensures.paced.ground ∙ c.loop-item.invariant.ground;
  paced = λ on.
      let before = c.loop-item.invariant.paced on in
      let now = c.in-Some.ensures.paced.paced (c.if-self.false ∙ sym (c.loop-item.invariant.goes_on on)) in
      let steps = same_steps g.F.Files _ _ now.0 _ _ c.loop-item.invariant.ground now.2 in
      let was = before.1 in
      let are = now.1 in
      (before.0 + now.0, omega (was, are, arith), both_steps _ before.0 now.0 _ _ _ _ refl before.2 steps);
  no_end = λ h.
      let before = c.loop-item.invariant.no_end h in
      let now = c.in-Some.ensures.ends before.0 in
      let pushed : map item_of c.push.new.self.items ≡ map item_of c.loop-item.all.items ++ item_of c.in-Some.item ∷ [] =
      ap (map item_of) c.in_ok-push.ensures.items ∙ map-append item_of c.loop-item.all.items (c.in-Some.item ∷ []) in
      elim now.1 [
        | inl goes_on ↦ (now.0, subst AllGoOn (sym pushed) (more_go_on _ _ before.1 goes_on))
        | inr over ↦ absurd (let e = sym c.if-self.false ∙ over.1.0 in cc (e))
      ];
  below = λ roots h.
      let before = c.loop-item.invariant.below roots h in
      let now = c.in-Some.ensures.below roots before.0 in
      let pushed : map item_of c.push.new.self.items ≡ map item_of c.loop-item.all.items ++ item_of c.in-Some.item ∷ [] =
      ap (map item_of) c.in_ok-push.ensures.items ∙ map-append item_of c.loop-item.all.items (c.in-Some.item ∷ []) in
      (now.0, made_below roots _ _ _ pushed before.1 (one_below roots _ now.1));
  remaining = λ s items n r.
      let i = c.loop-item.invariant.remaining s items n r in
      let all = map item_of c.loop-item.all.items in
      let own = item_of c.in-Some.item in
      let pushed : map item_of c.push.new.self.items ≡ all ++ own ∷ [] =
      ap (map item_of) c.in_ok-push.ensures.items ∙ map-append item_of c.loop-item.all.items (c.in-Some.item ∷ []) in
      elim (c.in-Some.ensures.given s i.0 i.1 i.4) [
        | inl h ↦ (
          h.others,
          h.k,
          i.2 ∙ (ap (λ (o : List Item). all ++ o) h.are ∙ (sym (append_assoc all (own ∷ []) h.others)
              ∙ ap (λ (t : List Item). t ++ h.others) (sym pushed))),
          omega (i.3, h.taken, arith),
          h.rest,
        )
        | inr e ↦ absurd (let h = sym c.if-self.false ∙ e.1 in cc (h))
      ];
}

pub returns-clause-complete : goal.returns-clause-complete
returns-clause-complete g c = λ s items n r.
    let i = c.loop-item.invariant.remaining s items n r in
    let all = map item_of c.loop-item.all.items in
    let d = c.in_default.ensures.given s i.0 i.1 i.4 in
    sym (i.2 ∙ (ap (λ (o : List Item). all ++ o) d.0 ∙ append-nil all))

pub returns-clause-within : goal.returns-clause-within
returns-clause-within g c = λ s items n r.
    let i = c.loop-item.invariant.remaining s items n r in
    let d = c.in_default.ensures.given s i.0 i.1 i.4 in
    omega (i.3, d.1, arith)

pub returns-clause-exists : goal.returns-clause-exists
returns-clause-exists g c = λ s roots starts.
    let i = c.loop-item.invariant.exists s roots starts in
    let b = i.2 in
    let on = c.loop-item.invariant.goes_on starts.goes_on in
    let suits = subst (λ (ground : Ground _ _). IsGroundOf g.F.Files g.S.Callbacks ground s) (sym c.loop-item.invariant.ground) starts.suits in
    let d = c.in_default.ensures.shows s b.root b.place b.seen suits on b.is in
    (d.0 + i.0, omega (i.1, d.1, arith), after_all s roots _ _ i.0 d.0 b.by d.2)

pub returns-then-self-clause-limited : goal.returns-then-self-clause-limited
returns-then-self-clause-limited g c = λ on is.
    let before = c.loop-item.invariant.paced on in
    let goes_on = c.loop-item.invariant.goes_on on in
    elim (c.in-Some.ensures.last goes_on c.if-self.true).1 [
      | inl m ↦ absurd (let e = sym (c.error_of.ensures memory m) ∙ is in cc (e))
      | inr l ↦
          let all = c.in-Some.ensures.paced.limited goes_on c.if-self.true (ap Some l.0) in
          let steps = same_steps g.F.Files _ _ _ _ _ c.loop-item.invariant.ground all.1 in
          let sum = before.1 in
          (all.0, both_steps _ before.0 c.loop-item.self.left _ _ _ _ (omega (sum, arith)) before.2 steps)
    ]

pub returns-clause-no_end : goal.returns-clause-no_end
returns-clause-no_end g c = λ h. (c.loop-item.invariant.no_end h).1

pub returns-clause-below : goal.returns-clause-below
returns-clause-below g c = λ roots h. (c.loop-item.invariant.below roots h).1
