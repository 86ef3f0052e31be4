use Rattle.std.proofs.Common.{◌≢◌, ◌∷◌, ◌++◌, [], Err, Result, map, refl, subst}
use Rattle.std.proofs.lemmas.List.Elements.{All-nil, All-push}
use Rattle.std.proofs.lemmas.Result.{err_from_is_err_and}
use Rattle.std.specs.Iterator.{Yields}
use Rattle.std.specs.List.{flat_map}
use Rattle.commands.proofs.LineLemmas.{appends_nothing}
use Rattle.ignore_base.specs.Problem.{memory}
use Rattle.ignore_base.specs.declared.error.Error.{Error}
use Rattle.ignore_survey.specs.Surveyed.{item_of}
use Rattle.ignore_survey.specs.declared.surveyed.Surveyed.{Surveyed}
use Rattle.ig_commands.specs.Ignored.{IsJudged, Shown, is_found, written}
use Rattle.ig_commands.specs.Surveys.{is_wrong, seen_of, told_from}
use Rattle.ig_commands.proofs.NameLemmas.{seen_left, seen_told}
use Rattle.ig_commands.proofs.ShownLemmas.{items_more}
use Rattle.ig_commands.proofs.StopLemmas.{ends_after}
use Rattle.ig_commands.proofs.TurnLemmas.{counts_more, counts_more_by, text_more}
use Rattle.ig_commands.proofs.ignored.write_items.Goals as goal

pub loop-item-init : goal.loop-item-init
loop-item-init g c = (
  [],
  refl,
  appends_nothing (g.W.Output.contents c.args.out.now),
  appends_nothing (g.E.Write.contents c.args.err.now),
  c.begun-counts.ensures.reported,
  c.begun-counts.ensures.found,
  All-nil (λ (x : Result Surveyed Error). item_of x ≢ Err memory),
  (λ tree honest. All-nil (IsJudged tree c.args.place.now.options.now c.args.place.now.root.now)),
  refl,
)

pub loop-item-preserved : goal.loop-item-preserved
loop-item-preserved g c =
    let l = c.loop-item in
    let so = l.invariant in
    let place = c.args.place.now in
    let h = c.in_ok-write_item.ensures in
    let item = c.in-Some.item in
    let one : Shown = (seen_of item, h.writes.0) in (
      so.0 ++ one ∷ [],
      items_more so.0 l.yielded item h.writes.0 so.1,
      text_more (written place.options.now place.root.now) so.0 one _ _ _ so.2 h.writes.1,
      seen_told (λ (s : Shown). s.0) place.options.now c.args.names.now l.names so.0 one _ _ _ so.8 so.3 h.reports,
      counts_more_by (λ (s : Shown). s.0) (is_wrong place.options.now) so.0 one _ _ _ so.4 c.with-counts.ensures.reported h.counts,
      counts_more (is_found place.options.now) so.0 one _ _ _ so.5 c.with-counts.ensures.found h.writes.2,
      All-push (λ x. item_of x ≢ Err memory) l.yielded item so.6 h.enough,
      (λ tree honest. All-push (IsJudged tree place.options.now place.root.now) so.0 one (so.7 tree honest) (h.writes.3 tree honest)),
      seen_left (λ (s : Shown). s.0) c.args.names.now l.names c.write_item.new.names so.0 one so.8 h.names,
    )

-- all items are written
pub returns-clause-lists : goal.returns-clause-lists
returns-clause-lists g c =
    let l = c.loop-item in
    let so = l.invariant in (
      l.yielded,
      so.0,
      (
        c.next.new.self,
        (
          l.item-iterator,
          subst (λ t. Yields g.I.Iterator.next_gives t l.yielded l.item-iterator) c.into_iter-item-iterator.ensures.into_iter_gives l.yielded_by,
          subst (λ r. g.I.Iterator.next_gives l.item-iterator r c.next.new.self) c.in-None.is c.next.ensures.steps,
        ),
      ),
      so.1,
      so.2,
      so.3,
      so.8,
      so.4,
      so.5,
      so.6,
      so.7,
    )

-- at the item that ended it
pub returns-in_err-write_item-clause-ended : goal.returns-in_err-write_item-clause-ended
returns-in_err-write_item-clause-ended g c =
    let l = c.loop-item in
    let so = l.invariant in
    let place = c.args.place.now in
    let p = err_from_is_err_and c.from_residual.result c.from_residual.ensures.1 in
    rw (p.1, p.2) (
      l.yielded,
      so.0,
      c.in-Some.item,
      c.next.new.self,
      (
        l.item-iterator,
        subst (λ t. Yields g.I.Iterator.next_gives t l.yielded l.item-iterator) c.into_iter-item-iterator.ensures.into_iter_gives l.yielded_by,
        subst (λ r. g.I.Iterator.next_gives l.item-iterator r c.next.new.self) c.in-Some.is c.next.ensures.steps,
      ),
      so.1,
      ends_after (flat_map (written place.options.now place.root.now) so.0) (told_from place.options.now c.args.names.now (map (λ (s : Shown). s.0) so.0))
          (g.W.Output.contents c.args.out.now) (g.W.Output.contents l.out) (g.W.Output.contents c.write_item.new.out)
          (g.E.Write.contents c.args.err.now) (g.E.Write.contents l.err) (g.E.Write.contents c.write_item.new.err)
          c.in_err-write_item.field-0.0 so.2 so.3 c.in_err-write_item.ensures.ended,
      so.6,
      so.7,
    )
