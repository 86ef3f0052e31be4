use Rattle.std.proofs.Common.{◌≢◌, Err, map, refl, subst}
use Rattle.std.proofs.lemmas.List.Elements.{All-nil}
use Rattle.std.proofs.lemmas.Result.{err_from_is_err_and}
use Rattle.std.specs.Iterator.{Yields}
use Rattle.ignore_base.specs.Problem.{memory}
use Rattle.ignore_walk.specs.Entry.{Item, item_of}
use Rattle.commands.specs.Listing.{lines_of, reports_of}
use Rattle.commands.proofs.ItemLemmas.{enough_more, grown, reported_more}
use Rattle.commands.proofs.LineLemmas.{appends_nothing}
use Rattle.commands.proofs.StopLemmas.{ends_after}
use Rattle.commands.proofs.listing.write_items.Goals as goal

pub loop-item-init : goal.loop-item-init
loop-item-init g c = record {
  lists = appends_nothing (g.W.Output.contents c.args.out.now);
  reports = appends_nothing (g.E.Write.contents c.args.err.now);
  reported = refl;
  enough = All-nil (λ (item : Item). item ≢ Err memory);
}

pub loop-item-preserved : goal.loop-item-preserved
loop-item-preserved g c =
    let l = c.loop-item in
    let h = c.in_ok-any.ensures.lists in
    record {
      lists = grown _ _ _ lines_of l.yielded c.in-Some.item l.invariant.lists h.0;
      reports = grown _ _ _ reports_of l.yielded c.in-Some.item l.invariant.reports h.1;
      reported = reported_more l.yielded c.in-Some.item _ _ l.invariant.reported h.2;
      enough = enough_more l.yielded c.in-Some.item l.invariant.enough c.in_ok-any.ensures.enough;
    }

-- at the item that ended it
pub returns-in_err-any-clause-ended : goal.returns-in_err-any-clause-ended
returns-in_err-any-clause-ended g c =
    let l = c.loop-item in
    let p = err_from_is_err_and c.from_residual.result c.from_residual.ensures.1 in
    rw (p.1, p.2) (
      l.yielded,
      c.in-Some.item,
      c.next.new.self,
      (l.item-iterator, subst (λ t. Yields g.I.Iterator.next_gives t l.yielded l.item-iterator) c.into_iter-item-iterator.ensures.into_iter_gives l.yielded_by, subst (λ r. g.I.Iterator.next_gives l.item-iterator r c.next.new.self) c.in-Some.is c.next.ensures.steps),
      c.in_err-any.ensures.ended.0,
      c.in_err-any.ensures.ended.1,
      ends_after lines_of reports_of (map item_of l.yielded) c.in_err-any.ensures.ended.0
          (g.W.Output.contents c.args.out.now) (g.W.Output.contents l.out) (g.W.Output.contents c.write_item.new.out)
          (g.E.Write.contents c.args.err.now) (g.E.Write.contents l.err) (g.E.Write.contents c.write_item.new.err)
          c.in_err-any.field-0.0 l.invariant.lists l.invariant.reports c.in_err-any.ensures.ended.2,
    )
