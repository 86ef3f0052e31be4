use Rattle.std.proofs.Common.{◌≢◌, Err, map, subst}
use Rattle.std.proofs.lemmas.List.Elements.{All-nil}
use Rattle.std.proofs.lemmas.Result.{err_from_is_err_and}
use Rattle.std.specs.List.{flat_map}
use Rattle.std.specs.Iterator.{Yields}
use Rattle.ignore_base.specs.Problem.{memory}
use Rattle.ignore_walk.specs.Entry.{Item, item_of}
use Rattle.commands.proofs.ItemLemmas.{enough_more, grown}
use Rattle.commands.proofs.LineLemmas.{appends_nothing}
use Rattle.ig_commands.specs.Folders.{last_in}
use Rattle.ig_commands.specs.Reports.{first_reports, is_reported}
use Rattle.ig_commands.specs.Writing.{is_found, lines_of}
use Rattle.ig_commands.proofs.ItemLemmas.{count_more, left_more, notes_more, told_more}
use Rattle.ig_commands.proofs.StopLemmas.{ends_after}
use Rattle.ig_commands.proofs.listing.write_items.Goals as goal

pub loop-item-init : goal.loop-item-init
loop-item-init g c = record {
  lists = appends_nothing (g.W.Output.contents c.args.out.now);
  reports = appends_nothing (g.E.Write.contents c.args.err.now);
  notes = c.new-met.ensures.folders;
  names = c.new-met.ensures.names;
  reported = c.begun-counts.ensures.reported;
  found = c.begun-counts.ensures.found;
  enough = All-nil (λ (item : Item). item ≢ Err memory);
}

pub loop-item-preserved : goal.loop-item-preserved
loop-item-preserved g c =
    let l = c.loop-item in
    let h = c.in_ok-one.ensures.lists in
    record {
      lists = grown _ _ _ (lines_of c.args.options.now) l.yielded c.in-Some.item l.invariant.lists h.0;
      reports = told_more c.args.options.now l.yielded c.in-Some.item (last_in l.met.folders) l.met.names _ _ _ l.invariant.notes
          l.invariant.names l.invariant.reports h.1;
      notes = notes_more l.yielded c.in-Some.item (last_in l.met.folders) (last_in c.write_item.new.met.folders) l.invariant.notes
          c.in_ok-one.ensures.notes;
      names = left_more l.yielded c.in-Some.item (last_in l.met.folders) l.met.names c.write_item.new.met.names l.invariant.notes
          l.invariant.names c.in_ok-one.ensures.names;
      reported = count_more (is_reported c.args.options.now) l.yielded c.in-Some.item _ _ _ l.invariant.reported c.with-counts.ensures.reported h.2;
      found = count_more (is_found c.args.options.now) l.yielded c.in-Some.item _ _ _ l.invariant.found c.with-counts.ensures.found h.3;
      enough = enough_more l.yielded c.in-Some.item l.invariant.enough c.in_ok-one.ensures.enough;
    }

-- at the item that ended it
pub returns-in_err-one-clause-ended : goal.returns-in_err-one-clause-ended
returns-in_err-one-clause-ended g c =
    let l = c.loop-item in
    let p = err_from_is_err_and c.from_residual.result c.from_residual.ensures.1 in
    rw (p.1, p.2) (
      l.yielded,
      c.in-Some.item,
      c.next.new.self,
      (l.item-iterator, subst (λ t. Yields g.I.Iterator.next_gives t l.yielded l.item-iterator) c.into_iter-item-iterator.ensures.into_iter_gives l.yielded_by, subst (λ r. g.I.Iterator.next_gives l.item-iterator r c.next.new.self) c.in-Some.is c.next.ensures.steps),
      ends_after (flat_map (lines_of c.args.options.now) (map item_of l.yielded)) (first_reports c.args.options.now (map item_of l.yielded))
          (g.W.Output.contents c.args.out.now) (g.W.Output.contents l.out) (g.W.Output.contents c.write_item.new.out)
          (g.E.Write.contents c.args.err.now) (g.E.Write.contents l.err) (g.E.Write.contents c.write_item.new.err)
          c.in_err-one.field-0.0 l.invariant.lists l.invariant.reports c.in_err-one.ensures.ended,
    )
