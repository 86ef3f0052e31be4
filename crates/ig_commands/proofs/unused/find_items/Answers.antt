use Rattle.std.proofs.iter.Next as it
use Rattle.std.proofs.Common.{◌≡◌, ◌≢◌, ◌∙◌, [], Err, Result, map, refl, rules}
use Rattle.std.proofs.lemmas.List.Elements.{All-nil, All-push}
use Rattle.std.proofs.lemmas.Result.{err_from_is_err_and}
use Rattle.commands.proofs.LineLemmas.{appends_nothing}
use Rattle.ignore_base.specs.Problem.{memory}
use Rattle.ignore_base.specs.declared.error.Error.{Error}
use Rattle.ignore_survey.specs.Surveyed.{item_of}
use Rattle.ignore_survey.specs.declared.surveyed.Surveyed.{Surveyed}
use Rattle.ig_commands.specs.Surveys.{is_wrong, seen_of, told_from}
use Rattle.ig_commands.proofs.EndLemmas.{ends_quiet}
use Rattle.ig_commands.proofs.GrowLemmas.{grows_by, grows_none}
use Rattle.ig_commands.proofs.NameLemmas.{seen_left, seen_told}
use Rattle.ig_commands.proofs.TurnLemmas.{counts_more_by}
use Rattle.ig_commands.proofs.unused.find_items.Goals as goal

pub loop-item-init : goal.loop-item-init
loop-item-init g c = record {
  runs = it.begun c.requires.ends.0 c.requires.ends.1 (
    appends_nothing (g.E.Write.contents c.args.err.now),
    refl,
    All-nil (λ (x : Result Surveyed Error). item_of x ≢ Err memory),
    grows_none c.args.found.now.used,
    refl,
  );
  read = refl;
}

pub next-requires : goal.next-requires
next-requires g c = search (rules, c.loop-item.invariant.runs.callable)

pub loop-item-smaller : goal.loop-item-smaller
loop-item-smaller g c = it.less c.loop-item.invariant.runs c.in-Some.item c.in-Some.is c.next.ensures.goes

pub loop-item-preserved : goal.loop-item-preserved
loop-item-preserved g c =
    let l = c.loop-item in
    let runs = l.invariant.runs in
    let item = c.in-Some.item in
    let h = c.in_ok-more.ensures in
    record {
      runs = it.again runs item c.in-Some.is (c.next.ensures.steps, c.next.ensures.goes) (
        seen_told seen_of c.args.options.now c.args.names.now l.names runs.seen item _ _ _ runs.holds.4 runs.holds.0 h.reports,
        counts_more_by seen_of (is_wrong c.args.options.now) runs.seen item _ _ _ runs.holds.1 (search rules) h.wrong,
        All-push (λ x. item_of x ≢ Err memory) runs.seen item runs.holds.2 h.enough,
        grows_by runs.seen item c.args.found.now.used l.found.used c.find_by.new.found.used runs.holds.3 h.used,
        seen_left seen_of c.args.names.now l.names c.find_by.new.names runs.seen item runs.holds.4 h.names,
      );
      read = h.read ∙ l.invariant.read;
    }

pub returns-clause-found : goal.returns-clause-found
returns-clause-found g c =
    let runs = c.loop-item.invariant.runs in
    (runs.seen, it.Gave-then runs c.in_default.is c.next.ensures.steps, runs.holds.0, runs.holds.1, runs.holds.2, runs.holds.3, runs.holds.4)

-- at the item that ended it
pub returns-in_err-more-clause-ended : goal.returns-in_err-more-clause-ended
returns-in_err-more-clause-ended g c =
    let l = c.loop-item in
    let runs = l.invariant.runs in
    let p = err_from_is_err_and c.from_residual.result c.from_residual.ensures.1 in
    rw (p.1, p.2) (
      runs.seen,
      c.in-Some.item,
      c.next.new.self,
      it.Gave-then runs c.in-Some.is c.next.ensures.steps,
      ends_quiet (told_from c.args.options.now c.args.names.now (map seen_of runs.seen)) (λ bs. bs ≡ [])
          (g.E.Write.contents c.args.err.now) (g.E.Write.contents l.err) (g.E.Write.contents c.find_by.new.err)
          c.in_err-more.field-0.0 runs.holds.0 c.in_err-more.ensures.ended,
      runs.holds.2,
    )
