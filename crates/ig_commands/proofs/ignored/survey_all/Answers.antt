use Rattle.std.proofs.Common.{◌∙◌, ◌∷◌, ◌++◌, [], List, drop, length, suc, subst}
use Rattle.std.proofs.lemmas.List.Elements.{All-nil}
use Rattle.std.proofs.lemmas.Result.{err_from_is_err_and}
use Rattle.std.proofs.lemmas.Iterator.Adapters.{YieldsList-from_vec}
use Rattle.std.proofs.lemmas.Iterator.Consumers.{YieldsList-end, YieldsList-so_far, YieldsList-turn}
use Rattle.std.specs.Prelude.{All}
use Rattle.std.specs.List.{AllZip, flat_map}
use Rattle.commands.proofs.LineLemmas.{appends_nothing}
use Rattle.ignore_query.specs.declared.incremental.IncrementalIgnore.{IncrementalIgnore}
use Rattle.ig_commands.specs.Ignored.{IsJudged, OfShown, seen_in, written}
use Rattle.ig_commands.specs.Surveys.{IsWhole, OfMatcher}
use Rattle.ig_commands.proofs.SurveyLemmas.{all_yielded, split_at, zip_push}
use Rattle.ig_commands.proofs.EndLemmas.{ends_root}
use Rattle.ig_commands.proofs.ShownLemmas.{found_root, judged_root, told_root, wrong_root}
use Rattle.ig_commands.proofs.TurnLemmas.{text_more}
use Rattle.ig_commands.proofs.ignored.survey_all.Goals as goal

pub loop-matcher-init : goal.loop-matcher-init
loop-matcher-init g c = (
  [],
  tt,
  appends_nothing (g.W.Output.contents c.args.out.now),
  appends_nothing (g.E.Write.contents c.args.err.now),
  c.begun-counts.ensures.reported,
  c.begun-counts.ensures.found,
  λ tree honest. All-nil (λ (x : OfShown). All (IsJudged tree c.args.choice.now.options.now x.0) x.1),
)

pub loop-matcher-preserved : goal.loop-matcher-preserved
loop-matcher-preserved g c =
    let l = c.loop-matcher in
    let so = l.invariant in
    let h = c.in_ok-survey_root.ensures.lists in
    let o = c.args.choice.now.options.now in
    let r : OfShown = h.0 in (
      so.0 ++ r ∷ [],
      zip_push (λ (m : IncrementalIgnore) (x : OfShown). OfMatcher g.F.Files c.args.world.now.files.now IsWhole m (seen_in x)) l.yielded so.0 c.in-Some.matcher r so.1 h.1,
      text_more (λ (x : OfShown). flat_map (written o x.0) x.1) so.0 r _ _ _ so.2 h.2,
      told_root o so.0 r _ _ _ so.3 h.3,
      wrong_root o so.0 r _ _ _ so.4 h.4 c.and-counts.ensures.reported,
      found_root o so.0 r _ _ _ so.5 h.5 c.and-counts.ensures.found,
      λ tree honest. judged_root tree o so.0 r (so.6 tree honest) (h.6 tree honest),
    )

-- all roots are surveyed
pub returns-clause-lists : goal.returns-clause-lists
returns-clause-lists g c =
    let l = c.loop-matcher in
    let so = l.invariant in
    let gives = c.into_iter-matcher-iterator.ensures.into_iter_gives in
    let list = YieldsList-from_vec {s = c.into_iter-matcher-iterator.result} c.args.matchers.items gives.0 (gives.1 ∙ c.args.matchers.ok.0) in
    let all = (YieldsList-end list l.yielded l.matcher-iterator l.yielded_by _ c.next.new.self c.in-None.is c.next.ensures.steps).0 in (
      so.0,
      subst (λ (ms : List IncrementalIgnore). AllZip (λ (m : IncrementalIgnore) (x : OfShown). OfMatcher g.F.Files c.args.world.now.files.now IsWhole m (seen_in x)) ms so.0)
          (all_yielded c.args.matchers.items l.yielded all) so.1,
      so.2,
      so.3,
      so.4,
      so.5,
      so.6,
    )

-- at the root that ended it
pub returns-in_err-survey_root-clause-ended : goal.returns-in_err-survey_root-clause-ended
returns-in_err-survey_root-clause-ended g c =
    let l = c.loop-matcher in
    let so = l.invariant in
    let h = c.in_err-survey_root.ensures.ended in
    let r : OfShown = h.0 in
    let all = c.args.matchers.items in
    let o = c.args.choice.now.options.now in
    let gives = c.into_iter-matcher-iterator.ensures.into_iter_gives in
    let list = YieldsList-from_vec {s = c.into_iter-matcher-iterator.result} all gives.0 (gives.1 ∙ c.args.matchers.ok.0) in
    let turn = YieldsList-turn list l.yielded l.matcher-iterator l.yielded_by _ c.next.new.self c.in-Some.matcher c.in-Some.is c.next.ensures.steps in
    let front = YieldsList-so_far list l.yielded l.matcher-iterator l.yielded_by in
    let p = err_from_is_err_and c.from_residual.result c.from_residual.ensures.1 in
    rw (p.1, p.2) (
      so.0,
      r,
      l.yielded,
      drop (suc (length l.yielded)) all,
      c.in-Some.matcher,
      split_at all l.yielded c.in-Some.matcher front turn.0 turn.1,
      so.1,
      h.1,
      ends_root o (λ (x : OfShown). flat_map (written o x.0) x.1) so.0 r
          (g.W.Output.contents c.args.out.now) (g.W.Output.contents l.out) (g.W.Output.contents c.survey_root.new.out)
          (g.E.Write.contents c.args.err.now) (g.E.Write.contents l.err) (g.E.Write.contents c.survey_root.new.err)
          c.in_err-survey_root.field-0.0 so.2 so.3 h.2,
      λ tree honest. judged_root tree o so.0 r (so.6 tree honest) (h.3 tree honest),
    )
