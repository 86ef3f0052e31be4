use Rattle.std.proofs.Common.{◌≡◌, ◌∷◌, ◌++◌, ◌∙◌, [], List, ap, drop, length, map, refl, subst, suc, sym}
use Rattle.std.proofs.lemmas.List.{map-append}
use Rattle.std.proofs.lemmas.Iterator.Adapters.{YieldsList-from_vec}
use Rattle.std.proofs.lemmas.Iterator.Consumers.{YieldsList-end, YieldsList-so_far, YieldsList-turn}
use Rattle.std.proofs.lemmas.Result.{err_from_is_err_and}
use Rattle.std.specs.Io.KnownBytes.{Appends}
use Rattle.std.specs.List.{AllZip}
use Rattle.commands.proofs.LineLemmas.{appends_nothing}
use Rattle.ignore_query.specs.declared.incremental.IncrementalIgnore.{IncrementalIgnore}
use Rattle.ignore_why.specs.Cited.{Named}
use Rattle.ig_commands.specs.Counts.{counted}
use Rattle.ig_commands.specs.Found.{FindsOf, deciding, first_at, met}
use Rattle.ig_commands.specs.Rules.{Grows}
use Rattle.ig_commands.specs.Surveys.{OfRoot, all_seen, all_told, is_wrong, told_in}
use Rattle.ig_commands.proofs.EndLemmas.{ends_root_quiet}
use Rattle.ig_commands.proofs.GrowLemmas.{grows_none, grows_read, grows_root}
use Rattle.ig_commands.proofs.SurveyLemmas.{all_yielded, seen_counts, split_at, zip_push}
use Rattle.ig_commands.proofs.TurnLemmas.{text_more}
use Rattle.ig_commands.proofs.unused.find_all.Goals as goal

pub loop-matcher-init : goal.loop-matcher-init
loop-matcher-init g c = (
  [],
  tt,
  appends_nothing (g.E.Write.contents c.args.err.now),
  refl,
  grows_none c.args.found.now.used,
  grows_none c.args.found.now.read,
)

-- one root more
pub loop-matcher-preserved : goal.loop-matcher-preserved
loop-matcher-preserved g c =
    let l = c.loop-matcher in
    let so = l.invariant in
    let h = c.in_ok-more.ensures.found in
    let r : OfRoot × List Named = h.0 in
    let all = so.0 in
    let same : met (all ++ r ∷ []) ≡ met all ++ r.0 ∷ [] = map-append (λ (x : OfRoot × List Named). x.0) all (r ∷ []) in (
      all ++ r ∷ [],
      zip_push (FindsOf g.F.Files c.args.world.now.files.now) l.yielded all c.in-Some.matcher r so.1 h.1,
      subst (λ (xs : List OfRoot). Appends (g.E.Write.contents c.args.err.now) (g.E.Write.contents c.find_below.new.err) (all_told c.args.options.now xs))
          (sym same) (text_more (λ (x : OfRoot). told_in c.args.options.now x.1) (met all) r.0 _ _ _ so.2 h.2),
      seen_counts (is_wrong c.args.options.now) (met all) r.0 _ _ _ so.3 h.3 c.saturating_add-reported.ensures ∙ ap (λ (xs : List OfRoot). counted 0 (map (is_wrong c.args.options.now) (all_seen xs))) (sym same),
      subst (λ (xs : List OfRoot). Grows (first_at (deciding (all_seen xs))) c.args.found.now.used c.find_below.new.found.used) (sym same)
          (grows_root (met all) r.0 c.args.found.now.used l.found.used c.find_below.new.found.used so.4 h.4),
      grows_read all r c.args.found.now.read l.found.read c.find_below.new.found.read so.5 h.5,
    )

-- all roots are surveyed
pub returns-clause-found : goal.returns-clause-found
returns-clause-found g c =
    let l = c.loop-matcher in
    let so = l.invariant in
    let gives = c.into_iter-matcher-iterator.ensures.into_iter_gives in
    let list = YieldsList-from_vec {s = c.into_iter-matcher-iterator.result} c.args.matchers.items gives.0 (gives.1 ∙ c.args.matchers.ok.0) in
    let all = (YieldsList-end list l.yielded l.matcher-iterator l.yielded_by _ c.next.new.self c.in-None.is c.next.ensures.steps).0 in (
      so.0,
      subst (λ (ms : List IncrementalIgnore). AllZip (FindsOf g.F.Files c.args.world.now.files.now) ms so.0)
          (all_yielded c.args.matchers.items l.yielded all) so.1,
      so.2,
      so.3,
      so.4,
      so.5,
    )

-- at the root that ended it
pub returns-in_err-more-clause-ended : goal.returns-in_err-more-clause-ended
returns-in_err-more-clause-ended g c =
    let l = c.loop-matcher in
    let so = l.invariant in
    let h = c.in_err-more.ensures.ended in
    let all = c.args.matchers.items in
    let gives = c.into_iter-matcher-iterator.ensures.into_iter_gives in
    let list = YieldsList-from_vec {s = c.into_iter-matcher-iterator.result} all gives.0 (gives.1 ∙ c.args.matchers.ok.0) in
    let turn = YieldsList-turn list l.yielded l.matcher-iterator l.yielded_by _ c.next.new.self c.in-Some.matcher c.in-Some.is c.next.ensures.steps in
    let front = YieldsList-so_far list l.yielded l.matcher-iterator l.yielded_by in
    let p = err_from_is_err_and c.from_residual.result c.from_residual.ensures.1 in
    rw (p.1, p.2) (
      so.0,
      h.0,
      l.yielded,
      drop (suc (length l.yielded)) all,
      c.in-Some.matcher,
      split_at all l.yielded c.in-Some.matcher front turn.0 turn.1,
      so.1,
      h.1,
      ends_root_quiet c.args.options.now (met so.0) h.0 (g.E.Write.contents c.args.err.now) (g.E.Write.contents l.err) (g.E.Write.contents c.find_below.new.err)
          c.in_err-more.field-0.0 so.2 h.2,
    )
