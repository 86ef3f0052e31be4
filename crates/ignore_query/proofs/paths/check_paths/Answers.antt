use Rattle.std.proofs.Common.{List, rules, refl, ◌∙◌, subst}
use Rattle.std.proofs.lemmas.List.{take_all}
use Rattle.ignore_query.proofs.TurnLemmas.{Entry, Turns, itself, left_then, match_to, turns_none, turns_then}
use Rattle.ignore_query.proofs.paths.check_paths.Goals as goal

pub loop-path-init : goal.loop-path-init
loop-path-init g c = record { same = refl; turns = turns_none itself match_to g.F.Files _ _ _ _ _ c.new-answers.ensures.items }

pub loop-path-preserved : goal.loop-path-preserved
loop-path-preserved g c =
    let e = c.in_ok-answer.ensures in
    record {
      same = c.matched_with_errors.ensures.leaves.same ∙ c.loop-path.invariant.same;
      turns = turns_then itself match_to g.F.Files _ _ _ c.loop-path.path-index c.path-item.result _ _ c.loop-path.matcher c.matched_with_errors.new.self _ _ c.in_ok-answer.answer
          c.loop-path-test.true c.path-item.is c.as_str.ensures.value c.loop-path.invariant.same c.loop-path.invariant.turns
          c.matched_with_errors.ensures.leaves (λ tree loads h all none. (c.matched_with_errors.ensures.from_kept tree loads h all none).0)
          (record {
            value = e.value;
            reports = e.reports;
            kept = e.kept;
            from_kept = λ tree loads h k. (e.from_kept tree loads h k.0 k.1).1;
            soft = e.soft;
          }) c.in_ok-push.ensures.items;
    }

-- Out of memory.

pub returns-in_err-answer : goal.returns-in_err-answer
returns-in_err-answer g c =
    let l = left_then g.F.Files _ _ _ c.loop-path.path-index c.path-item.result _ _ c.loop-path.matcher c.matched_with_errors.new.self c.loop-path-test.true
    c.path-item.is c.as_str.ensures.value c.loop-path.invariant.same c.loop-path.invariant.turns.left c.matched_with_errors.ensures.leaves
    (λ tree loads h all none. (c.matched_with_errors.ensures.from_kept tree loads h all none).0) in
    record {
      value = search rules;
      reports = search rules;
      from_kept = λ tree loads h all. (l.known tree loads h all, search rules);
      agrees = l.agrees;
      stays = l.stays;
      loaded = l.loaded;
      each = search rules;
      soft = search rules;
      same = c.matched_with_errors.ensures.leaves.same ∙ c.loop-path.invariant.same;
      out_of_memory = search rules;
    }

pub returns-in_err-push : goal.returns-in_err-push
returns-in_err-push g c =
    let l = left_then g.F.Files _ _ _ c.loop-path.path-index c.path-item.result _ _ c.loop-path.matcher c.matched_with_errors.new.self c.loop-path-test.true
    c.path-item.is c.as_str.ensures.value c.loop-path.invariant.same c.loop-path.invariant.turns.left c.matched_with_errors.ensures.leaves
    (λ tree loads h all none. (c.matched_with_errors.ensures.from_kept tree loads h all none).0) in
    record {
      value = search rules;
      reports = search rules;
      from_kept = λ tree loads h all. (l.known tree loads h all, search rules);
      agrees = l.agrees;
      stays = l.stays;
      loaded = l.loaded;
      each = search rules;
      soft = search rules;
      same = c.matched_with_errors.ensures.leaves.same ∙ c.loop-path.invariant.same;
      out_of_memory = search rules;
    }

pub returns : goal.returns
returns g c =
    let s = c.args.matcher.now in
    let T : List Entry → Type 0 = λ l. Turns itself match_to g.F.Files c.args.files.now s.asked c.args.paths.now l s.cache c.loop-path.matcher.cache
    c.loop-path.answers.items in
    let t = subst T (take_all _ _ c.loop-path-test.false) c.loop-path.invariant.turns in
    record {
      value = t.value;
      reports = t.reports;
      from_kept = λ tree loads h all. let k = t.from_kept tree loads h all in (t.left.known tree loads h all, (k.0, k.1));
      agrees = t.left.agrees;
      stays = t.left.stays;
      loaded = t.left.loaded;
      each = t.each;
      soft = t.soft;
      same = c.loop-path.invariant.same;
      out_of_memory = tt;
    }
