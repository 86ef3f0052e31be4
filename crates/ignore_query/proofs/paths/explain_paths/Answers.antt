use Rattle.std.proofs.Common.{List, rules, refl, ◌∙◌, subst}
use Rattle.std.proofs.lemmas.List.{take_all}
use Rattle.ignore_query.specs.Reached.{scene_of}
use Rattle.ignore_query.proofs.TurnLemmas.{Entry, Turns, explained, explained_to, halves, left_then, pair, turns_none, turns_then}
use Rattle.ignore_query.proofs.paths.explain_paths.Goals as goal

pub loop-question-init : goal.loop-question-init
loop-question-init g c = record { same = refl; turns = turns_none explained explained_to g.F.Files _ _ _ _ _ c.new-found.ensures.items }

pub loop-question-preserved : goal.loop-question-preserved
loop-question-preserved g c =
    let e = c.in_ok-explained.ensures in
    record {
      same = c.explain.ensures.leaves.same ∙ c.loop-question.invariant.same;
      turns = turns_then explained explained_to g.F.Files _ _ _ c.loop-question.question-index c.question-item.result _ _ c.loop-question.matcher c.explain.new.self _ _ c.in_ok-explained.explained
          c.loop-question-test.true c.question-item.is c.as_str.ensures.value c.loop-question.invariant.same c.loop-question.invariant.turns
          c.explain.ensures.leaves (λ tree loads h all none. (c.explain.ensures.from_kept tree loads h all none).0)
          (record {
            value = λ tree loads honest are h. pair (e.why tree loads honest are h) (e.value tree loads honest are h);
            reports = e.reports;
            kept = e.kept;
            from_kept = λ tree loads h k. let s = (e.from_kept tree loads h k.0 k.1).1 in (pair s.0 s.1.0, s.1.1);
            soft = e.soft;
          }) c.in_ok-push.ensures.items;
    }

-- Out of memory.

pub returns-in_err-explained : goal.returns-in_err-explained
returns-in_err-explained g c =
    let l = left_then g.F.Files _ _ _ c.loop-question.question-index c.question-item.result _ _ c.loop-question.matcher c.explain.new.self c.loop-question-test.true
    c.question-item.is c.as_str.ensures.value c.loop-question.invariant.same c.loop-question.invariant.turns.left c.explain.ensures.leaves
    (λ tree loads h all none. (c.explain.ensures.from_kept tree loads h all none).0) in
    record {
      why = search rules;
      value = search rules;
      reports = search rules;
      from_kept = λ tree loads h all. (l.known tree loads h all, search rules);
      agrees = l.agrees;
      stays = l.stays;
      loaded = l.loaded;
      each = search rules;
      soft = search rules;
      same = c.explain.ensures.leaves.same ∙ c.loop-question.invariant.same;
      out_of_memory = search rules;
    }

pub returns-in_err-push : goal.returns-in_err-push
returns-in_err-push g c =
    let l = left_then g.F.Files _ _ _ c.loop-question.question-index c.question-item.result _ _ c.loop-question.matcher c.explain.new.self c.loop-question-test.true
    c.question-item.is c.as_str.ensures.value c.loop-question.invariant.same c.loop-question.invariant.turns.left c.explain.ensures.leaves
    (λ tree loads h all none. (c.explain.ensures.from_kept tree loads h all none).0) in
    record {
      why = search rules;
      value = search rules;
      reports = search rules;
      from_kept = λ tree loads h all. (l.known tree loads h all, search rules);
      agrees = l.agrees;
      stays = l.stays;
      loaded = l.loaded;
      each = search rules;
      soft = search rules;
      same = c.explain.ensures.leaves.same ∙ c.loop-question.invariant.same;
      out_of_memory = search rules;
    }

pub returns : goal.returns
returns g c =
    let s = c.args.matcher.now in
    let T : List Entry → Type 0 = λ l. Turns explained explained_to g.F.Files c.args.files.now s.asked c.args.paths.now l s.cache c.loop-question.matcher.cache
    c.loop-question.found.items in
    let t = subst T (take_all _ _ c.loop-question-test.false) c.loop-question.invariant.turns in
    record {
      why = λ tree loads honest are h. (halves (scene_of s.asked tree loads) _ _ (t.value tree loads honest are h)).0;
      value = λ tree loads honest are h. (halves (scene_of s.asked tree loads) _ _ (t.value tree loads honest are h)).1;
      reports = t.reports;
      from_kept = λ tree loads h all.
          let k = t.from_kept tree loads h all in let b = halves (scene_of s.asked tree loads) _ _ k.1 in (t.left.known tree loads h all, (k.0, (b.0, b.1)));
      agrees = t.left.agrees;
      stays = t.left.stays;
      loaded = t.left.loaded;
      each = t.each;
      soft = t.soft;
      same = c.loop-question.invariant.same;
      out_of_memory = tt;
    }
