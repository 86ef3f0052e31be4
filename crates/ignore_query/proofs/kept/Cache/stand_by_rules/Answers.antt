use Rattle.std.proofs.Common.{◌≡◌, ◌<◌, ◌≤◌, ◌++◌, ◌∷◌, All, Option, Some, IfSome, List, length, map, rules, arith, sym, ap, ◌∙◌, subst}
use Rattle.std.proofs.lemmas.List.{append-nil}
use Rattle.std.specs.BTreeMap.{get_by_text}
use Rattle.std.specs.List.{filter_map}
use Rattle.std.specs.Option.{option_copied, option_to_list}
use Rattle.ignore_base.proofs.CleanLemmas.{names-components}
use Rattle.ignore_base.specs.Paths.{IsName, components}
use Rattle.ignore_base.specs.Problem.{Problem, problem_of}
use Rattle.ignore_query.specs.declared.kept.Kept.TheVariants.{Ignored, Loaded}
use Rattle.ignore_query.specs.Listed.{kept_at}
use Rattle.ignore_query.specs.Needs.{is_known}
use Rattle.ignore_query.specs.Reached.{scene_of}
use Rattle.ignore_query.specs.Reports.{new_below}
use Rattle.ignore_query.specs.Stands.{IsPlaced}
use Rattle.ignore_query.proofs.BeginLemmas.{visited_front}
use Rattle.ignore_query.proofs.ChainLemmas.{front_names}
use Rattle.ignore_query.proofs.KnownLemmas.{keeps_known, known_above, last_of, none_above, none_below, parent_known}
use Rattle.ignore_query.proofs.StandLemmas.{Visits, ends_last, ends_shut, grows_then, next_none, visited_next, way_front_names, way_known, way_needed, way_next, way_problems}
use Rattle.ignore_query.proofs.kept.Cache.stand_by_rules.Goals as goal

pub way-init : goal.way-init
way-init g c =
    let call = c.args.call.now in
    let mid = c.keep_above.new.self in
    let clean = names-components call.path.now c.requires.named in
    let b = c.begin-top.ensures clean in
    let next = b.next c.in_ok-keep_above.ensures.kept in
    record {
      text = search rules;
      on = record {
        front = b.front;
        name = b.name;
        rest = b.rest;
        split = b.split;
        key = b.key;
        next = next;
        visited = visited_front g.F.Files call c.args.self.now mid (map problem_of c.args.errors.now.items)
            (map problem_of c.keep_above.new.errors.items) b.front _ (front_names b.front (b.name ∷ b.rest) (subst (All IsName) b.split clean)) next
            c.keep_above.ensures.same c.keep_above.ensures.grows
            (λ tree loads honest are. c.in_ok-keep_above.ensures.problems tree loads honest are)
            (λ has. let k = c.keep_above.ensures.known has in (k.0, ap (λ v. map problem_of v.items) k.1)) c.in_ok-keep_above.ensures.soft;
      };
    }

pub keep-requires : goal.keep-requires
keep-requires g c =
    let w = c.way.invariant.on in
    let clean = names-components c.args.call.now.path.now c.requires.named in
    record {
      next = record {
        names = w.front;
        clean = way_front_names g.F.Files c.args.call.now c.args.self.now c.way.self _ _ c.way.place _ clean w;
        key = w.key;
        next = w.next;
      };
    }

-- By what is kept of the directory in which it is.

pub returns-in-Some-clause-placed : goal.returns-in-Some-clause-placed
returns-in-Some-clause-placed g c =
    let end = last_of c.args.call.now.path.now in
    let at = c.parent_key-parent.ensures end.0 end.1.0 end.1.1 in
    let found : kept_at c.args.self.now end.0 ≡ Some c.in-Some.kept.now =
    ap (λ t. get_by_text c.args.self.now.dirs.map t) (sym at) ∙ sym c.in-Some.ensures.value in
    subst (λ l. IsPlaced c.args.self.now l c.stand_in.result) (sym end.1.1) (c.stand_in.ensures c.args.self.now end.0 end.1.0 found at)

pub returns-in-Some-clause-kept : goal.returns-in-Some-clause-kept
returns-in-Some-clause-kept g c = λ tree loads honest are there agrees.
    let scene = scene_of c.args.call.now.asked.now tree loads in
    let path = c.args.call.now.path.now in
    let end = last_of path in
    let clean = subst (All IsName) end.1.1 (names-components path c.requires.named) in
    let found : kept_at c.args.self.now end.0 ≡ Some c.in-Some.kept.now =
    ap (λ t. get_by_text c.args.self.now.dirs.map t) (sym (c.parent_key-parent.ensures end.0 end.1.0 end.1.1)) ∙ sym c.in-Some.ensures.value in
    let all = ap (is_known scene c.args.self.now) end.1.1
    ∙ parent_known scene c.args.self.now end.0 end.1.0 c.in-Some.kept.now agrees clean found in
    keeps_known scene c.args.self.now (components path) (known_above scene c.args.self.now path agrees all) all

pub returns-in-Some-clause-problems : goal.returns-in-Some-clause-problems
returns-in-Some-clause-problems g c = λ tree loads honest are there agrees.
    let scene = scene_of c.args.call.now.asked.now tree loads in
    let path = c.args.call.now.path.now in
    let names = components path in
    let old = map problem_of c.args.errors.now.items in
    let end = last_of path in
    let clean = subst (All IsName) end.1.1 (names-components path c.requires.named) in
    let found : kept_at c.args.self.now end.0 ≡ Some c.in-Some.kept.now =
    ap (λ t. get_by_text c.args.self.now.dirs.map t) (sym (c.parent_key-parent.ensures end.0 end.1.0 end.1.1)) ∙ sym c.in-Some.ensures.value in
    let all = ap (is_known scene c.args.self.now) end.1.1
    ∙ parent_known scene c.args.self.now end.0 end.1.0 c.in-Some.kept.now agrees clean found in
    let above = none_above scene c.args.self.now (known_above scene c.args.self.now path agrees all) in
    sym (ap (λ o. old ++ (option_to_list o ++ filter_map (λ p. p) (new_below scene c.args.self.now names))) above
    ∙ (ap (λ (l : List (Option Problem)). old ++ filter_map (λ p. p) l) (none_below scene c.args.self.now names all) ∙ append-nil old))

-- Out of memory.

pub returns-in_err-keep_above-clause-from_kept : goal.returns-in_err-keep_above-clause-from_kept
returns-in_err-keep_above-clause-from_kept g c = λ tree loads agrees all.
    let k = c.keep_above.ensures.known (known_above (scene_of c.args.call.now.asked.now tree loads) c.args.self.now c.args.call.now.path.now agrees all) in
    (k.0, ap (λ v. map problem_of v.items) k.1)

pub returns-in_err-keep-clause-grows : goal.returns-in_err-keep-clause-grows
returns-in_err-keep-clause-grows g c =
    grows_then g.F.Files c.args.call.now.files.now c.args.call.now.asked.now c.args.self.now c.way.self c.keep.new.self
    c.way.invariant.on.visited.grows c.keep.ensures.grows

pub returns-in_err-keep-clause-from_kept : goal.returns-in_err-keep-clause-from_kept
returns-in_err-keep-clause-from_kept g c = λ tree loads agrees all.
    let k = way_known g.F.Files c.args.call.now c.args.self.now c.way.self _ _ c.way.place _
    (names-components c.args.call.now.path.now c.requires.named) c.way.invariant.on tree loads agrees all in
    let e = c.keep.ensures.known k.1.1 in
    (e.0 ∙ k.0, ap (λ v. map problem_of v.items) e.1 ∙ k.1.0)

-- The ends of the way.

pub returns-in-Ignored : goal.returns-in-Ignored
returns-in-Ignored g c =
    let call = c.args.call.now in
    let old = c.args.self.now in
    let new = c.keep.new.self in
    let clean = names-components call.path.now c.requires.named in
    let w = c.way.invariant.on in
    let s : Visits g.F.Files call c.way.self new (map problem_of c.way.errors.items) (map problem_of c.keep.new.errors.items)
    c.way.place c.way.key.now Ignored = record {
      grows = c.keep.ensures.grows;
      kept = c.in_ok-keep.ensures.kept;
      found = c.in_ok-keep.ensures.found ∙ ap Some c.in-Ignored.is;
      problems = c.in_ok-keep.ensures.problems;
      known = λ some. let e = c.keep.ensures.known some in (e.0, ap (λ v. map problem_of v.items) e.1);
      soft = c.in_ok-keep.ensures.soft;
    } in
    let here : kept_at new w.front ≡ Some Ignored = ap (λ t. get_by_text new.dirs.map t) (sym w.key) ∙ s.found in
    let v = visited_next g.F.Files call old c.way.self new _ _ _ c.way.place _ Ignored clean w s in
    let end = ends_shut new w.front w.rest (way_front_names g.F.Files call old c.way.self _ _ c.way.place _ clean w) here in
    record {
      placed = record { front = w.front; name = w.name; rest = w.rest; split = w.split; key = w.key; kept = here };
      grows = v.grows;
      kept = way_needed g.F.Files call old c.way.self new _ _ _ c.way.place _ Ignored clean w s end;
      problems = way_problems g.F.Files call old c.way.self new _ _ _ c.way.place _ Ignored clean w s end;
      from_kept = v.known;
      soft = v.soft;
    }

pub returns-in-None : goal.returns-in-None
returns-in-None g c =
    let call = c.args.call.now in
    let old = c.args.self.now in
    let new = c.keep.new.self in
    let found = c.in-Loaded.found in
    let clean = names-components call.path.now c.requires.named in
    let w = c.way.invariant.on in
    let s : Visits g.F.Files call c.way.self new (map problem_of c.way.errors.items) (map problem_of c.keep.new.errors.items)
    c.way.place c.way.key.now (Loaded found) = record {
      grows = c.keep.ensures.grows;
      kept = c.in_ok-keep.ensures.kept;
      found = c.in_ok-keep.ensures.found ∙ ap Some c.in-Loaded.is;
      problems = c.in_ok-keep.ensures.problems;
      known = λ some. let e = c.keep.ensures.known some in (e.0, ap (λ v. map problem_of v.items) e.1);
      soft = c.in_ok-keep.ensures.soft;
    } in
    let here : kept_at new w.front ≡ Some (Loaded found) = ap (λ t. get_by_text new.dirs.map t) (sym w.key) ∙ s.found in
    let none' = next_none w.front w.rest w.name (sym (c.next_key.ensures.value w.front w.name w.rest clean w.split w.key) ∙ ap option_copied c.in-None.is) in
    let v = visited_next g.F.Files call old c.way.self new _ _ _ c.way.place _ (Loaded found) clean w s in
    let end = ends_last new w.front w.rest found (way_front_names g.F.Files call old c.way.self _ _ c.way.place _ clean w) here none' in
    record {
      placed = record { front = w.front; name = w.name; split = w.split ∙ ap (λ l. w.front ++ w.name ∷ l) none'; kept = here };
      grows = v.grows;
      kept = way_needed g.F.Files call old c.way.self new _ _ _ c.way.place _ (Loaded found) clean w s end;
      problems = way_problems g.F.Files call old c.way.self new _ _ _ c.way.place _ (Loaded found) clean w s end;
      from_kept = v.known;
      soft = v.soft;
    }

pub way-preserved : goal.way-preserved
way-preserved g c =
    let call = c.args.call.now in
    let new = c.keep.new.self in
    let found = c.in-Loaded.found in
    let clean = names-components call.path.now c.requires.named in
    let w = c.way.invariant.on in
    let s : Visits g.F.Files call c.way.self new (map problem_of c.way.errors.items) (map problem_of c.keep.new.errors.items)
    c.way.place c.way.key.now (Loaded found) = record {
      grows = c.keep.ensures.grows;
      kept = c.in_ok-keep.ensures.kept;
      found = c.in_ok-keep.ensures.found ∙ ap Some c.in-Loaded.is;
      problems = c.in_ok-keep.ensures.problems;
      known = λ some. let e = c.keep.ensures.known some in (e.0, ap (λ v. map problem_of v.items) e.1);
      soft = c.in_ok-keep.ensures.soft;
    } in
    record {
      text = search rules;
      on = way_next g.F.Files call c.args.self.now c.way.self new _ _ _ c.way.place _ c.in-Some-next_key.next.now found clean w s
          (sym (c.next_key.ensures.value w.front w.name w.rest clean w.split w.key) ∙ ap option_copied c.in-Some-next_key.is);
    }

pub way-smaller : goal.way-smaller
way-smaller g c =
    let l = subst (λ r. IfSome r (λ n. (length c.way.key.now < length n.now) × (length n.now ≤ length c.args.call.now.path.now))) c.in-Some-next_key.is
    c.next_key.ensures.longer in
    omega (arith, l.0, l.1)
