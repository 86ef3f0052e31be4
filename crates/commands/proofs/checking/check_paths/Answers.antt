use Rattle.std.proofs.Common.{◌≡◌, ◌∙◌, ℕ, ◌||◌, ◌∷◌, ◌++◌, [], IfSome, List, ap, cond, map, refl, string_bytes, subst, sym}
use Rattle.std.proofs.lemmas.List.{take_all}
use Rattle.std.proofs.lemmas.List.Elements.{All-nil, All-push}
use Rattle.std.proofs.lemmas.Option.{IfSome_then}
use Rattle.std.proofs.lemmas.Result.{err_from_is_err_and}
use Rattle.std.specs.Io.KnownBytes.{Appends}
use Rattle.ignore_dir.specs.Load.{AreLoads, Loaded}
use Rattle.ignore_files.specs.Gives.{IsHonest}
use Rattle.ignore_files.specs.Tree.{Tree}
use Rattle.ignore_query.specs.Agrees.{Agrees}
use Rattle.ignore_query.specs.Reached.{scene_of}
use Rattle.ignore_query.specs.declared.asked.Asked.{Asked}
use Rattle.commands.specs.Checking.{Checked, Checks, IsAnswer, IsReport, line_for, report_for}
use Rattle.commands.proofs.CheckLemmas.{answers_with, checks_more, checks_none, first_of, last_of, map-take-push, reports_more}
use Rattle.commands.proofs.StopLemmas.{ends_after}
use Rattle.commands.proofs.checking.check_paths.Goals as goal

pub loop-path-init : goal.loop-path-init
loop-path-init g c = record {
  checks = (
    [],
    checks_none (g.W.Output.contents c.args.out.now) (g.E.Write.contents c.args.err.now),
    λ tree loads honest are agrees. (All-nil (IsAnswer (scene_of c.args.matcher.now.asked tree loads)), (refl, refl)),
  );
  agrees = λ tree loads honest are agrees. agrees;
  same = refl;
}

-- the matcher asks about the same as at first
pub loop-path-preserved : goal.loop-path-preserved
loop-path-preserved g c =
    let l = c.loop-path in
    let asked = c.args.matcher.now.asked in
    let so = l.invariant.checks in
    let h = c.in_ok-any.ensures.checks in
    let one : Checked = h.0 in
    let path = string_bytes c.path-item.result in
    let named : one.path ≡ path = h.1 ∙ c.as_str.ensures.value in
    let right = subst
    (λ (a : Asked). (tree : Tree) (loads : List ℕ → Loaded) → IsHonest g.F.Files c.args.world.now.files.now tree → AreLoads tree a.settings loads
    → Agrees (scene_of a tree loads) l.matcher.cache → IsAnswer (scene_of a tree loads) one
    × IsReport (scene_of a tree loads) l.matcher.cache c.check_path.new.matcher.cache one.path one.problem) l.invariant.same h.5 in
    let keeps = subst
    (λ (a : Asked). (tree : Tree) (loads : List ℕ → Loaded) → IsHonest g.F.Files c.args.world.now.files.now tree → AreLoads tree a.settings loads
    → Agrees (scene_of a tree loads) l.matcher.cache → Agrees (scene_of a tree loads) c.check_path.new.matcher.cache) l.invariant.same
    c.in_ok-any.ensures.agrees in
    record {
      checks = (
        so.0 ++ one ∷ [],
        subst (λ (ps : List (List ℕ)). Checks ps (so.0 ++ one ∷ []) (cond (l.any || c.in_ok-any.field-0) 1 0)
            (Appends (g.W.Output.contents c.args.out.now) (g.W.Output.contents c.check_path.new.out))
            (Appends (g.E.Write.contents c.args.err.now) (g.E.Write.contents c.check_path.new.err)))
            (sym (map-take-push string_bytes c.args.paths.now l.path-index c.path-item.result c.loop-path-test.true c.path-item.is))
            (checks_more _ path so.0 one l.any c.in_ok-any.field-0 _ _ _ _ _ _ so.1 named h.2 h.3 h.4),
        λ tree loads honest are agrees.
            let g = scene_of asked tree loads in
            let before = so.2 tree loads honest are agrees in
            let next = right tree loads honest are (l.invariant.agrees tree loads honest are agrees) in (
              All-push (IsAnswer g) so.0 one before.0 next.0,
              reports_more g so.0 one c.args.matcher.now.cache l.matcher.cache c.check_path.new.matcher.cache before.1 next.1,
            ),
      );
      agrees = λ tree loads honest are agrees. keeps tree loads honest are (l.invariant.agrees tree loads honest are agrees);
      same = c.in_ok-any.ensures.same ∙ l.invariant.same;
    }

pub returns-clause-checks : goal.returns-clause-checks
returns-clause-checks g c =
    let so = c.loop-path.invariant.checks in (
      so.0,
      subst (λ (ps : List (List ℕ)). Checks ps so.0 (cond c.loop-path.any 1 0)
          (Appends (g.W.Output.contents c.args.out.now) (g.W.Output.contents c.loop-path.out))
          (Appends (g.E.Write.contents c.args.err.now) (g.E.Write.contents c.loop-path.err)))
          (ap (map string_bytes) (take_all c.loop-path.path-index c.args.paths.now c.loop-path-test.false)) so.1,
      so.2,
    )

-- the paths before the one that ended it are answered, and that one, unless out of memory
pub returns-in_err-any-clause-ended : goal.returns-in_err-any-clause-ended
returns-in_err-any-clause-ended g c =
    let l = c.loop-path in
    let asked = c.args.matcher.now.asked in
    let so = l.invariant.checks in
    let h = c.in_err-any.ensures.ended in
    let path = string_bytes c.path-item.result in
    let named = IfSome_then h.0 h.2 (λ one k. k.0 ∙ c.as_str.ensures.value) in
    let right = subst
    (λ (a : Asked). IfSome h.0 (λ one. (tree : Tree) (loads : List ℕ → Loaded) → IsHonest g.F.Files c.args.world.now.files.now tree
    → AreLoads tree a.settings loads → Agrees (scene_of a tree loads) l.matcher.cache → IsAnswer (scene_of a tree loads) one
    × IsReport (scene_of a tree loads) l.matcher.cache c.check_path.new.matcher.cache one.path one.problem)) l.invariant.same
    (IfSome_then h.0 h.2 (λ one k. k.1)) in
    let p = err_from_is_err_and c.from_residual.result c.from_residual.ensures.1 in
    rw (p.1, p.2) (
      so.0,
      h.0,
      last_of h.0 l.matcher.cache c.check_path.new.matcher.cache,
      first_of string_bytes c.args.paths.now l.path-index c.path-item.result so.0 h.0 c.loop-path-test.true c.path-item.is so.1.asked named,
      ends_after line_for report_for so.0 h.0
          (g.W.Output.contents c.args.out.now) (g.W.Output.contents l.out) (g.W.Output.contents c.check_path.new.out)
          (g.E.Write.contents c.args.err.now) (g.E.Write.contents l.err) (g.E.Write.contents c.check_path.new.err)
          c.in_err-any.field-0.0 so.1.answers so.1.reports h.1,
      λ tree loads honest are agrees.
          let g = scene_of asked tree loads in
          let before = so.2 tree loads honest are agrees in
          answers_with g so.0 h.0 c.args.matcher.now.cache l.matcher.cache c.check_path.new.matcher.cache before.0 before.1
          (IfSome_then h.0 right (λ one k. k tree loads honest are (l.invariant.agrees tree loads honest are agrees))),
    )
