use Rattle.std.specs.Option.{option_map}
use Rattle.ignore_base.specs.Problem.{problem_of}
use Rattle.ignore_dir.specs.Soft.{IsSoft, AllSoft}
use Rattle.ignore_dir.proofs.SoftLemmas.{joined-soft, more_soft}
use Rattle.std.proofs.Common.{subst, map, sym, ◌∙◌, ap}
use Rattle.ignore_base.specs.Paths.{join_of}
use Rattle.ignore_dir.specs.LoadsBy.{reads_of, stats_shown}
use Rattle.ignore_dir.proofs.LoadLemmas.{rules_of_none, no_names, one_name_more}
use Rattle.ignore_dir.proofs.LoadsByLemmas.{rules_of_none as none_by, one_name_more as one_more_by}
use Rattle.ignore_dir.proofs.rule_files.rules_of_names.Goals as goal

pub returns-then-is_empty-clause-read : goal.returns-then-is_empty-clause-read
returns-then-is_empty-clause-read g c = λ tree h shows.
    rw (no_names c.args.names.now (sym c.is_empty.ensures ∙ c.if-is_empty.true))
    (rules_of_none tree c.args.ground.now.settings.now c.args.dir.now c.empty.result c.empty.ensures)

pub returns-then-is_empty-clause-answered : goal.returns-then-is_empty-clause-answered
returns-then-is_empty-clause-answered g c =
    rw (no_names c.args.names.now (sym c.is_empty.ensures ∙ c.if-is_empty.true))
    (none_by (stats_shown g.F.Files c.args.ground.now.files.now c.args.dir.now c.args.shown.now) (reads_of g.F.Files c.args.ground.now.files.now) c.args.ground.now.settings.now c.args.dir.now c.empty.result c.empty.ensures)

pub loop-name-preserved : goal.loop-name-preserved
loop-name-preserved g c = record {
  added = λ tree h shows.
      one_name_more tree c.args.ground.now.settings.now c.args.dir.now c.args.names.now c.loop-name.name-index c.name-item.result
      _ _ _ _ _ _ c.loop-name-test.true c.name-item.is (ap (join_of c.args.dir.now) c.as_str.ensures)
      (c.loop-name.invariant.added tree h shows) (c.in_ok-error.ensures.added tree h shows) c.in_ok-push_some.ensures.added;
  answered = one_more_by (stats_shown g.F.Files c.args.ground.now.files.now c.args.dir.now c.args.shown.now) (reads_of g.F.Files c.args.ground.now.files.now) c.args.ground.now.settings.now c.args.dir.now c.args.names.now
      c.loop-name.name-index c.name-item.result _ _ _ _ _ _ c.loop-name-test.true c.name-item.is (ap (join_of c.args.dir.now) c.as_str.ensures)
      c.loop-name.invariant.answered c.in_ok-error.ensures.answered c.in_ok-push_some.ensures.added;
  soft = subst AllSoft (sym c.in_ok-push_some.ensures.added)
      (more_soft (map problem_of c.loop-name.errors.items)
      (option_map problem_of c.in_ok-error.error) c.loop-name.invariant.soft c.in_ok-error.ensures.soft);
}

pub returns-clause-soft : goal.returns-clause-soft
returns-clause-soft g c = subst IsSoft (sym c.joined.ensures)
    (joined-soft (map problem_of c.loop-name.errors.items) c.loop-name.invariant.soft)
