use Rattle.std.proofs.Common.{map, option_map, sym, subst}
use Rattle.ignore_base.specs.Problem.{problem_of}
use Rattle.ignore_dir.specs.Soft.{AllSoft}
use Rattle.ignore_dir.proofs.SoftLemmas.{more_soft}
use Rattle.std.proofs.Common.{◌≡◌, string_bytes, ap, ◌∙◌}
use Rattle.ignore_dir.specs.Above.{path_along}
use Rattle.ignore_dir.specs.LoadsBy.{LoadsBy, reads_of, stats_of}
use Rattle.ignore_query.proofs.load.load.Goals as goal

pub returns-clause-soft : goal.returns-clause-soft
returns-clause-soft g c = λ soft.
    subst AllSoft (sym c.in_ok-push_some.ensures.added)
    (more_soft (map problem_of c.args.errors.now.items) (option_map problem_of c.in_ok-dir.error) soft c.in_ok-dir.ensures.soft)

pub returns-clause-loaded : goal.returns-clause-loaded
returns-clause-loaded g c = λ names clean key.
    let asked = c.args.call.now.asked.now in
    let problem = option_map problem_of c.in_ok-dir.error in
    let path : c.as_str-2.result.now ≡ path_along (string_bytes asked.root) names = c.as_str-2.ensures.value
    ∙ (c.in_ok-path.ensures.value names clean key ∙ ap (λ r. path_along r names) c.as_str.ensures.value) in (
      problem,
      subst (λ p. LoadsBy (stats_of g.F.Files c.args.call.now.files.now) (reads_of g.F.Files c.args.call.now.files.now) asked.settings p
          c.in_ok-dir.dir problem) path
          (subst (λ s. LoadsBy (stats_of g.F.Files c.args.call.now.files.now) (reads_of g.F.Files c.args.call.now.files.now) s
          c.as_str-2.result.now c.in_ok-dir.dir problem) c.ground.ensures.settings
          (subst (λ f. LoadsBy (stats_of g.F.Files f) (reads_of g.F.Files f) c.ground.result.settings.now c.as_str-2.result.now
          c.in_ok-dir.dir problem) c.ground.ensures.files c.in_ok-dir.ensures.answered)),
    )
