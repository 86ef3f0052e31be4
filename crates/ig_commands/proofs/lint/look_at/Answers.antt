use Rattle.std.proofs.Common.{[], ◌∷◌, ◌++◌, List, refl, subst}
use Rattle.std.proofs.lemmas.List.{take_all}
use Rattle.std.specs.List.{AllZip}
use Rattle.commands.proofs.LineLemmas.{appends_nothing}
use Rattle.ignore_base.specs.Text.{Path}
use Rattle.ig_commands.specs.Lint.{IsLook, has_rules, is_found, is_reported, look_report, look_text}
use Rattle.ig_commands.proofs.LintLemmas.{any_more, zip_more}
use Rattle.ig_commands.proofs.TurnLemmas.{text_more}
use Rattle.ig_commands.proofs.lint.look_at.Goals as goal

pub loop-path-init : goal.loop-path-init
loop-path-init g c = (
  [],
  refl,
  refl,
  appends_nothing (g.W.Output.contents c.args.out.now),
  appends_nothing (g.E.Write.contents c.args.err.now),
  refl,
  λ tree honest. tt,
)

pub loop-path-preserved : goal.loop-path-preserved
loop-path-preserved g c =
    let l = c.loop-path in
    let so = l.invariant in
    let more = c.in_ok-more.ensures.lints in
    let o = c.args.all.now.how.options.now in
    let json = c.args.all.now.how.json in
    let files = c.args.all.now.sources.now.outside.items ++ c.args.all.now.sources.now.below.items in (
      so.0 ++ more.0 ∷ [],
      any_more is_reported so.0 more.0 l.seen.reported _ _ so.1 more.1 c.and-seen.ensures.reported,
      any_more is_found so.0 more.0 l.seen.found _ _ so.2 more.2 c.and-seen.ensures.found,
      text_more (look_text o json) so.0 more.0 _ _ _ so.3 more.3,
      text_more look_report so.0 more.0 _ _ _ so.4 more.4,
      any_more has_rules so.0 more.0 l.seen.has_rules _ _ so.5 more.5 c.and-seen.ensures.has_rules,
      λ tree honest. zip_more (IsLook tree o files c.args.all.now.may_note) c.args.paths.now l.path-index c.path-item.result so.0 more.0 c.loop-path-test.true
          c.path-item.is (so.6 tree honest)
          (subst (λ (p : Path). IsLook tree o files c.args.all.now.may_note p more.0) c.as_str.ensures (more.6 tree honest)),
    )

pub returns-clause-lints : goal.returns-clause-lints
returns-clause-lints g c =
    let so = c.loop-path.invariant in (
      so.0,
      so.1,
      so.2,
      so.3,
      so.4,
      so.5,
      λ tree honest. subst (λ (ps : List Path). AllZip (IsLook tree c.args.all.now.how.options.now (c.args.all.now.sources.now.outside.items ++ c.args.all.now.sources.now.below.items) c.args.all.now.may_note) ps so.0)
          (take_all c.loop-path.path-index c.args.paths.now c.loop-path-test.false) (so.6 tree honest),
    )
