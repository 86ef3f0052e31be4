use Rattle.std.proofs.Common.{◌≡◌, ◌∙◌, [], List, map, refl, string_bytes, subst, sym}
use Rattle.std.proofs.lemmas.List.Elements.{All-nil}
use Rattle.std.proofs.lemmas.Result.{err_from_is_err_and}
use Rattle.commands.proofs.LineLemmas.{appends_nothing}
use Rattle.ignore_query.specs.Reached.{scene_of}
use Rattle.ig_commands.specs.Ignored.{IsJudged, Shown}
use Rattle.ig_commands.specs.Surveys.{IsBegun, IsWhole, Seen}
use Rattle.ig_commands.proofs.MetLemmas.{begun_none, survey_begun, survey_whole}
use Rattle.ig_commands.proofs.NameLemmas.{told_whole}
use Rattle.ig_commands.proofs.ignored.survey_root.Goals as goal

-- out of memory for the root, nothing is met
pub returns-in_default-clause-ended : goal.returns-in_default-clause-ended
returns-in_default-clause-ended g c =
    let m = c.args.matcher in (
      (string_bytes m.asked.root, []),
      (refl, λ empty tree loads honest are. begun_none (scene_of m.asked tree loads) m.cache empty),
      (appends_nothing (g.W.Output.contents c.args.out.now), appends_nothing (g.E.Write.contents c.args.err.now)),
      λ tree honest. All-nil (IsJudged tree c.args.choice.now.options.now (string_bytes m.asked.root)),
    )

-- or for the survey
pub returns-in_default-new-clause-ended : goal.returns-in_default-new-clause-ended
returns-in_default-new-clause-ended g c =
    let m = c.args.matcher in (
      (string_bytes m.asked.root, []),
      (refl, λ empty tree loads honest are. begun_none (scene_of m.asked tree loads) m.cache empty),
      (appends_nothing (g.W.Output.contents c.args.out.now), appends_nothing (g.E.Write.contents c.args.err.now)),
      λ tree honest. All-nil (IsJudged tree c.args.choice.now.options.now (string_bytes m.asked.root)),
    )

pub returns-clause-lists : goal.returns-clause-lists
returns-clause-lists g c =
    let m = c.args.matcher in
    let s = c.in-Ok-new.survey in
    let root = c.as_str.result.now in
    let at : root ≡ string_bytes m.asked.root = c.as_str.ensures.value ∙ (c.in-Ok.ensures.ok ∙ c.root.ensures) in
    let h = c.in_ok-counts.ensures.lists in (
      (root, h.1),
      (
        at,
        λ empty tree loads honest are. subst (λ (xs : List Seen). IsWhole (scene_of m.asked tree loads) xs) (sym h.3)
            (survey_whole g.F.Files c.args.world.now.files.now m s c.in-Ok-new.ensures.whole c.in-Ok-new.ensures.starts c.in-Ok-new.ensures.kept c.in-Ok-new.ensures.limit empty
            h.2.0 h.0 h.2.1 h.9 tree loads honest are),
      ),
      h.4,
      told_whole c.args.choice.now.options.now c.write_items.new.names (map (λ (x : Shown). x.0) h.1)
          (g.E.Write.contents c.args.err.now) (g.E.Write.contents c.write_items.new.err) (g.E.Write.contents c.end_names.new.err) h.6 h.5 c.in_ok-end_names.ensures.told,
      h.7,
      h.8,
      h.10,
    )

-- what was met before the item that ended it
pub returns-in_err-counts-clause-ended : goal.returns-in_err-counts-clause-ended
returns-in_err-counts-clause-ended g c =
    let m = c.args.matcher in
    let s = c.in-Ok-new.survey in
    let root = c.as_str.result.now in
    let at : root ≡ string_bytes m.asked.root = c.as_str.ensures.value ∙ (c.in-Ok.ensures.ok ∙ c.root.ensures) in
    let h = c.in_err-counts.ensures.ended in
    let p = err_from_is_err_and c.from_residual.result c.from_residual.ensures.1 in
    rw (p.1, p.2) (
      (root, h.1),
      (
        at,
        λ empty tree loads honest are. subst (λ (xs : List Seen). IsBegun (scene_of m.asked tree loads) xs) (sym h.5)
            (survey_begun g.F.Files c.args.world.now.files.now m s c.in-Ok-new.ensures.whole c.in-Ok-new.ensures.starts c.in-Ok-new.ensures.kept c.in-Ok-new.ensures.limit empty
            h.3 h.0 h.2 h.4 h.7 tree loads honest are),
      ),
      h.6,
      h.8,
    )

-- the names that were counted last can't be reported
pub returns-in_err-end_names-clause-ended : goal.returns-in_err-end_names-clause-ended
returns-in_err-end_names-clause-ended g c =
    let m = c.args.matcher in
    let p = err_from_is_err_and c.from_residual-in_err-end_names.result c.from_residual-in_err-end_names.ensures.1 in
    rw (p.1, p.2) (
      (string_bytes m.asked.root, []),
      (refl, λ empty tree loads honest are. begun_none (scene_of m.asked tree loads) m.cache empty),
      rw c.in_err-end_names.ensures.ended tt,
      λ tree honest. All-nil (IsJudged tree c.args.choice.now.options.now (string_bytes m.asked.root)),
    )
