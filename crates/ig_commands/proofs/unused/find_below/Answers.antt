use Rattle.std.proofs.Common.{◌≡◌, ℕ, List, [], map, refl, string_bytes, subst, sym}
use Rattle.std.proofs.lemmas.Result.{err_from_is_err_and}
use Rattle.std.specs.List.{flat_map}
use Rattle.commands.proofs.LineLemmas.{appends_nothing}
use Rattle.ignore_dir.specs.Load.{Loaded}
use Rattle.ignore_files.specs.Tree.{Tree}
use Rattle.ignore_query.specs.Agrees.{Agrees}
use Rattle.ignore_query.specs.Forget.{ListsKept, kept_dirs}
use Rattle.ignore_query.specs.KeptRules.{kept_rules, rules_of}
use Rattle.ignore_query.specs.Reached.{scene_of}
use Rattle.ignore_query.specs.declared.incremental.IncrementalIgnore.{IncrementalIgnore}
use Rattle.ig_commands.specs.Found.{deciding, first_at}
use Rattle.ig_commands.specs.Rules.{Grows}
use Rattle.ig_commands.specs.Surveys.{seen_of}
use Rattle.ig_commands.specs.declared.rules.FileRules.{FileRules}
use Rattle.ig_commands.proofs.MetLemmas.{begun_none, survey_begun, survey_finds, survey_whole, whole_begun}
use Rattle.ig_commands.proofs.NameLemmas.{told_whole}
use Rattle.ig_commands.proofs.unused.find_below.Goals as goal

-- out of memory for the survey, nothing is met
pub returns-in_default-clause-ended : goal.returns-in_default-clause-ended
returns-in_default-clause-ended g c =
    let m = c.args.matcher in (
      (string_bytes m.asked.root, []),
      (refl, λ empty tree loads honest are. begun_none (scene_of m.asked tree loads) m.cache empty),
      (refl, appends_nothing (g.E.Write.contents c.args.err.now)),
    )

-- what was met before the item that ended it
pub returns-in_err-reported-clause-ended : goal.returns-in_err-reported-clause-ended
returns-in_err-reported-clause-ended g c =
    let m = c.args.matcher in
    let s = c.in-Ok.survey in
    let h = c.in_err-reported.ensures.ended in
    let p = err_from_is_err_and c.from_residual.result c.from_residual.ensures.1 in
    rw (p.1, p.2) (
      (string_bytes m.asked.root, map seen_of h.0),
      (
        refl,
        λ empty. survey_begun g.F.Files c.args.world.now.files.now m s c.in-Ok.ensures.whole c.in-Ok.ensures.starts c.in-Ok.ensures.kept c.in-Ok.ensures.limit empty
            h.2 h.0 h.1 h.3 h.5,
      ),
      h.4,
    )

-- all items are met, and the rules of the directories that are kept then are read
pub returns-clause-found : goal.returns-clause-found
returns-clause-found g c =
    let m = c.args.matcher in
    let s = c.in-Ok.survey in
    let u = c.find_items.new.items in
    let h = c.in_ok-reported.ensures.found in
    let k = c.in-Ok-note_read.ensures in
    let into : c.into_matcher.result ≡ u.matcher = c.into_matcher.ensures in
    let loaded = subst
    (λ (x : IncrementalIgnore). (tree : Tree) (loads : List ℕ → Loaded) → Agrees (scene_of x.asked tree loads) x.cache
    → kept_rules x.cache ≡ flat_map (rules_of (scene_of x.asked tree loads)) (kept_dirs x.cache)) into k.loaded in
    let listed = subst (λ (x : IncrementalIgnore). ListsKept x.cache) into k.listed in (
      ((string_bytes m.asked.root, map seen_of h.0), kept_rules u.matcher.cache),
      (
        refl,
        λ empty. survey_finds g.F.Files c.args.world.now.files.now m s c.in-Ok.ensures.whole c.in-Ok.ensures.starts c.in-Ok.ensures.kept c.in-Ok.ensures.limit empty
            u h.0 h.1 h.4 loaded listed,
      ),
      told_whole c.args.options.now c.find_items.new.names (map seen_of h.0) (g.E.Write.contents c.args.err.now)
          (g.E.Write.contents c.find_items.new.err) (g.E.Write.contents c.end_names.new.err) h.6 h.2 c.in_ok-end_names.ensures.told,
      h.3,
      subst (λ (r : FileRules). Grows (first_at (deciding (map seen_of h.0))) c.args.found.now.used r) (sym k.used) h.5,
      subst (λ (r : FileRules). Grows (first_at (kept_rules u.matcher.cache)) r c.note_read.new.self.read) c.in_ok-reported.ensures.read
          (subst (λ (x : IncrementalIgnore). Grows (first_at (kept_rules x.cache)) c.find_items.new.found.read c.note_read.new.self.read) into k.read),
    )

-- out of memory for those, all items are met
pub returns-in_default-note_read-clause-ended : goal.returns-in_default-note_read-clause-ended
returns-in_default-note_read-clause-ended g c =
    let m = c.args.matcher in
    let s = c.in-Ok.survey in
    let u = c.find_items.new.items in
    let h = c.in_ok-reported.ensures.found in (
      (string_bytes m.asked.root, map seen_of h.0),
      (
        refl,
        λ empty tree loads honest are. whole_begun (scene_of m.asked tree loads) (map seen_of h.0)
            (survey_whole g.F.Files c.args.world.now.files.now m s c.in-Ok.ensures.whole c.in-Ok.ensures.starts c.in-Ok.ensures.kept c.in-Ok.ensures.limit empty
            u h.0 h.1 h.4 tree loads honest are),
      ),
      (refl, h.2),
    )

-- the names that were counted last can't be reported
pub returns-in_err-end_names-clause-ended : goal.returns-in_err-end_names-clause-ended
returns-in_err-end_names-clause-ended g c =
    let m = c.args.matcher in
    let p = err_from_is_err_and c.from_residual-in_err-end_names.result c.from_residual-in_err-end_names.ensures.1 in
    rw (p.1, p.2) (
      (string_bytes m.asked.root, []),
      (refl, λ empty tree loads honest are. begun_none (scene_of m.asked tree loads) m.cache empty),
      rw c.in_err-end_names.ensures.ended tt,
    )
