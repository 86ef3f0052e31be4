use Rattle.ignore_base.specs.Paths.{join_of}
use Rattle.ignore_dir.proofs.LoadLemmas.{rules_absent, rules_of_none}
use Rattle.ignore_dir.specs.Load.{path_if}
use Rattle.ignore_dir.specs.LoadsBy.{AreRulesBy, Reads, Stats, reads_of, stats_of, stats_shown}
use Rattle.ignore_dir.proofs.LoadsByLemmas.{asked, lacked, rules-more}
use Rattle.ignore_dir.proofs.LoadsByLemmas.{rules_absent as absent_by}
use Rattle.ignore_dir.proofs.LoadsByLemmas.{rules_of_none as none_by}
use Rattle.std.proofs.Common.{◌≡◌, [], ◌∷◌, Err, IfOk, refl, sym, ◌∙◌, subst}
use Rattle.std.proofs.lemmas.Result.{IfOk-weaker}
use Rattle.std.specs.Option.{option_map}
use Rattle.ignore_base.specs.Problem.{problem_of}
use Rattle.ignore_base.specs.declared.fault.Fault.TheVariants.{NotFound}
use Rattle.ignore_dir.proofs.rule_files.rules_if.Goals as goal

pub returns-then-not-on-clause-read : goal.returns-then-not-on-clause-read
returns-then-not-on-clause-read g c = λ tree h shows. rw c.if-not-on.true
    (rules_of_none tree c.args.ground.now.settings.now c.args.dir.now c.empty.result c.empty.ensures)

pub returns-then-lacks-clause-read : goal.returns-then-lacks-clause-read
returns-then-lacks-clause-read g c = λ tree h shows.
    let none = c.lacks.ensures.absent tree c.args.dir.now shows c.if-lacks.true in
    rw c.if-not-on.false
    (rules_absent tree c.args.ground.now.settings.now c.args.dir.now (join_of c.args.dir.now c.args.name.now) c.empty-then-lacks.result none.here c.empty-then-lacks.ensures)

pub returns-then-not-on-clause-answered : goal.returns-then-not-on-clause-answered
returns-then-not-on-clause-answered g c = rw c.if-not-on.true
    (none_by (stats_shown g.F.Files c.args.ground.now.files.now c.args.dir.now c.args.shown.now) (reads_of g.F.Files c.args.ground.now.files.now) c.args.ground.now.settings.now c.args.dir.now c.empty.result c.empty.ensures)

pub returns-then-lacks-clause-answered : goal.returns-then-lacks-clause-answered
returns-then-lacks-clause-answered g c = rw c.if-not-on.false
    (absent_by (stats_shown g.F.Files c.args.ground.now.files.now c.args.dir.now c.args.shown.now) (reads_of g.F.Files c.args.ground.now.files.now) c.args.ground.now.settings.now c.args.dir.now (join_of c.args.dir.now c.args.name.now)
    c.empty-then-lacks.result (Err NotFound)
    (lacked g.F.Files c.args.ground.now.files.now c.args.dir.now c.args.shown.now (join_of c.args.dir.now c.args.name.now)
    (λ tree shows. (c.lacks.ensures.absent tree c.args.dir.now shows c.if-lacks.true).here))
    refl c.empty-then-lacks.ensures)

pub returns-clause-answered : goal.returns-clause-answered
returns-clause-answered g c =
    let s = c.args.ground.now.settings.now in
    let dir = c.args.dir.now in
    let Stat : Stats = stats_of g.F.Files c.args.ground.now.files.now in
    let Shows : Stats = stats_shown g.F.Files c.args.ground.now.files.now dir c.args.shown.now in
    let Read : Reads = reads_of g.F.Files c.args.ground.now.files.now in
    let path : c.as_str.result.now ≡ join_of dir c.args.name.now = c.as_str.ensures.value ∙ c.in_ok-path.ensures in
    subst (λ b. IfOk c.rules_of_file.result (λ r. AreRulesBy Shows Read s dir (path_if b dir c.args.name.now) r.0 (option_map problem_of r.1)))
    (sym c.if-not-on.false)
    (IfOk-weaker c.rules_of_file.result _ _ (λ r are. rules-more Stat Shows Read s dir (join_of dir c.args.name.now ∷ []) r.0
    (option_map problem_of r.1) (asked g.F.Files c.args.ground.now.files.now dir c.args.shown.now)
    (subst (λ p. AreRulesBy Stat Read s dir (p ∷ []) r.0 (option_map problem_of r.1)) path are))
    c.rules_of_file.ensures.answered)
