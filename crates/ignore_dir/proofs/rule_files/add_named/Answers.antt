use Rattle.ignore_base.specs.Paths.{join_of}
use Rattle.ignore_dir.specs.Load.{is_there}
use Rattle.ignore_dir.proofs.LoadLemmas.{absent}
use Rattle.ignore_dir.specs.LoadsBy.{reads_of, stats_of, stats_shown}
use Rattle.ignore_dir.proofs.LoadsByLemmas.{adds_none, adds-at, asked, lacked}
use Rattle.std.proofs.Common.{◌≡◌, Err, refl, ◌∙◌, subst}
use Rattle.std.proofs.lemmas.Result.{IfOk-weaker}
use Rattle.std.specs.Option.{option_map}
use Rattle.ignore_base.specs.Problem.{problem_of}
use Rattle.ignore_base.specs.declared.fault.Fault.TheVariants.{NotFound}
use Rattle.ignore_dir.proofs.rule_files.add_named.Goals as goal

pub returns-then-lacks-clause-added : goal.returns-then-lacks-clause-added
returns-then-lacks-clause-added g c = λ tree h shows.
    let path = join_of c.args.dir.now c.args.name.now in
    let none = c.lacks.ensures.absent tree c.args.dir.now shows c.if-lacks.true in
    absent (is_there tree path) tree path c.args.builder.now none.here

pub returns-then-lacks-clause-answered : goal.returns-then-lacks-clause-answered
returns-then-lacks-clause-answered g c =
    let path = join_of c.args.dir.now c.args.name.now in
    adds_none (stats_shown g.F.Files c.args.ground.now.files.now c.args.dir.now c.args.shown.now) (reads_of g.F.Files c.args.ground.now.files.now) path c.args.builder.now (Err NotFound)
    (lacked g.F.Files c.args.ground.now.files.now c.args.dir.now c.args.shown.now path
    (λ tree shows. (c.lacks.ensures.absent tree c.args.dir.now shows c.if-lacks.true).here))
    refl

pub returns-clause-answered : goal.returns-clause-answered
returns-clause-answered g c =
    let path : c.as_str.result.now ≡ join_of c.args.dir.now c.args.name.now = c.as_str.ensures.value ∙ c.in_ok-path.ensures in
    IfOk-weaker c.add_present.result _ _
    (λ e adds. adds-at (stats_of g.F.Files c.args.ground.now.files.now)
    (stats_shown g.F.Files c.args.ground.now.files.now c.args.dir.now c.args.shown.now) (reads_of g.F.Files c.args.ground.now.files.now)
    c.as_str.result.now (join_of c.args.dir.now c.args.name.now) c.args.builder.now c.add_present.new.builder (option_map problem_of e)
    (asked g.F.Files c.args.ground.now.files.now c.args.dir.now c.args.shown.now) path adds)
    c.add_present.ensures.answered
