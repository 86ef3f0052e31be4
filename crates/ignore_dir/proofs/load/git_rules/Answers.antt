use Rattle.std.proofs.Common.{sym}
use Rattle.ignore_dir.specs.LoadsBy.{reads_of, stats_of, stats_shown}
use Rattle.ignore_dir.specs.Places.{place_of}
use Rattle.ignore_dir.proofs.LoadLemmas.{no_exclude}
use Rattle.ignore_dir.proofs.LoadsByLemmas.{asked, excludes-more, no_git}
use Rattle.ignore_dir.proofs.load.git_rules.Goals as goal

pub returns-then-lacks-clause-mark : goal.returns-then-lacks-clause-mark
returns-then-lacks-clause-mark g c = λ tree h shows.
    let none = c.lacks.ensures.absent tree c.args.dir.now shows c.if-lacks.true in
    c.in_ok-is_marked.ensures.value tree h shows (sym none.here)

pub returns-then-lacks-clause-exclude : goal.returns-then-lacks-clause-exclude
returns-then-lacks-clause-exclude g c = λ tree h shows.
    let none = c.lacks.ensures.absent tree c.args.dir.now shows c.if-lacks.true in
    no_exclude tree c.args.ground.now.settings.now c.args.dir.now c.empty.result none c.empty.ensures

pub returns-then-lacks-clause-answered : goal.returns-then-lacks-clause-answered
returns-then-lacks-clause-answered g c =
    no_git g.F.Files c.args.ground.now.files.now (reads_of g.F.Files c.args.ground.now.files.now) c.args.ground.now.settings.now c.args.dir.now c.args.shown.now _ c.empty.result
    (λ tree shows. c.lacks.ensures.absent tree c.args.dir.now shows c.if-lacks.true) c.in_ok-is_marked.ensures.answered c.empty.ensures

pub returns-clause-answered : goal.returns-clause-answered
returns-clause-answered g c = (
  place_of c.in_ok-repository.repository.exclude,
  c.in_ok-repository.ensures.answered,
  excludes-more (stats_of g.F.Files c.args.ground.now.files.now) (stats_shown g.F.Files c.args.ground.now.files.now c.args.dir.now c.args.shown.now) (reads_of g.F.Files c.args.ground.now.files.now) c.args.ground.now.settings.now c.args.dir.now (place_of c.in_ok-repository.repository.exclude) _ _ (asked g.F.Files c.args.ground.now.files.now c.args.dir.now c.args.shown.now) c.in_ok-exclude.ensures.answered,
)
