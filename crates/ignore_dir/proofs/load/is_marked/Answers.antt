use Rattle.std.proofs.Common.{◌≡◌, Err, refl, subst, sym, ◌∙◌, codes}
use Rattle.std.proofs.lemmas.Result.{IfOk-weaker}
use Rattle.ignore_base.specs.declared.fault.Fault.TheVariants.{NotFound}
use Rattle.ignore_base.specs.Paths.{join_of}
use Rattle.ignore_dir.specs.Load.{is_there, needs_marks}
use Rattle.ignore_dir.specs.LoadsBy.{stats_of}
use Rattle.ignore_dir.proofs.LoadLemmas.{no_mark}
use Rattle.ignore_dir.proofs.LoadsByLemmas.{asked, lacked}
use Rattle.ignore_dir.proofs.load.is_marked.Goals as goal

pub returns-then-lacks-clause-value : goal.returns-then-lacks-clause-value
returns-then-lacks-clause-value g c = λ tree h shows git.
    let dir = c.args.dir.now in
    let none = c.lacks.ensures.absent tree dir shows c.if-lacks.true in
    no_mark (needs_marks c.args.ground.now.settings.now) (is_there tree (join_of dir (codes ".git"))) (is_there tree (join_of dir (codes ".jj")))
    (sym git ∙ c.if-has_git.false) none.here

pub returns-then-lacks-clause-answered : goal.returns-then-lacks-clause-answered
returns-then-lacks-clause-answered g c =
    let jj = join_of c.args.dir.now (codes ".jj") in
    rw (sym c.needs_marks.ensures ∙ c.if-not-needs_marks.false, c.if-has_git.false)
    (Err NotFound, lacked g.F.Files c.args.ground.now.files.now c.args.dir.now c.args.shown.now jj (λ tree shows. (c.lacks.ensures.absent tree c.args.dir.now shows c.if-lacks.true).here), refl)

pub returns-clause-answered : goal.returns-clause-answered
returns-clause-answered g c =
    let path : c.as_str.result.now ≡ join_of c.args.dir.now (codes ".jj") = c.as_str.ensures.value ∙ c.in_ok-jj.ensures in
    rw (sym c.needs_marks.ensures ∙ c.if-not-needs_marks.false, c.if-has_git.false)
    (IfOk-weaker c.is_there.result _ _
    (λ yes a. (a.0, asked g.F.Files c.args.ground.now.files.now c.args.dir.now c.args.shown.now _ a.0 (subst (λ p. stats_of g.F.Files c.args.ground.now.files.now p a.0) path a.1), a.2))
    c.is_there.ensures.answered)

pub returns-then-not-needs_marks-clause-answered : goal.returns-then-not-needs_marks-clause-answered
returns-then-not-needs_marks-clause-answered g c = rw (sym c.needs_marks.ensures ∙ c.if-not-needs_marks.true) refl

pub returns-then-has_git-clause-answered : goal.returns-then-has_git-clause-answered
returns-then-has_git-clause-answered g c = rw (sym c.needs_marks.ensures ∙ c.if-not-needs_marks.false, c.if-has_git.true) refl
