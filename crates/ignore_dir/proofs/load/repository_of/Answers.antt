use Rattle.std.proofs.Common.{◌≡◌, ◌&&◌, ◌||◌, ◌∙◌, ap, cond, subst, sym, codes, Ok, None}
use Rattle.ignore_base.specs.Paths.{join_of}
use Rattle.ignore_rules.specs.Matchers.{is_file_there}
use Rattle.ignore_dir.specs.Exclude.{Place, exclude_by}
use Rattle.ignore_dir.specs.Load.{is_there, needs_marks}
use Rattle.ignore_dir.specs.LoadsBy.{IsMarkBy, LeadsIf, reads_of, stats_of, stats_shown}
use Rattle.ignore_dir.specs.Places.{place_of}
use Rattle.ignore_dir.proofs.LoadsByLemmas.{asked, git_unasked, neither}
use Rattle.ignore_dir.proofs.load.repository_of.Goals as goal

pub returns-clause-mark : goal.returns-clause-mark
returns-clause-mark g c = λ tree h shows.
    c.in_ok-mark.ensures.value tree h shows (c.in_ok-kind.ensures.there tree h
    ∙ ap (is_there tree) (c.as_str-path.ensures.value ∙ c.in_ok-git.ensures))

pub returns-clause-exclude : goal.returns-clause-exclude
returns-clause-exclude g c = λ tree h.
    c.in_ok-exclude.ensures.value tree h (c.in_ok-kind.ensures.file tree h)
    ∙ ap (λ p. let place : Place = cond c.args.ground.now.settings.now.git_exclude (exclude_by tree p) (Ok None) in place)
    (c.as_str-path.ensures.value ∙ c.in_ok-git.ensures)

pub returns-clause-answered : goal.returns-clause-answered
returns-clause-answered g c =
    let s = c.args.ground.now.settings.now in
    let a = c.in_ok-kind.ensures.answered in
    let git = join_of c.args.dir.now (codes ".git") in
    let path : c.as_str-path.result.now ≡ git = c.as_str-path.ensures.value ∙ c.in_ok-git.ensures in
    record {
      found = a.0;
      asked = λ _. asked g.F.Files c.args.ground.now.files.now c.args.dir.now c.args.shown.now git a.0 (subst (λ p. stats_of g.F.Files c.args.ground.now.files.now p a.0) path a.1);
      leads = subst (λ p. LeadsIf s.git_exclude (reads_of g.F.Files c.args.ground.now.files.now) (is_file_there a.0) p (place_of c.in_ok-exclude.exclude)) path
          (subst (λ b. LeadsIf s.git_exclude (reads_of g.F.Files c.args.ground.now.files.now) b c.as_str-path.result.now (place_of c.in_ok-exclude.exclude)) a.3
          c.in_ok-exclude.ensures.answered);
      marks = subst (λ b. IsMarkBy (needs_marks s) (stats_shown g.F.Files c.args.ground.now.files.now c.args.dir.now c.args.shown.now) b (join_of c.args.dir.now (codes ".jj")) c.in_ok-mark.mark) a.2
          c.in_ok-mark.ensures.answered;
    }

pub returns-then-not-needs_git-clause-mark : goal.returns-then-not-needs_git-clause-mark
returns-then-not-needs_git-clause-mark g c = λ tree h shows.
    let s = c.args.ground.now.settings.now in
    let none = neither s.git_exclude (needs_marks s) (sym c.needs_git.ensures ∙ c.if-not-needs_git.true) in
    sym (ap (λ b. b && (is_there tree (join_of c.args.dir.now (codes ".git")) || is_there tree (join_of c.args.dir.now (codes ".jj")))) none.1)

pub returns-then-not-needs_git-clause-exclude : goal.returns-then-not-needs_git-clause-exclude
returns-then-not-needs_git-clause-exclude g c = λ tree h.
    let s = c.args.ground.now.settings.now in
    let none = neither s.git_exclude (needs_marks s) (sym c.needs_git.ensures ∙ c.if-not-needs_git.true) in
    sym (ap (λ b. let place : Place = cond b (exclude_by tree (join_of c.args.dir.now (codes ".git"))) (Ok None) in place) none.0)

pub returns-then-not-needs_git-clause-answered : goal.returns-then-not-needs_git-clause-answered
returns-then-not-needs_git-clause-answered g c =
    let s = c.args.ground.now.settings.now in
    let none = neither s.git_exclude (needs_marks s) (sym c.needs_git.ensures ∙ c.if-not-needs_git.true) in
    git_unasked (stats_shown g.F.Files c.args.ground.now.files.now c.args.dir.now c.args.shown.now)
    (reads_of g.F.Files c.args.ground.now.files.now) s c.args.dir.now none.0 none.1
