use Rattle.std.proofs.Common.{subst, sym}
use Rattle.ignore_dir.specs.Soft.{IsSoft}
use Rattle.ignore_dir.proofs.SoftLemmas.{joined_four-soft}
use Rattle.ignore_dir.proofs.load.load_shown.Goals as goal

pub returns-clause-soft : goal.returns-clause-soft
returns-clause-soft g c =
    subst IsSoft (sym c.in_ok-error.ensures.value)
    (joined_four-soft _ _ _ _ c.in_ok-own.ensures.soft_custom c.in_ok-own.ensures.soft_ignore c.in_ok-own.ensures.soft_gitignore
    c.in_ok-git.ensures.soft)

pub returns-clause-answered : goal.returns-clause-answered
returns-clause-answered g c =
    let own = c.in_ok-own.ensures in
    let git = c.in_ok-git.ensures.answered in
    record {
      of_custom = _;
      of_ignore = _;
      of_gitignore = _;
      of_exclude = _;
      place = git.0;
      custom = own.custom_answered;
      ignore = own.ignore_answered;
      gitignore = own.gitignore_answered;
      git = git.1;
      exclude = git.2;
      reports = c.in_ok-error.ensures.value;
    }
