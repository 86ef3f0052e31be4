use Rattle.std.proofs.Common.{sym, subst}
use Rattle.std.specs.Option.{option_map}
use Rattle.ignore_base.specs.Problem.{problem_of}
use Rattle.ignore_dir.specs.Soft.{IsSoft}
use Rattle.ignore_dir.proofs.SoftLemmas.{AddsAnswer-soft, without_fault-soft}
use Rattle.ignore_dir.specs.LoadsBy.{reads_of, stats_of}
use Rattle.ignore_dir.proofs.LoadsByLemmas.{adds_none, adds_read, read-given}
use Rattle.std.proofs.Common.{◌∙◌}
use Rattle.ignore_dir.proofs.rule_files.add_present.Goals as goal

pub returns-clause-soft : goal.returns-clause-soft
returns-clause-soft g c =
    let a = c.in_ok-error.ensures.answered in
    subst IsSoft (sym c.without_fault.ensures) (without_fault-soft (option_map problem_of c.in_ok-error.error)
    (AddsAnswer-soft c.args.path.now a.0 _ _ _ a.2))

pub returns-then-not-branch-clause-answered : goal.returns-then-not-branch-clause-answered
returns-then-not-branch-clause-answered g c =
    let a = c.in_ok-is_there.ensures.answered in
    adds_none (stats_of g.F.Files c.args.ground.now.files.now) (reads_of g.F.Files c.args.ground.now.files.now) c.args.path.now c.args.builder.now a.0 a.1 (sym a.2 ∙ c.if-not-branch.true)

pub returns-clause-answered : goal.returns-clause-answered
returns-clause-answered g c =
    let a = c.in_ok-is_there.ensures.answered in
    let b = c.in_ok-error.ensures.answered in
    let r = read-given (g.F.Files.contents_gives c.args.ground.now.files.now c.args.path.now) c.args.path.now b.0 _ _ _ b.1 b.2 in
    adds_read (stats_of g.F.Files c.args.ground.now.files.now) (reads_of g.F.Files c.args.ground.now.files.now) c.args.path.now _ _ a.0 r.0 _ _ a.1 (sym a.2 ∙ c.if-not-branch.false) r.1 r.2 c.without_fault.ensures
