use Rattle.std.specs.Option.{option_map}
use Rattle.ignore_base.specs.Problem.{problem_of}
use Rattle.ignore_dir.specs.Soft.{IsSoft}
use Rattle.ignore_dir.proofs.SoftLemmas.{AddsAnswer-soft, without_fault-soft}
use Rattle.std.proofs.Common.{subst}
use Rattle.std.proofs.Common.{sym, ◌∙◌}
use Rattle.ignore_dir.proofs.LoadLemmas.{rules_absent, rules_present}
use Rattle.ignore_dir.specs.LoadsBy.{reads_of, stats_of}
use Rattle.ignore_dir.proofs.LoadsByLemmas.{adds_read, read-given, rules_of_one}
use Rattle.ignore_dir.proofs.LoadsByLemmas.{rules_absent as absent_by}
use Rattle.ignore_dir.proofs.rule_files.rules_of_file.Goals as goal

pub returns-then-not-branch-clause-read : goal.returns-then-not-branch-clause-read
returns-then-not-branch-clause-read g c = λ tree h.
    rules_absent tree c.args.ground.now.settings.now c.args.dir.now c.args.path.now c.empty.result
    (sym (c.in_ok-is_there.ensures.value tree h) ∙ c.if-not-branch.true) c.empty.ensures

pub returns-clause-read : goal.returns-clause-read
returns-clause-read g c = λ tree h.
    rules_present tree c.args.ground.now.settings.now c.args.dir.now c.args.path.now c.in_ok-builder.builder _ _ _ _
    (sym (c.in_ok-is_there.ensures.value tree h) ∙ c.if-not-branch.false) c.in_ok-builder.ensures.value
    (c.in_ok-add.ensures.added tree h) c.without_fault-error.ensures c.into_gitignore.ensures

pub returns-clause-soft : goal.returns-clause-soft
returns-clause-soft g c =
    let a = c.in_ok-add.ensures.answered in
    subst IsSoft (sym c.without_fault-error.ensures)
    (without_fault-soft (option_map problem_of c.in_ok-add.field-0) (AddsAnswer-soft c.args.path.now a.0 _ _ _ a.2))

pub returns-then-not-branch-clause-answered : goal.returns-then-not-branch-clause-answered
returns-then-not-branch-clause-answered g c =
    let a = c.in_ok-is_there.ensures.answered in
    absent_by (stats_of g.F.Files c.args.ground.now.files.now) (reads_of g.F.Files c.args.ground.now.files.now) c.args.ground.now.settings.now c.args.dir.now c.args.path.now c.empty.result a.0 a.1
    (sym a.2 ∙ c.if-not-branch.true) c.empty.ensures

pub returns-clause-answered : goal.returns-clause-answered
returns-clause-answered g c =
    let a = c.in_ok-is_there.ensures.answered in
    let b = c.in_ok-add.ensures.answered in
    let r = read-given (g.F.Files.contents_gives c.args.ground.now.files.now c.args.path.now) c.args.path.now b.0 _ _ _ b.1 b.2 in
    rules_of_one (stats_of g.F.Files c.args.ground.now.files.now) (reads_of g.F.Files c.args.ground.now.files.now) c.args.ground.now.settings.now c.args.dir.now c.args.path.now c.in_ok-builder.builder _ _ _
    c.in_ok-builder.ensures.value
    (adds_read (stats_of g.F.Files c.args.ground.now.files.now) (reads_of g.F.Files c.args.ground.now.files.now) c.args.path.now _ _ a.0 r.0 _ _ a.1 (sym a.2 ∙ c.if-not-branch.false) r.1 r.2 c.without_fault-error.ensures)
    c.into_gitignore.ensures
