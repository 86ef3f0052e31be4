use Rattle.std.proofs.Common.{codes, ℕ, List, Ok, Err, Result, inr, ap, not, subst, sym, ◌∙◌}
use Rattle.ignore_base.specs.Problem.{Problem, at_path}
use Rattle.ignore_base.specs.declared.fault.Fault.TheVariants.{NoMetadata}
use Rattle.ignore_files.specs.declared.types.Metadata.{Metadata}
use Rattle.ignore_walk.specs.Answered.{IsMetadata, as_answer}
use Rattle.ignore_walk.specs.Entry.{entry_of, failed_at}
use Rattle.ignore_walk.proofs.AnsweredLemmas.{is_answer, metadata_by_answer, no_metadata}
use Rattle.ignore_walk.proofs.NoEndLemmas.{problem_of-Io}
use Rattle.ignore_walk.proofs.entry.DirEntry.metadata.Goals as goal

pub returns-then-is_none-clause-failed : goal.returns-then-is_none-clause-failed
returns-then-is_none-clause-failed g c =
    let e = entry_of c.args.self.now in
    inr (no_metadata g.F.Files c.args.files.now e e.kind _ (c.is_none.ensures ∙ ap not c.if-is_none.true) (c.in_ok-with_path.ensures.value ∙ ap (at_path (codes "<stdin>")) (problem_of-Io NoMetadata)))

pub returns-in-Ok-clause-answered : goal.returns-in-Ok-clause-answered
returns-in-Ok-clause-answered g c =
    let e = entry_of c.args.self.now in
    metadata_by_answer g.F.Files c.args.files.now e e.kind _ _ (Ok c.in-Ok.metadata) (c.is_none.ensures ∙ ap not c.if-is_none.false) c.as_str.ensures.value
    c.stat.ensures (is_answer _ _ c.in_ok-metadata.ensures.answered ∙ ap as_answer c.in-Ok.is)

pub returns-in_ok-failed_at-in-Err-clause-failed : goal.returns-in_ok-failed_at-in-Err-clause-failed
returns-in_ok-failed_at-in-Err-clause-failed g c =
    let e = entry_of c.args.self.now in
    let given = metadata_by_answer g.F.Files c.args.files.now e e.kind _ _ (Err c.in-Err.fault) (c.is_none.ensures ∙ ap not c.if-is_none.false) c.as_str.ensures.value
    c.stat.ensures (is_answer _ _ c.in_ok-metadata.ensures.answered ∙ ap as_answer c.in-Err.is) in
    let is = c.in_ok-failed_at-in-Err.ensures ∙ ap (λ (p : List ℕ). failed_at p e.depth c.in-Err.fault) c.as_str-in-Err.ensures.value in
    inr (subst (λ (r : Result Metadata Problem). IsMetadata g.F.Files c.args.files.now e e.kind r) (ap Err (sym is)) given)
