-- The first root waits, or begins where nothing is missing.
use Rattle.std.proofs.Common.{inl, refl}
use Rattle.ignore_kept.specs.declared.guided.Reading.{Reading}
use Rattle.ignore_kept.proofs.Leading.{asks_no_more, asks_outer}
use Rattle.ignore_kept.proofs.entering.read_outside.Goals as goal

pub returns-in-Some-clause-reads : goal.returns-in-Some-clause-reads
returns-in-Some-clause-reads c =
    let reading : Reading = record { root = c.args.root; told = c.args.told; question = c.in-Some.question } in
    inl (reading, refl, refl, asks_outer c.args.guided.now c.args.told _ _ _ c.as_slice-paths.ensures c.in-Some.is c.in_ok-next.ensures, refl, refl)

pub returns-in-None-clause-reads : goal.returns-in-None-clause-reads
returns-in-None-clause-reads c =
    c.begin_told.ensures.reads (asks_no_more c.args.guided.now c.args.told _ _ c.as_slice-paths.ensures c.in-None.is c.in_ok-next.ensures)
