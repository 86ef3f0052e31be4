use Rattle.ignore_every.proofs.analysis.Analysis.of.Goals as goal

pub returns : goal.returns
returns c = c.in_ok-findings-2.ensures
