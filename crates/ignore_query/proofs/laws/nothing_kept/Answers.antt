use Rattle.ignore_query.proofs.FreshLemmas.{nothing_agrees, nothing_reports_all}
use Rattle.ignore_query.proofs.laws.nothing_kept.Goals as goal

pub returns-clause-agrees : goal.returns-clause-agrees
returns-clause-agrees c = nothing_agrees

pub returns-clause-reports : goal.returns-clause-reports
returns-clause-reports c = nothing_reports_all
