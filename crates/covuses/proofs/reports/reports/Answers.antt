use Rattle.std.proofs.Common.{◌∙◌, ap}
use Rattle.covreport.specs.Summary.{summary_of}
use Rattle.covuses.proofs.reports.reports.Goals as goal

pub returns-clause-summary : goal.returns-clause-summary
returns-clause-summary g c = c.in_ok-summary.ensures ∙ ap summary_of c.totals.ensures.value
