use Rattle.covtable.proofs.TotalsDifferent.{lines_counted, functions_counted, branches_counted}
use Rattle.covtable.proofs.laws.totals_count_different_points.Goals as goal

pub returns-clause-lines : goal.returns-clause-lines
returns-clause-lines c = lines_counted

pub returns-clause-functions : goal.returns-clause-functions
returns-clause-functions c = functions_counted

pub returns-clause-branches : goal.returns-clause-branches
returns-clause-branches c = branches_counted
