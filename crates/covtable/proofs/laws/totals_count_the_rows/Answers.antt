use Rattle.covtable.proofs.TotalsKinds.{totals_of_rows}
use Rattle.covtable.proofs.laws.totals_count_the_rows.Goals as goal

pub returns : goal.returns
returns c = totals_of_rows
