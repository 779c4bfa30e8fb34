use Rattle.covlaws.proofs.SameContentAsRows.{stands_for_rows}
use Rattle.covlaws.proofs.a_report_stands_for_its_rows.Goals as goal

pub returns : goal.returns
returns c = stands_for_rows
