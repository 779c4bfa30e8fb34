use Rattle.covtable.proofs.RenamedTables.{agree_in_renamed, renamed_same, table_totals_renamed}
use Rattle.covtable.proofs.laws.renaming_keeps_totals.Goals as goal

pub returns-clause-totals : goal.returns-clause-totals
returns-clause-totals c = table_totals_renamed

pub returns-clause-agree : goal.returns-clause-agree
returns-clause-agree c = agree_in_renamed

pub returns-clause-still : goal.returns-clause-still
returns-clause-still c = renamed_same
