use Rattle.covread.proofs.GcovBegun.{early_told}
use Rattle.covread.proofs.gcov.laws.an_early_fault_is_told.Goals as goal

pub returns : goal.returns
returns c = early_told
