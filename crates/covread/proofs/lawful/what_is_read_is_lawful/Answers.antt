use Rattle.covread.proofs.GcovLawful as gcov
use Rattle.covread.proofs.TraceLawful.{lawful_outcome}
use Rattle.covread.proofs.lawful.what_is_read_is_lawful.Goals as goal

pub returns-clause-trace : goal.returns-clause-trace
returns-clause-trace c = lawful_outcome

pub returns-clause-gcov : goal.returns-clause-gcov
returns-clause-gcov c = gcov.lawful_outcome
