use Rattle.covbook.specs.Gather.{gather_claims}
use Rattle.covbook.proofs.Causes.{no_merge}
use Rattle.covbook.proofs.Claims.{none_fails, one_fails}
use Rattle.covbook.proofs.Merged.{gathered_from, gathered_holds}
use Rattle.covbook.proofs.laws.claims_make_a_gathering.Goals as goal

pub returns-clause-gathered : goal.returns-clause-gathered
returns-clause-gathered c = λ entries logs. (gathered_from entries logs, gathered_holds entries logs)

pub returns-clause-fault : goal.returns-clause-fault
returns-clause-fault c = λ entries logs some other a b. one_fails (gather_claims entries logs) some other a b

pub returns-clause-none : goal.returns-clause-none
returns-clause-none c = λ entries logs fault fails gathered. none_fails (gather_claims entries logs) fault (gathered_holds entries logs gathered) fails

pub returns-clause-merge : goal.returns-clause-merge
returns-clause-merge c = λ entries logs fault fails other merge. no_merge entries logs fault fails other merge
