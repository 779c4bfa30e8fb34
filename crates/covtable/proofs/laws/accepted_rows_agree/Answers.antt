use Rattle.covtable.proofs.Clashes.{agree_submitted, agree_empty}
use Rattle.covtable.proofs.WithoutContent.{agree_left}
use Rattle.covtable.proofs.laws.accepted_rows_agree.Goals as goal

pub returns-clause-empty : goal.returns-clause-empty
returns-clause-empty c = agree_empty

pub returns-clause-accepted : goal.returns-clause-accepted
returns-clause-accepted c = agree_submitted

pub returns-clause-dropped : goal.returns-clause-dropped
returns-clause-dropped c = agree_left
