use Rattle.covbook.proofs.Counted.{gathered_by_count, one_more}
use Rattle.covbook.proofs.laws.calls_count_a_history.Goals as goal

pub returns-clause-one_more : goal.returns-clause-one_more
returns-clause-one_more c = one_more

pub returns-clause-gathered : goal.returns-clause-gathered
returns-clause-gathered c = gathered_by_count
