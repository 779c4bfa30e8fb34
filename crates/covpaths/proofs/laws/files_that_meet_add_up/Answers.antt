use Rattle.covpaths.proofs.Meets.{items_under, sums_meet}
use Rattle.covpaths.proofs.laws.files_that_meet_add_up.Goals as goal

pub returns-clause-all : goal.returns-clause-all
returns-clause-all c = items_under

pub returns-clause-two : goal.returns-clause-two
returns-clause-two c = sums_meet
