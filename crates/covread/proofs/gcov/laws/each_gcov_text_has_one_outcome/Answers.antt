use Rattle.covread.specs.Gcov.{says_of}
use Rattle.covread.specs.GcovReading.{shape_of}
use Rattle.covread.proofs.GcovText.{some_says, one_says, some_outcome, one_outcome}
use Rattle.covread.proofs.gcov.laws.each_gcov_text_has_one_outcome.Goals as goal

pub returns-clause-some_line : goal.returns-clause-some_line
returns-clause-some_line c = λ line. (says_of (shape_of line), some_says line)

pub returns-clause-one_line : goal.returns-clause-one_line
returns-clause-one_line c = one_says

pub returns-clause-some : goal.returns-clause-some
returns-clause-some c = some_outcome

pub returns-clause-one : goal.returns-clause-one
returns-clause-one c = one_outcome
