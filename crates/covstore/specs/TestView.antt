-- A `Test`, seen as plain data: committed, and staged.
use Rattle.covstore.specs.declared.test.Test.{Test}
use Rattle.covstore.specs.Sums.{TestData}

abbrev pub test_committed : {A : Type 0} → Test A → TestData
test_committed test = record { lines = test.lines.committed; functions = test.functions.committed; branches = test.branches.committed }

abbrev pub test_staged : {A : Type 0} → Test A → TestData
test_staged test = record { lines = test.lines.staged; functions = test.functions.staged; branches = test.branches.staged }
