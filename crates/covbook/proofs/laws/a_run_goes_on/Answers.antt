use Rattle.std.proofs.Common.{[]}
use Rattle.covbook.proofs.Runs.{answers_from-push, totals_from-push, table_from-push}
use Rattle.covbook.proofs.laws.a_run_goes_on.Goals as goal

pub returns-clause-answers : goal.returns-clause-answers
returns-clause-answers c = λ ops op. answers_from-push [] ops op

pub returns-clause-totals : goal.returns-clause-totals
returns-clause-totals c = λ ops op. totals_from-push [] ops op

pub returns-clause-table : goal.returns-clause-table
returns-clause-table c = λ ops op. table_from-push [] ops op
