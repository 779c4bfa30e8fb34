use Rattle.covtable.proofs.Ascend.{one_ascending}
use Rattle.covtable.proofs.Orders.{keys_order, names_order, branches_order, lines_order}
use Rattle.covtable.proofs.laws.order_is_unique.Goals as goal

pub returns-clause-keys : goal.returns-clause-keys
returns-clause-keys c = λ all some others a b. one_ascending keys_order all some others a b

pub returns-clause-functions : goal.returns-clause-functions
returns-clause-functions c = λ all some others a b. one_ascending names_order all some others a b

pub returns-clause-branches : goal.returns-clause-branches
returns-clause-branches c = λ all some others a b. one_ascending branches_order all some others a b

pub returns-clause-lines : goal.returns-clause-lines
returns-clause-lines c = λ all some others a b. one_ascending lines_order all some others a b
