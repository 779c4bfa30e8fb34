use Rattle.covdata.specs.Points.{line_points, func_points, branch_points}
use Rattle.covtable.proofs.Ascend.{ascending_is}
use Rattle.covtable.proofs.Orders.{names_order, branches_order, lines_order}
use Rattle.covtable.proofs.laws.points_stand_in_order.Goals as goal

pub returns-clause-functions : goal.returns-clause-functions
returns-clause-functions c = λ items. ascending_is names_order (func_points items)

pub returns-clause-branches : goal.returns-clause-branches
returns-clause-branches c = λ items. ascending_is branches_order (branch_points items)

pub returns-clause-lines : goal.returns-clause-lines
returns-clause-lines c = λ items. ascending_is lines_order (line_points items)
