-- The `BranchPoint` of the Rattle code, as plain data.
use Rattle.covdata.specs.Points.{BranchPoint}
use Rattle.covdata.specs.declared.point.BranchPoint as code

abbrev pub branch_point_data : code.BranchPoint → BranchPoint
branch_point_data b = record { line = b.line; block = b.block; branch = b.branch }
