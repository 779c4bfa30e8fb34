-- The code's `Shape` and `GcovLine`, seen as plain data.
use Rattle.std.specs.Prelude.{◌≡◌, Result, Ok, Err}
use Rattle.covread.specs.Gcov.{Says, GcovLine, Path, SourceLine, FuncCount, BranchCount, BlockNumber, Nothing}
use Rattle.covread.specs.Gcov as spec
use Rattle.covread.specs.declared.gcov.shape.Shape.{Shape}
use Rattle.covread.specs.declared.gcov.shape.Shape.TheVariants as shapes
use Rattle.covread.specs.declared.gcov.line.OwnFault.{OwnFault}
use Rattle.covread.specs.declared.gcov.line.GcovLine as code
use Rattle.covread.specs.declared.gcov.line.GcovLine.TheVariants as lines

abbrev pub shape_data : Shape → spec.Shape
shape_data shapes.Instances = spec.Instances
shape_data (shapes.Function name count) = spec.Function name.now count.now
shape_data (shapes.Never branch) = spec.Never branch.now
shape_data (shapes.Taken branch word) = spec.Taken branch.now word.now
shape_data (shapes.Block line block) = spec.Block line.now block.now
shape_data (shapes.Numbered mark line text) = spec.Numbered mark.now line.now text.now
shape_data shapes.Other = spec.Other

abbrev pub line_data : code.GcovLine → GcovLine
line_data (lines.Path path) = Path path.now
line_data (lines.Source line count) = SourceLine line count
line_data (lines.Function name count) = FuncCount name.now count
line_data (lines.Branch branch taken) = BranchCount branch taken
line_data (lines.Block block) = BlockNumber block
line_data lines.Skip = Nothing

-- what a function of the code returned is this, seen as plain data
abbrev pub Gives : Result code.GcovLine OwnFault → Says → Type 0
Gives (Ok line) says = says ≡ Ok (line_data line)
Gives (Err fault) says = says ≡ Err fault
