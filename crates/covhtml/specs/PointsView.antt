-- The points of a file in the code, seen as plain data.
use Rattle.std.specs.Prelude.{map}
use Rattle.covtable.specs.Content.{SectionData}
use Rattle.covtable.specs.ValuesView.{branch_data, function_data, line_data}
use Rattle.covhtml.specs.declared.points.Points.{Points}
use Rattle.covhtml.specs.declared.points.SectionPoints.{SectionPoints}
use Rattle.covhtml.specs.Points.{PointsData}

abbrev pub points_data : {A : Type 0} → Points A → PointsData
points_data points = record {
  functions = map function_data points.functions.items;
  branches = map branch_data points.branches.items;
  lines = map line_data points.lines.items;
}

abbrev pub section_data : {A : Type 0} → SectionPoints A → SectionData
section_data s = record {
  key = record { file = s.file.now; test = s.test.now };
  functions = map function_data s.points.functions.items;
  branches = map branch_data s.points.branches.items;
  lines = map line_data s.points.lines.items;
}
