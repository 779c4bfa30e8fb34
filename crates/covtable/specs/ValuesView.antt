-- A `FunctionValue`, a `BranchValue`, a `LineValue` and a `FileTotals`, seen as plain data.
use Rattle.std.specs.Prelude.{option_map}
use Rattle.covtable.specs.declared.totals.FileTotals.{FileTotals}
use Rattle.covtable.specs.declared.values.FunctionValue.{FunctionValue}
use Rattle.covtable.specs.declared.values.BranchValue.{BranchValue}
use Rattle.covtable.specs.declared.values.LineValue.{LineValue}
use Rattle.covtable.specs.Content.{FunctionValueData, BranchValueData, LineValueData}
use Rattle.covtable.specs.Files.{FileTotalsData}

abbrev pub function_data : FunctionValue → FunctionValueData
function_data f = record { line = f.line; name = f.name.now; count = f.count }

abbrev pub branch_data : BranchValue → BranchValueData
branch_data b = record { point = record { line = b.line; block = b.block; branch = b.branch }; taken = b.taken }

abbrev pub line_data : LineValue → LineValueData
line_data l = record { line = l.line; count = l.count; checksum = option_map (λ c. c.now) l.checksum }

abbrev pub file_totals_data : FileTotals → FileTotalsData
file_totals_data file = record { path = file.path.now; totals = file.totals }
