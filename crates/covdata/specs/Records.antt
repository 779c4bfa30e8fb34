-- Records: what one line of a tracefile says (geninfo(1) of LCOV 1.x, FILES), apart from where it lies in memory.
use Rattle.std.specs.Prelude.{ℕ, ◌<◌, ◌^◌, List, Option, Some, None, option_map, codes}
use Rattle.covdata.specs.declared.trace_line.TraceLine.{TraceLine}
use Rattle.covdata.specs.declared.trace_line.TraceLine.TheVariants as lines
use Rattle.covdata.specs.declared.trace_line.TotalKind.{TotalKind}
use Rattle.covdata.specs.declared.trace_line.TotalKind.TheVariants.{FuncFound, FuncHit, BranchFound, BranchHit, LineFound, LineHit}
use Rattle.covdata.specs.declared.trace_line.LineFault.{LineFault}
use Rattle.covdata.specs.declared.trace_line.LineFault.TheVariants.{BadLine, NumberTooLarge, EmptyPath}

-- what a line says, apart from where it lies in memory
pub data LineData : Type 0 where
  Test : (name : List ℕ) → LineData
  Path : (path : List ℕ) → LineData
  FuncStart : (line : ℕ) (name : List ℕ) → LineData
  FuncCount : (count : ℕ) (name : List ℕ) → LineData
  Branch : (line block branch : ℕ) (taken : Option ℕ) → LineData
  Line : (line count : ℕ) (checksum : Option (List ℕ)) → LineData
  Total : (kind : TotalKind) (value : ℕ) → LineData
  End : LineData
  Skip : LineData

abbrev pub line_data : TraceLine → LineData
line_data (lines.Test name) = Test name.now
line_data (lines.Path path) = Path path.now
line_data (lines.FuncStart line name) = FuncStart line name.now
line_data (lines.FuncCount count name) = FuncCount count name.now
line_data (lines.Branch line block branch taken) = Branch line block branch taken
line_data (lines.Line line count checksum) = Line line count (option_map (λ c. c.now) checksum)
line_data (lines.Total kind value) = Total kind value
line_data lines.End = End
line_data lines.Skip = Skip

abbrev pub minus : ℕ
minus = 45

-- the key of a total: functions, branches and lines, those found and those hit
abbrev pub key_of : TotalKind → List ℕ
key_of FuncFound = codes "FNF:"
key_of FuncHit = codes "FNH:"
key_of BranchFound = codes "BRF:"
key_of BranchHit = codes "BRH:"
key_of LineFound = codes "LF:"
key_of LineHit = codes "LH:"

-- the numbers of a record are small: its counts are below 2^128, all others below 2^64
abbrev pub HasSmallNumbers : LineData → Type 0
HasSmallNumbers (FuncStart number name) = number < 2 ^ 64
HasSmallNumbers (FuncCount count name) = count < 2 ^ 128
HasSmallNumbers (Branch number block branch None) = (number < 2 ^ 64) × (block < 2 ^ 64) × (branch < 2 ^ 64)
HasSmallNumbers (Branch number block branch (Some taken)) = (number < 2 ^ 64) × (block < 2 ^ 64) × (branch < 2 ^ 64) × (taken < 2 ^ 128)
HasSmallNumbers (Line number count checksum) = (number < 2 ^ 64) × (count < 2 ^ 128)
HasSmallNumbers (Total kind value) = value < 2 ^ 64
HasSmallNumbers (Test name) = Unit {0}
HasSmallNumbers (Path path) = Unit {0}
HasSmallNumbers End = Unit {0}
HasSmallNumbers Skip = Unit {0}

-- the number of each fault, which stays the same in all versions
abbrev pub fault_number : LineFault → ℕ
fault_number BadLine = 1
fault_number NumberTooLarge = 2
fault_number EmptyPath = 3

abbrev pub fault_name : LineFault → List ℕ
fault_name BadLine = codes "BadLine"
fault_name NumberTooLarge = codes "NumberTooLarge"
fault_name EmptyPath = codes "EmptyPath"
