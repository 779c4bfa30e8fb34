-- The counted lines of a tracefile.
use Rattle.std.specs.Prelude.{◌≡◌, ℕ, List, []}
use Rattle.std.specs.List.{flat_map}
use Rattle.covdata.specs.Records.{LineData, Test, Path, FuncStart, FuncCount, Branch, Line, Total, End, Skip}
use Rattle.covdata.specs.Printed.{printed}
use Rattle.covread.specs.Reads.{AllSpell}

-- what is printed for a record: its line if it counts a line (`DA:`), and else nothing
abbrev pub if_counted : LineData → List ℕ
if_counted (Line number count checksum) = printed (Line number count checksum)
if_counted (Test name) = []
if_counted (Path path) = []
if_counted (FuncStart number name) = []
if_counted (FuncCount count name) = []
if_counted (Branch number block branch taken) = []
if_counted (Total kind value) = []
if_counted End = []
if_counted Skip = []

-- each line says a record, and the text is what is printed for these records, in order
abbrev pub AreCounted : List (List ℕ) → List ℕ → Type 0
AreCounted lines text = (records : List LineData) × AllSpell lines records × (text ≡ flat_map if_counted records)
