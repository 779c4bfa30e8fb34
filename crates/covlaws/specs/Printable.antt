-- What a report may print, and the submission that it is read as.
use Rattle.std.specs.Prelude.{◌<◌, List, ◌++◌, length, map}
use Rattle.std.specs.Cmp.Lexicographic.{slice_cmp}
use Rattle.std.specs.List.{AllByRecursion}
use Rattle.std.specs.List.Sorted.{IsStrictlySortedBy}
use Rattle.std.specs.Ordering.{nat_cmp}
use Rattle.covdata.specs.Row.{ItemData, LineItem, FuncItem, BranchItem, SectData, SubmissionData, Row, rows_of}
use Rattle.covdata.specs.Lawful.{AllFit, FitsItem, IsGoodName, IsGoodTest, IsLawfulItem, IsLawfulSect}
use Rattle.covtable.specs.Clash.{Agree, checksums_in}
use Rattle.covtable.specs.Content.{FunctionValueData, BranchValueData, LineValueData, SectionData}
use Rattle.covtable.specs.Value.{branch_cmp, key_cmp}
use Rattle.covreport.specs.Report.{by_start}

-- ---- what a printed section is read as

-- the item of a function's `FN:` line, with the count 0
abbrev pub start_item : FunctionValueData → ItemData
start_item f = FuncItem f.name f.line 0

-- the item of a function's `FNDA:` line, with its count
abbrev pub call_item : FunctionValueData → ItemData
call_item f = FuncItem f.name f.line f.count

abbrev pub branch_item : BranchValueData → ItemData
branch_item b = BranchItem b.point.line b.point.block b.point.branch b.taken

abbrev pub line_item : LineValueData → ItemData
line_item l = LineItem l.line l.count l.checksum

-- the items of a printed section, in the order of its lines
abbrev pub items_shown : SectionData → List ItemData
items_shown s =
    map start_item (by_start s.functions) ++ (map call_item (by_start s.functions) ++ (map branch_item s.branches ++ map line_item s.lines))

abbrev pub sect_shown : SectionData → SectData
sect_shown s = record { test = s.key.test; file = s.key.file; items = items_shown s }

-- the submission that printed sections are read as. It has no odd lines
abbrev pub submission_shown : List SectionData → SubmissionData
submission_shown sections = record { sects = map sect_shown sections; odd = 0 }

-- ---- what a report may print

-- the section has each point once: its functions in ascending order of their names, its branches and its lines in ascending
-- order of their numbers
pub record HasPointsInOrder (s : SectionData) : Type 0 where
  pub functions : IsStrictlySortedBy (slice_cmp nat_cmp) (map (λ f. f.name) s.functions)
  pub branches : IsStrictlySortedBy branch_cmp (map (λ b. b.point) s.branches)
  pub lines : IsStrictlySortedBy nat_cmp (map (λ l. l.line) s.lines)

-- the section has a point, its points are in order, its names and checksums are lawful, and its numbers fit
pub record IsPrintableSection (s : SectionData) : Type 0 where
  pub order : HasPointsInOrder s
  pub some : 0 < length (items_shown s)
  pub lawful : IsLawfulSect (sect_shown s)
  pub fit : AllFit (items_shown s)

-- each section is printable, the sections are in ascending order with at most one for each file and test, and their checksums
-- agree
pub record IsPrintable (sections : List SectionData) : Type 0 where
  pub keys : IsStrictlySortedBy key_cmp (map (λ s. s.key) sections)
  pub each : AllByRecursion IsPrintableSection sections
  pub agree : Agree (checksums_in (rows_of (submission_shown sections)))

-- ---- lawful rows

-- the names and the checksum of a row are lawful, and its numbers fit
pub record IsLawfulRow (row : Row) : Type 0 where
  pub test : IsGoodTest row.test
  pub file : IsGoodName row.file
  pub item : IsLawfulItem row.item
  pub fits : FitsItem row.item
