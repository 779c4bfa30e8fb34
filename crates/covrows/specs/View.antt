-- The table of the code, its plans and its iterators, seen as rows and as what the rows add up to.
use Rattle.std.specs.Prelude.{◌≡◌, ℕ, ◌<◌, ◌≤◌, List, ◌++◌, length, Option, Some, None, map, option_map}
use Rattle.std.specs.Cmp.Lexicographic.{slice_cmp}
use Rattle.std.specs.Ordering.{nat_cmp}
use Rattle.std.specs.declared.vec.Vec.{Vec}
use Rattle.covdata.specs.Lawful.{max_items}
use Rattle.covdata.specs.PointView.{branch_point_data}
use Rattle.covdata.specs.Points.{line_points, func_points, branch_points}
use Rattle.covdata.specs.Row.{ItemData, SubmissionData, rows_of}
use Rattle.covdata.specs.Row as plain
use Rattle.covtable.specs.Clash.{Agree, ClashData, checksums_in, clash_of}
use Rattle.covtable.specs.Content.{FunctionValueData, BranchValueData, LineValueData, SectionData, function_at, branch_at, line_at, section_of, content_of}
use Rattle.covtable.specs.Files.{FileTotalsData, file_with_totals}
use Rattle.covtable.specs.Refuse.{RefuseData, ClashRefuse, MemoryRefuse}
use Rattle.covtable.specs.Renamed.{renamed_row}
use Rattle.covtable.specs.Shown.{ShownData, max_members}
use Rattle.covtable.specs.Value.{key_cmp, key_of_row, items_at, branch_cmp}
use Rattle.covrows.specs.Above.{left_above}
use Rattle.covrows.specs.Data.{key_data, row_data}
use Rattle.covrows.specs.declared.content.Branches.{Branches}
use Rattle.covrows.specs.declared.content.Functions.{Functions}
use Rattle.covrows.specs.declared.content.Lines.{Lines}
use Rattle.covrows.specs.declared.content.Section.{Section}
use Rattle.covrows.specs.declared.content.Sections.{Sections}
use Rattle.covrows.specs.declared.files.Files.{Files}
use Rattle.covrows.specs.declared.row.Row.{Row}
use Rattle.covrows.specs.declared.rows.Plan.{Plan}
use Rattle.covrows.specs.declared.rows.Renaming.{Renaming}
use Rattle.covrows.specs.declared.rows.Rows.{Rows}

-- ---- the table

-- the rows of a table
abbrev pub rows_in : {A : Type 0} → Rows A → List plain.Row
rows_in table = map row_data table.rows.items

abbrev pub shown_of : {A : Type 0} → Rows A → ShownData
shown_of table = record { sections = content_of (rows_in table); members = table.members }

-- the rows after a step, which are those before it if the step has none of its own
abbrev pub rows_after : {A : Type 0} → Option (Vec (Row A) A) → List plain.Row → List plain.Row
rows_after None rows = rows
rows_after (Some after) rows = map row_data after.items

-- the plan has the rows of the table and those of the submission, whose checksums agree
pub record IsPlanOf {A : Type 0} (table : Rows A) (s : SubmissionData) (plan : Plan A) : Type 0 where
  pub members : table.members < max_members
  pub rows : rows_after plan.rows (rows_in table) ≡ rows_in table ++ rows_of s
  pub small : length (rows_of s) ≤ max_items
  pub agree : Agree (checksums_in (rows_in table ++ rows_of s))

-- the renaming has the renamed rows of the table
abbrev pub IsRenamingOf : {A : Type 0} → Rows A → List ℕ → List ℕ → Renaming A → Type 0
IsRenamingOf table old new renaming = rows_after renaming.rows (rows_in table) ≡ map (renamed_row old new) (rows_in table)

-- the refusal is this clash, or says that an allocation failed
abbrev pub IsClashOrMemory : ClashData → RefuseData → Type 0
IsClashOrMemory clash (ClashRefuse told) = told ≡ clash
IsClashOrMemory clash MemoryRefuse = Unit {0}

-- if the refusal is a clash, it is the first clash of the submission with these rows
abbrev pub IsRefusedBy : List plain.Row → SubmissionData → RefuseData → Type 0
IsRefusedBy rows s (ClashRefuse clash) = clash_of rows (rows_of s) ≡ Some clash
IsRefusedBy rows s MemoryRefuse = Unit {0}

-- ---- iterators

abbrev pub files_left : {A : Type 0} → Files A → List FileTotalsData
files_left files =
    let rows = map row_data files.rows.now in
    map (file_with_totals (content_of rows)) (left_above (slice_cmp nat_cmp) (option_map (λ file. file.now) files.last) (map (λ row. row.file) rows))

abbrev pub sections_left : {A : Type 0} → Sections A → List SectionData
sections_left sections =
    let rows = map row_data sections.rows.now in
    map (section_of rows) (left_above key_cmp (option_map key_data sections.last) (map key_of_row rows))

abbrev pub section_shown : {A : Type 0} → Section A → SectionData
section_shown section = section_of (map row_data section.rows.now) (key_data section.key)

abbrev pub functions_left : {A : Type 0} → Functions A → List FunctionValueData
functions_left f =
    let items = items_at (key_data f.key) (map row_data f.rows.now) in
    map (function_at items) (left_above (slice_cmp nat_cmp) (option_map (λ name. name.now) f.last) (func_points items))

abbrev pub branches_left : {A : Type 0} → Branches A → List BranchValueData
branches_left b =
    let items = items_at (key_data b.key) (map row_data b.rows.now) in
    map (branch_at items) (left_above branch_cmp (option_map branch_point_data b.last) (branch_points items))

abbrev pub lines_left : {A : Type 0} → Lines A → List LineValueData
lines_left l =
    let items = items_at (key_data l.key) (map row_data l.rows.now) in
    map (line_at items) (left_above nat_cmp l.last (line_points items))
