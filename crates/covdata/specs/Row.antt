-- What an item, a section and a submission say, apart from where they lie in memory, and the rows of a submission.
use Rattle.std.specs.Prelude.{ℕ, List, Option, length, map}
use Rattle.std.specs.List.{flat_map, sum_by}
use Rattle.covdata.specs.declared.item.Item.{Item}
use Rattle.covdata.specs.declared.item.Item.TheVariants as items

-- one count of a source file (geninfo(1), FILES): of an instrumented line, with the checksum of its text if there is
-- one (DA); of a function with its start line (FN, FNDA); of a branch, `None` if its block was never executed (BRDA)
pub data ItemData : Type 0 where
  LineItem : (line count : ℕ) (checksum : Option (List ℕ)) → ItemData
  FuncItem : (name : List ℕ) (line count : ℕ) → ItemData
  BranchItem : (line block branch : ℕ) (taken : Option ℕ) → ItemData

-- what one test says about one source file
pub record SectData : Type 0 where
  pub test : List ℕ
  pub file : List ℕ
  pub items : List ItemData

-- what one text says: its sections, and how many of its lines are odd
pub record SubmissionData : Type 0 where
  pub sects : List SectData
  pub odd : ℕ

-- an item with its test and its file
pub record Row : Type 0 where
  pub test : List ℕ
  pub file : List ℕ
  pub item : ItemData

-- the `Item` of the Rattle code, as plain data
abbrev pub item_data : {A : Type 0} → Item A → ItemData
item_data (items.Line line count checksum) = LineItem line count checksum
item_data (items.Func name line count) = FuncItem name line count
item_data (items.Branch line block branch taken) = BranchItem line block branch taken

-- a function's item with this start line in place of its own; an item of another kind is unchanged
abbrev pub with_start : ℕ → ItemData → ItemData
with_start line (FuncItem name start count) = FuncItem name line count
with_start line (LineItem number count checksum) = LineItem number count checksum
with_start line (BranchItem number block branch taken) = BranchItem number block branch taken

-- the rows of a section and of a submission: the items in order, each with its section's test and file
abbrev pub rows_of_sect : SectData → List Row
rows_of_sect s = map (λ i. record { test = s.test; file = s.file; item = i }) s.items

abbrev pub rows_of : SubmissionData → List Row
rows_of s = flat_map rows_of_sect s.sects

-- how many items the sections have in all
abbrev pub items_in : List SectData → ℕ
items_in sects = sum_by (λ s. length s.items) sects
