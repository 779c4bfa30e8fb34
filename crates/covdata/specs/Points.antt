-- What items count: lines, functions and branches of a source file.
use Rattle.std.specs.Prelude.{ℕ, Bool, false, nat_lt, min, List, [], ◌∷◌, Option, Some, None}
use Rattle.std.specs.List.{flat_map, reduce}
use Rattle.covdata.specs.Row.{ItemData, LineItem, FuncItem, BranchItem}

-- a branch: its line, its block and its number in the block (geninfo(1), FILES: BRDA)
pub record BranchPoint : Type 0 where
  pub line : ℕ
  pub block : ℕ
  pub branch : ℕ

-- the line that the item counts; the empty list for an item of another kind
abbrev pub line_point : ItemData → List ℕ
line_point (LineItem line count checksum) = line ∷ []
line_point (FuncItem name line count) = []
line_point (BranchItem line block branch taken) = []

-- the name of the function that the item counts; the empty list for an item of another kind
abbrev pub func_point : ItemData → List (List ℕ)
func_point (FuncItem name line count) = name ∷ []
func_point (LineItem line count checksum) = []
func_point (BranchItem line block branch taken) = []

-- the branch that the item counts; the empty list for an item of another kind
abbrev pub branch_point : ItemData → List BranchPoint
branch_point (BranchItem line block branch taken) = record { line = line; block = block; branch = branch } ∷ []
branch_point (LineItem line count checksum) = []
branch_point (FuncItem name line count) = []

-- the lines, functions and branches that items count, each as often as there are items of it
abbrev pub line_points : List ItemData → List ℕ
line_points items = flat_map line_point items

abbrev pub func_points : List ItemData → List (List ℕ)
func_points items = flat_map func_point items

abbrev pub branch_points : List ItemData → List BranchPoint
branch_points items = flat_map branch_point items

-- whether the item's count is above 0; false for a branch whose block was never executed
abbrev pub is_hit : ItemData → Bool
is_hit (LineItem line count checksum) = nat_lt 0 count
is_hit (FuncItem name line count) = nat_lt 0 count
is_hit (BranchItem line block branch None) = false
is_hit (BranchItem line block branch (Some taken)) = nat_lt 0 taken

-- the least of the numbers, or `None` if there are none
abbrev pub least : List ℕ → Option ℕ
least numbers = reduce min numbers
