-- The lines and the branches of a section, by line.
use Rattle.std.specs.Prelude.{◌≡◌, ⊤, ℕ, ◌+◌, ◌≤◌, Bool, ◌==◌, nat_lt, if◌then◌else◌, Option, Some, None, List, [], ◌∷◌, ◌++◌, flat_map}
use Rattle.std.specs.List.{AllByRecursion}
use Rattle.covtable.specs.Content.{BranchValueData, LineValueData}
use Rattle.covhtml.specs.Rows.{RowData}

-- the elements up to the first one that doesn't pass, and the other elements
abbrev pub front : {X : Type 0} → (X → Bool) → List X → List X
front passes [] = []
front passes (x ∷ xs) = if passes x then x ∷ front passes xs else []

abbrev pub behind : {X : Type 0} → (X → Bool) → List X → List X
behind passes [] = []
behind passes (x ∷ xs) = if passes x then behind passes xs else x ∷ xs

-- the branch is of an earlier line than this one, or of this line
abbrev pub is_before : ℕ → BranchValueData → Bool
is_before line b = nat_lt b.point.line line

abbrev pub is_of : ℕ → BranchValueData → Bool
is_of line b = b.point.line == line

-- a row of a line that has only branches
abbrev pub branch_row : (line : ℕ) → List BranchValueData → RowData
branch_row line branches = record { number = line; count = None; branches = branches }

-- puts a branch into the first row if that is the row of its line, and otherwise into a row before it
abbrev pub onto_rows : BranchValueData → List RowData → List RowData
onto_rows b [] = branch_row b.point.line (b ∷ []) ∷ []
onto_rows b (row ∷ rows) =
    if is_of row.number b then record row { branches = b ∷ row.branches } ∷ rows else branch_row b.point.line (b ∷ []) ∷ row ∷ rows

-- a row for each line that has some of these branches
abbrev pub branch_rows : List BranchValueData → List RowData
branch_rows [] = []
branch_rows (b ∷ branches) = onto_rows b (branch_rows branches)

-- the branches from this line on, and those after it
abbrev pub branches_from : (line : ℕ) → List BranchValueData → List BranchValueData
branches_from line branches = behind (is_before line) branches

abbrev pub branches_after : (line : ℕ) → List BranchValueData → List BranchValueData
branches_after line branches = behind (is_of line) (branches_from line branches)

-- the row of a line with its branches, behind the rows of earlier lines that have only branches
abbrev pub line_rows : LineValueData → List BranchValueData → List RowData
line_rows l branches =
    branch_rows (front (is_before l.line) branches)
    ++ record { number = l.line; count = Some l.count; branches = front (is_of l.line) (branches_from l.line branches) } ∷ []

-- the rows of a section. Its lines and its branches both ascend by line
abbrev pub section_rows : List LineValueData → List BranchValueData → List RowData
section_rows [] branches = branch_rows branches
section_rows (l ∷ lines) branches = line_rows l branches ++ section_rows lines (branches_after l.line branches)

-- ---- what rows tell of a section

-- a line's number and its count
abbrev pub line_count : LineValueData → ℕ × ℕ
line_count l = (l.line, l.count)

-- the same of a row, if it has a count
abbrev pub counted_line : (line : ℕ) → Option ℕ → List (ℕ × ℕ)
counted_line line None = []
counted_line line (Some count) = (line, count) ∷ []

-- the lines that have a count, each with it
abbrev pub counts_in : List RowData → List (ℕ × ℕ)
counts_in rows = flat_map (λ row. counted_line row.number row.count) rows

abbrev pub branches_in : List RowData → List BranchValueData
branches_in rows = flat_map (λ row. row.branches) rows

-- each branch of a row is of the row's line
abbrev pub HasOwnBranches : RowData → Type 0
HasOwnBranches row = AllByRecursion (λ b. b.point.line ≡ row.number) row.branches

-- the numbers rise from `least` on, or at least never fall
abbrev pub Rises : (least : ℕ) → List ℕ → Type 0
Rises least [] = ⊤
Rises least (n ∷ numbers) = (least ≤ n) × Rises (n + 1) numbers

abbrev pub NeverFalls : (least : ℕ) → List ℕ → Type 0
NeverFalls least [] = ⊤
NeverFalls least (n ∷ numbers) = (least ≤ n) × NeverFalls n numbers
