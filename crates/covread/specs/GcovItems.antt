-- What each line of gcov's annotated source gives. This depends on what the lines above it say, which is `above`.
use Rattle.std.specs.Prelude.{ℕ, Bool, true, false, ◌||◌, ◌&&◌, is_some, List, [], ◌∷◌, ◌++◌, Option, Some, None, map, if◌then◌else◌}
use Rattle.std.specs.Option.{option_or}
use Rattle.std.specs.List.{flat_map, list_any}
use Rattle.covdata.specs.Row.{ItemData, LineItem, FuncItem, BranchItem, SectData}
use Rattle.covdata.specs.declared.fault.ReadFault.{ReadFault}
use Rattle.covdata.specs.declared.fault.ReadFault.TheVariants as faults
use Rattle.covread.specs.Gcov.{GcovLine, Path, SourceLine, FuncCount, BranchCount, BlockNumber}

-- a line with the path of a source file
abbrev pub is_path : GcovLine → Bool
is_path (Path path) = true
is_path says = false

-- the number of a source line
abbrev pub source_number : GcovLine → Option ℕ
source_number (SourceLine line count) = Some line
source_number says = None

abbrev pub is_source : GcovLine → Bool
is_source says = is_some (source_number says)

abbrev pub block_number : GcovLine → Option ℕ
block_number (BlockNumber block) = Some block
block_number says = None

-- the name and the count of a function line
abbrev pub func_said : GcovLine → List (List ℕ × ℕ)
func_said (FuncCount name count) = (name, count) ∷ []
func_said says = []

-- the lines after the last one of which this holds; all lines if it holds of none
abbrev pub after_last : (GcovLine → Bool) → List GcovLine → List GcovLine
after_last so [] = []
after_last so (says ∷ more) = if list_any so more then after_last so more else (if so says then more else says ∷ more)

-- the last one of the numbers that the lines give; `None` if no line gives one
abbrev pub last_number : (GcovLine → Option ℕ) → List GcovLine → Option ℕ
last_number gives [] = None
last_number gives (says ∷ more) = option_or (last_number gives more) (gives says)

-- the function lines after the last source line and the last path: they wait for a source line
abbrev pub waiting : List GcovLine → List (List ℕ × ℕ)
waiting above = flat_map func_said (after_last (λ says. is_source says || is_path says) above)

-- the number of the nearest source line above
abbrev pub line_above : List GcovLine → Option ℕ
line_above above = last_number source_number above

abbrev pub or_zero : Option ℕ → ℕ
or_zero None = 0
or_zero (Some n) = n

-- the number in the last block line after that source line, 0 if there is no such block line
abbrev pub block_above : List GcovLine → ℕ
block_above above = or_zero (last_number block_number (after_last is_source above))

-- the item of a function that begins at this source line
abbrev pub func_item : ℕ → List ℕ × ℕ → ItemData
func_item line func = FuncItem func.0 line func.1

-- the item of a source line; no item if the line has no code
abbrev pub line_item : ℕ → Option ℕ → List ItemData
line_item line None = []
line_item line (Some count) = LineItem line count None ∷ []

-- the item of a branch of this source line; no item without a source line
abbrev pub branch_item : Option ℕ → ℕ → ℕ → Option ℕ → List ItemData
branch_item None block branch taken = []
branch_item (Some line) block branch taken = BranchItem line block branch taken ∷ []

-- the items that a line gives
abbrev pub items_given : List GcovLine → GcovLine → List ItemData
items_given above (SourceLine line count) = map (func_item line) (waiting above) ++ line_item line count
items_given above (BranchCount branch taken) = branch_item (line_above above) (block_above above) branch taken
items_given above says = []

-- the items that lines give up to the next path
abbrev pub items_until : List GcovLine → List GcovLine → List ItemData
items_until above [] = []
items_until above (says ∷ more) = if is_path says then [] else items_given above says ++ items_until (above ++ says ∷ []) more

-- the section of this test, with these items, that begins at a line: each path begins one, and other lines begin none
abbrev pub section_at : List ℕ → List ItemData → GcovLine → List SectData
section_at test items (Path path) = record { test = test; file = path; items = items } ∷ []
section_at test items says = []

-- the sections of the lines, in their order
abbrev pub sects_from : List ℕ → List GcovLine → List GcovLine → List SectData
sects_from test above [] = []
sects_from test above (says ∷ more) =
    section_at test (items_until (above ++ says ∷ []) more) says ++ sects_from test (above ++ says ∷ []) more

-- ---- what is wrong with a line's place

-- there is a path above
abbrev pub has_path : List GcovLine → Bool
has_path above = list_any is_path above

-- there is a path above, and a source line after the last path
abbrev pub has_line : List GcovLine → Bool
has_line above = has_path above && list_any is_source (after_last is_path above)

abbrev pub is_empty : {X : Type 0} → List X → Bool
is_empty [] = true
is_empty (x ∷ xs) = false

-- the fault of a line that says this, below lines that say `above`; `None` if it may be there. `at` is the line's number. At a
-- path, functions that wait are lost
abbrev pub place_fault : ℕ → List GcovLine → GcovLine → Option ReadFault
place_fault at above (Path []) = Some (faults.NoSource at)
place_fault at above (Path (b ∷ bs)) = if is_empty (waiting above) then None else Some faults.LostFunction
place_fault at above (SourceLine line count) = if has_path above then None else Some (faults.NoSource at)
place_fault at above (BranchCount branch taken) = if has_line above then None else Some (faults.Misplaced at)
place_fault at above says = None

-- a reader begins to keep something at this line: a path begins a section, and a function waits. Nothing is kept before the
-- first such line
abbrev pub begins_keeping : GcovLine → Bool
begins_keeping (Path path) = true
begins_keeping (FuncCount name count) = true
begins_keeping says = false
