-- What one line of a tracefile of LCOV 2 says (geninfo(1) of LCOV 2.x, TRACEFILE FORMAT), before the lines above it are looked
-- at. Lines with the keys `FN:`, `FNL:`, `FNA:` and `BRDA:` are read otherwise than in version 1, all others as there.
use Rattle.std.specs.Prelude.{◌≡◌, ◌≢◌, ℕ, ◌<◌, ◌^◌, ◌⊎◌, ◌==◌, ◌||◌, Bool, List, [], ◌∷◌, ◌++◌, length, Option, Some, None, All, IsTrue, codes}
use Rattle.std.specs.List.{list_any}
use Rattle.covdata.specs.declared.trace_line.LineFault.{LineFault}
use Rattle.covdata.specs.declared.trace_line.LineFault.TheVariants.{BadLine, NumberTooLarge, EmptyPath}
use Rattle.covdata.specs.Records.{LineData, FuncStart, Branch, Skip, line_data, HasSmallNumbers}
use Rattle.covdata.specs.Delimiters.{comma}
use Rattle.covline.specs.Spells.{Begins, BeginsWithOneOf, keys, IsNumeral, IsCount, IsTaken, HasForm}
use Rattle.covlcov2.specs.declared.line.Lcov2Line.{Lcov2Line}
use Rattle.covlcov2.specs.declared.line.Lcov2Line.TheVariants as lines

-- what a line says: a record of version 1 that isn't a branch; the start line of all functions with this index; the count of the
-- function of this name, which has this index; or how often a branch was taken. A branch has a number, or an expression in its place
-- (`None`). An excluded branch doesn't belong to the coverage
pub data Lcov2Data : Type 0 where
  Plain : (says : LineData) → Lcov2Data
  Leader : (index line : ℕ) → Lcov2Data
  Alias : (index count : ℕ) (name : List ℕ) → Lcov2Data
  Edge : (is_excluded : Bool) (line block : ℕ) (number taken : Option ℕ) → Lcov2Data

abbrev pub lcov2_data : Lcov2Line → Lcov2Data
lcov2_data (lines.Plain says) = Plain (line_data says)
lcov2_data (lines.Leader index line) = Leader index line
lcov2_data (lines.Alias index count name) = Alias index count name.now
lcov2_data (lines.Edge is_excluded line block number taken) = Edge is_excluded line block number taken

-- the line has a key of version 1, or one of the two that LCOV 2 added
abbrev pub HasLcov2Key : List ℕ → Type 0
HasLcov2Key line = BeginsWithOneOf (codes "FNL:" ∷ codes "FNA:" ∷ keys) line

-- the text is the digits of an end line, a comma and this name, which isn't empty
abbrev pub IsEndAndName : List ℕ → List ℕ → Type 0
IsEndAndName text name = (digits : List ℕ) × (end : ℕ) × (text ≡ digits ++ comma ∷ name) × IsNumeral digits end × (0 < length name)

-- the name in the text after a start line: what follows the end line, if there is one, else the whole text
abbrev pub IsNameIn : List ℕ → List ℕ → Type 0
IsNameIn text name = IsEndAndName text name ⊎ ((text ≡ name) × (0 < length name) × ((other : List ℕ) → ¬ IsEndAndName text other))

-- nothing, or a comma and the digits of an end line
abbrev pub IsEnd : List ℕ → Type 0
IsEnd [] = Unit {0}
IsEnd (b ∷ bs) = (end : ℕ) × (b ≡ comma) × IsNumeral bs end

-- the mark `U`: the branch is excluded from coverage
abbrev pub is_exclusion : ℕ → Bool
is_exclusion b = b == 85

-- a mark before a block: `e` (of an exception), `f` (falls through) or `U`
abbrev pub is_mark : ℕ → Bool
is_mark b = b == 101 || (b == 102 || is_exclusion b)

abbrev pub IsMark : ℕ → Type 0
IsMark b = IsTrue (is_mark b)

-- the digits of a branch's number, or an expression: one or more bytes that aren't all digits. It may have commas
abbrev pub IsBranchName : List ℕ → Option ℕ → Type 0
IsBranchName words None = (0 < length words) × ((n : ℕ) → ¬ IsNumeral words n)
IsBranchName words (Some number) = IsNumeral words number

-- the line is `BRDA:`, a source line, marks and a block, the branch's number or expression, and how often it was taken. The last
-- comma ends the expression
pub record IsEdgeLine (line : List ℕ) (is_excluded : Bool) (number block : ℕ) (branch taken : Option ℕ) : Type 0 where
  pub digits : List ℕ
  pub marks : List ℕ
  pub blocks : List ℕ
  pub words : List ℕ
  pub text : List ℕ
  pub parts : line ≡ codes "BRDA:" ++ (digits ++ comma ∷ (marks ++ (blocks ++ comma ∷ (words ++ comma ∷ text))))
  pub number_is : IsNumeral digits number
  pub each : All IsMark marks
  pub excluded_is : is_excluded ≡ list_any is_exclusion marks
  pub block_is : IsNumeral blocks block
  pub branch_is : IsBranchName words branch
  pub taken_is : IsTaken text taken

-- the line has the form of this record, whatever the size of its numbers
abbrev pub HasLcov2Form : List ℕ → Lcov2Data → Type 0
HasLcov2Form line (Plain (FuncStart number name)) =
    (digits rest : List ℕ) × (line ≡ codes "FN:" ++ digits ++ comma ∷ rest) × IsNumeral digits number × IsNameIn rest name
HasLcov2Form line (Plain Skip) = HasForm line Skip × ¬ Begins line (codes "FNL:") × ¬ Begins line (codes "FNA:")
HasLcov2Form line (Plain (Branch number block branch taken)) = ⊥
HasLcov2Form line (Plain says) = HasForm line says
HasLcov2Form line (Leader index number) =
    (digits numbers end : List ℕ) × (line ≡ codes "FNL:" ++ digits ++ comma ∷ (numbers ++ end))
    × IsNumeral digits index × IsNumeral numbers number × IsEnd end
HasLcov2Form line (Alias index count name) =
    (digits text : List ℕ) × (line ≡ codes "FNA:" ++ digits ++ comma ∷ (text ++ comma ∷ name))
    × IsNumeral digits index × IsCount text count × (0 < length name)
HasLcov2Form line (Edge is_excluded number block branch taken) = IsEdgeLine line is_excluded number block branch taken

-- the number, if there is one, is below this limit
abbrev pub IsBelow : ℕ → Option ℕ → Type 0
IsBelow limit None = Unit {0}
IsBelow limit (Some n) = n < limit

-- the numbers of a record are small: its counts are below 2^128, all others below 2^64. The number of an end line has no limit,
-- since nothing depends on it
abbrev pub HasSmallLcov2Numbers : Lcov2Data → Type 0
HasSmallLcov2Numbers (Plain says) = HasSmallNumbers says
HasSmallLcov2Numbers (Leader index number) = (index < 2 ^ 64) × (number < 2 ^ 64)
HasSmallLcov2Numbers (Alias index count name) = (index < 2 ^ 64) × (count < 2 ^ 128)
HasSmallLcov2Numbers (Edge is_excluded number block branch taken) =
    (number < 2 ^ 64) × (block < 2 ^ 64) × IsBelow (2 ^ 64) branch × IsBelow (2 ^ 128) taken

-- the line says this
pub record Lcov2Spells (line : List ℕ) (says : Lcov2Data) : Type 0 where
  pub form : HasLcov2Form line says
  pub small : HasSmallLcov2Numbers says

-- the one fault of a line that says nothing of these
abbrev pub HasLcov2Fault : List ℕ → LineFault → Type 0
HasLcov2Fault line EmptyPath = line ≡ codes "SF:"
HasLcov2Fault line NumberTooLarge = (says : Lcov2Data) × HasLcov2Form line says × ¬ HasSmallLcov2Numbers says
HasLcov2Fault line BadLine = HasLcov2Key line × (line ≢ codes "SF:") × ((says : Lcov2Data) → ¬ HasLcov2Form line says)
