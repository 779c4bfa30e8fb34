-- What one line of a tracefile says (geninfo(1) of LCOV 1.x, FILES). A key is at the very beginning of the line.
use Rattle.std.specs.Prelude.{◌≡◌, ◌≢◌, ℕ, ◌+◌, ◌-◌, ◌*◌, ◌<◌, ◌≤◌, ◌⊎◌, List, [], ◌∷◌, ◌++◌, length, Option, Some, None, All, codes, fold}
use Rattle.covdata.specs.declared.trace_line.LineFault.{LineFault}
use Rattle.covdata.specs.declared.trace_line.LineFault.TheVariants.{BadLine, NumberTooLarge, EmptyPath}
use Rattle.covdata.specs.Lawful.{IsChecksum}
use Rattle.covline.specs.Lines.{lines_of, IsFirstCut}
use Rattle.covdata.specs.Records.{LineData, Test, Path, FuncStart, FuncCount, Branch, Line, Total, End, Skip, minus, key_of, HasSmallNumbers}
use Rattle.covdata.specs.Delimiters.{comma}

-- text begins with front
abbrev pub Begins : List ℕ → List ℕ → Type 0
Begins text front = (rest : List ℕ) × (text ≡ front ++ rest)

-- the byte is one of 0 to 9
abbrev pub IsDigit : ℕ → Type 0
IsDigit b = (48 ≤ b) × (b ≤ 57)

-- the number that the digits say in decimal
abbrev pub digits_value : List ℕ → ℕ
digits_value digits = fold (λ n b. n * 10 + (b - 48)) 0 digits

-- one or more digits, and the number that they say
pub record IsNumeral (digits : List ℕ) (n : ℕ) : Type 0 where
  pub some : 0 < length digits
  pub each : All IsDigit digits
  pub value : n ≡ digits_value digits

-- an execution count: digits, or a minus and digits, which counts as 0
abbrev pub IsCount : List ℕ → ℕ → Type 0
IsCount text n = IsNumeral text n ⊎ ((digits : List ℕ) × (below : ℕ) × (text ≡ minus ∷ digits) × IsNumeral digits below × (n ≡ 0))

-- how often a branch was taken: digits, or `-` if its block was never executed
abbrev pub IsTaken : List ℕ → Option ℕ → Type 0
IsTaken text None = text ≡ codes "-"
IsTaken text (Some n) = IsNumeral text n

-- the twelve keys of LCOV 1.x
abbrev pub keys : List (List ℕ)
keys = codes "TN:" ∷ codes "SF:" ∷ codes "FN:" ∷ codes "FNDA:" ∷ codes "FNF:" ∷ codes "FNH:" ∷ codes "BRDA:" ∷ codes "BRF:" ∷ codes "BRH:" ∷ codes "DA:" ∷ codes "LF:" ∷ codes "LH:" ∷ []

-- the line begins with one of these
abbrev pub BeginsWithOneOf : List (List ℕ) → List ℕ → Type 0
BeginsWithOneOf [] line = ⊥
BeginsWithOneOf (key ∷ others) line = Begins line key ⊎ BeginsWithOneOf others line

abbrev pub HasKey : List ℕ → Type 0
HasKey line = BeginsWithOneOf keys line

-- the line has the form of this record, whatever the size of its numbers
abbrev pub HasForm : List ℕ → LineData → Type 0
HasForm line (Test name) = line ≡ codes "TN:" ++ name
HasForm line (Path path) = (line ≡ codes "SF:" ++ path) × (0 < length path)
HasForm line (FuncStart number name) =
    (digits : List ℕ) × (line ≡ codes "FN:" ++ digits ++ comma ∷ name) × IsNumeral digits number × (0 < length name)
HasForm line (FuncCount count name) =
    (text : List ℕ) × (line ≡ codes "FNDA:" ++ text ++ comma ∷ name) × IsCount text count × (0 < length name)
HasForm line (Branch number block branch taken) =
    (digits blocks branches text : List ℕ) × (line ≡ codes "BRDA:" ++ digits ++ comma ∷ (blocks ++ comma ∷ (branches ++ comma ∷ text)))
    × IsNumeral digits number × IsNumeral blocks block × IsNumeral branches branch × IsTaken text taken
HasForm line (Line number count None) =
    (digits text : List ℕ) × (line ≡ codes "DA:" ++ digits ++ comma ∷ text) × IsNumeral digits number × IsCount text count
HasForm line (Line number count (Some checksum)) =
    (digits text : List ℕ) × (line ≡ codes "DA:" ++ digits ++ comma ∷ (text ++ comma ∷ checksum))
    × IsNumeral digits number × IsCount text count × IsChecksum checksum
HasForm line (Total kind value) = (digits : List ℕ) × (line ≡ key_of kind ++ digits) × IsNumeral digits value
HasForm line End = Begins line (codes "end_of_record")
HasForm line Skip = ¬ HasKey line × ¬ Begins line (codes "end_of_record")

-- the line says this
pub record Spells (line : List ℕ) (says : LineData) : Type 0 where
  pub form : HasForm line says
  pub small : HasSmallNumbers says

-- the text's first line says `says`, and `rest` is the text after that line
pub record BeginsWithLine (text : List ℕ) (says : LineData) (rest : List ℕ) : Type 0 where
  pub line : List ℕ
  pub cut : lines_of text ≡ line ∷ lines_of rest
  pub front : IsFirstCut text line rest
  pub spells : Spells line says

-- the one fault of a line that spells no record
abbrev pub HasFault : List ℕ → LineFault → Type 0
HasFault line EmptyPath = line ≡ codes "SF:"
HasFault line NumberTooLarge = (says : LineData) × HasForm line says × ¬ HasSmallNumbers says
HasFault line BadLine = HasKey line × (line ≢ codes "SF:") × ((says : LineData) → ¬ HasForm line says)
