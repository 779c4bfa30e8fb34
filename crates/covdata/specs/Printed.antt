-- How a record is printed: its key, its fields with numbers in decimal without leading zeros, and a line feed.
use Rattle.std.specs.Prelude.{ℕ, List, [], ◌∷◌, ◌++◌, Option, Some, None, codes, decimal}
use Rattle.covdata.specs.Delimiters.{line_feed, comma}
use Rattle.covdata.specs.Lawful.{IsGoodTest, IsGoodName, IsChecksum}
use Rattle.covdata.specs.Records.{LineData, Test, Path, FuncStart, FuncCount, Branch, Line, Total, End, Skip, minus, key_of, HasSmallNumbers}

-- how often a branch was taken: `-` if there is no number
abbrev pub taken_text : Option ℕ → List ℕ
taken_text None = minus ∷ []
taken_text (Some taken) = decimal taken

-- what is printed after a line's count: a comma and the checksum, or nothing if the line has none
abbrev pub checksum_text : Option (List ℕ) → List ℕ
checksum_text None = []
checksum_text (Some checksum) = comma ∷ checksum

-- the printed line, without its line feed
abbrev pub line_text : LineData → List ℕ
line_text (Test name) = codes "TN:" ++ name
line_text (Path path) = codes "SF:" ++ path
line_text (FuncStart number name) = codes "FN:" ++ decimal number ++ comma ∷ name
line_text (FuncCount count name) = codes "FNDA:" ++ decimal count ++ comma ∷ name
line_text (Branch number block branch taken) =
    codes "BRDA:" ++ decimal number ++ comma ∷ (decimal block ++ comma ∷ (decimal branch ++ comma ∷ taken_text taken))
line_text (Line number count checksum) = codes "DA:" ++ decimal number ++ comma ∷ (decimal count ++ checksum_text checksum)
line_text (Total kind value) = key_of kind ++ decimal value
line_text End = codes "end_of_record"
line_text Skip = []

-- the printed record; nothing for a skipped line
abbrev pub printed : LineData → List ℕ
printed (Test name) = line_text (Test name) ++ line_feed ∷ []
printed (Path path) = line_text (Path path) ++ line_feed ∷ []
printed (FuncStart number name) = line_text (FuncStart number name) ++ line_feed ∷ []
printed (FuncCount count name) = line_text (FuncCount count name) ++ line_feed ∷ []
printed (Branch number block branch taken) = line_text (Branch number block branch taken) ++ line_feed ∷ []
printed (Line number count checksum) = line_text (Line number count checksum) ++ line_feed ∷ []
printed (Total kind value) = line_text (Total kind value) ++ line_feed ∷ []
printed End = line_text End ++ line_feed ∷ []
printed Skip = []

-- the texts of a record are lawful; a skipped line is never printed, so it has no lawful texts
abbrev pub HasLawfulTexts : LineData → Type 0
HasLawfulTexts (Test name) = IsGoodTest name
HasLawfulTexts (Path path) = IsGoodName path
HasLawfulTexts (FuncStart number name) = IsGoodName name
HasLawfulTexts (FuncCount count name) = IsGoodName name
HasLawfulTexts (Branch number block branch taken) = Unit {0}
HasLawfulTexts (Line number count None) = Unit {0}
HasLawfulTexts (Line number count (Some checksum)) = IsChecksum checksum
HasLawfulTexts (Total kind value) = Unit {0}
HasLawfulTexts End = Unit {0}
HasLawfulTexts Skip = ⊥

-- a record that reads back: its texts are lawful, its numbers small, and it isn't a skipped line
pub record IsReadable (says : LineData) : Type 0 where
  pub texts : HasLawfulTexts says
  pub small : HasSmallNumbers says
