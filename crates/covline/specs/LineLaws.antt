-- What holds of the lines of each text.
use Rattle.std.specs.Prelude.{◌≡◌, ℕ, ◌≤◌, List, [], ◌∷◌, ◌++◌, length, replicate, All}
use Rattle.std.specs.List.{concat, flat_map, sum_by}
use Rattle.covdata.specs.Delimiters.{line_feed, carriage_return}
use Rattle.covline.specs.Lines.{pieces_of, strip, lines_of}
use Rattle.covdata.specs.Lawful.{IsGoodTest}
use Rattle.covdata.specs.Records.{LineData}
use Rattle.covline.specs.Spells.{Spells}
use Rattle.covdata.specs.Printed.{IsReadable, line_text, printed}

-- joined again, the pieces of a text make up the text
abbrev pub JoinedAgain : Type 0
JoinedAgain = (text : List ℕ) → concat (pieces_of text) ≡ text

-- a line has no line feed and doesn't end in a carriage return
abbrev pub GoodLines : Type 0
GoodLines = (text : List ℕ) → All IsGoodTest (lines_of text)

-- if a line has no line feed and doesn't end in a carriage return, the same is true of any end of it, such as the name after
-- a key
abbrev pub GoodRest : Type 0
GoodRest = (front rest : List ℕ) → IsGoodTest (front ++ rest) → IsGoodTest rest

-- a text has at most as many lines as bytes
abbrev pub FewLines : Type 0
FewLines = (text : List ℕ) → length (lines_of text) ≤ length text

-- together the lines of a text have at most as many bytes as the text
abbrev pub FewBytes : Type 0
FewBytes = (text : List ℕ) → sum_by length (lines_of text) ≤ length text

-- only carriage returns are taken off a line's end
abbrev pub OnlyReturnsOff : Type 0
OnlyReturnsOff = (text : List ℕ) → (n : ℕ) × (text ≡ strip text ++ replicate n carriage_return)

-- if a text follows one that ends in a line feed, the lines of both together are those of the first and then those of the second
abbrev pub OneAfterOther : Type 0
OneAfterOther = (front rest : List ℕ) → lines_of (front ++ line_feed ∷ rest) ≡ lines_of (front ++ line_feed ∷ []) ++ lines_of rest

-- if lines have no line feed and don't end in a carriage return, the text that has each of them with a line feed after it has
-- exactly these lines
abbrev pub MadeOfLines : Type 0
MadeOfLines = (lines : List (List ℕ)) → All IsGoodTest lines → lines_of (flat_map (λ line. line ++ line_feed ∷ []) lines) ≡ lines

-- a printed record is one line, and that line says the record
abbrev pub PrintedSpells : Type 0
PrintedSpells = (says : LineData) → IsReadable says → (lines_of (printed says) ≡ line_text says ∷ []) × Spells (line_text says) says
