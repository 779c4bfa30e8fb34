-- Closed sections of which one got another name.
use Rattle.std.specs.Prelude.{ℕ, zero, suc, List, [], ◌∷◌}
use Rattle.covdata.specs.Row.{SectData}

-- these sections, of which the one at this index got this source file
abbrev pub file_set : (index : ℕ) → (file : List ℕ) → List SectData → List SectData
file_set index file [] = []
file_set zero file (s ∷ sects) = record s { file = file } ∷ sects
file_set (suc index) file (s ∷ sects) = s ∷ file_set index file sects

-- and this test
abbrev pub test_set : (index : ℕ) → (test : List ℕ) → List SectData → List SectData
test_set index test [] = []
test_set zero test (s ∷ sects) = record s { test = test } ∷ sects
test_set (suc index) test (s ∷ sects) = s ∷ test_set index test sects
