-- The test of the last section.
use Rattle.std.proofs.Common.{◌≡◌, ℕ, List, [], ◌∷◌, ◌++◌, refl, sym, ap, ◌∙◌}
use Rattle.covdata.specs.Row.{SectData}
use Rattle.covpacked.specs.ReadTexts.{IsLastTest}
use Rattle.covpieces.specs.Pieces.{last_test}

last_of : (test : List ℕ) (before : List SectData) (last : SectData) → last_test test (before ++ last ∷ []) ≡ last.test
last_of test [] last = refl
last_of test (sect ∷ before) last = last_of sect.test before last

-- the test of the last section is the test after all sections
pub test_of_last : (sects : List SectData) (own test : List ℕ) → IsLastTest sects own → own ≡ last_test test sects
test_of_last sects own test is = sym (ap (last_test test) is.parts ∙ last_of test is.before is.last ∙ is.is)
