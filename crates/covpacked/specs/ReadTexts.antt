-- The test of the last section.
use Rattle.std.specs.Prelude.{◌≡◌, ℕ, List, [], ◌∷◌, ◌++◌}
use Rattle.covdata.specs.Row.{SectData}

-- the last of these sections is of this test
pub record IsLastTest (sects : List SectData) (test : List ℕ) : Type 0 where
  pub before : List SectData
  pub last : SectData
  pub parts : sects ≡ before ++ last ∷ []
  pub is : last.test ≡ test
