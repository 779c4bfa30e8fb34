-- Files after a test is dropped.
use Rattle.std.specs.Prelude.{◌≡◌, ℕ, not, List, [], ◌∷◌, filter}
use Rattle.std.specs.Str.{bytes_eq}
use Rattle.covstore.specs.State.{FileData, IsConsistentFile}
use Rattle.covstore.specs.Sums.{TestData}

abbrev pub tests_without : List ℕ → List (List ℕ × TestData) → List (List ℕ × TestData)
tests_without test tests = filter (λ pair. not (bytes_eq pair.0 test)) tests

-- a file before and after the test is dropped. The other tests stay, and the index counts only them. The index keeps all
-- checksums, even those that no test holds any more
pub record IsWithoutTest (test : List ℕ) (before after : FileData) : Type 0 where
  pub tests : after.tests ≡ tests_without test before.tests
  pub texts : after.index.texts ≡ before.index.texts
  pub whole : IsConsistentFile after

-- the second list has the same files as the first one, each without the test
abbrev pub AreWithoutTest : List ℕ → List (List ℕ × FileData) → List (List ℕ × FileData) → Type 0
AreWithoutTest test [] [] = Unit {0}
AreWithoutTest test [] (later ∷ laters) = ⊥
AreWithoutTest test (pair ∷ pairs) [] = ⊥
AreWithoutTest test (pair ∷ pairs) (later ∷ laters) = (later.0 ≡ pair.0) × IsWithoutTest test pair.1 later.1 × AreWithoutTest test pairs laters
