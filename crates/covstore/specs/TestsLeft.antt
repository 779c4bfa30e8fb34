-- The tests that an iterator over the tests of a file has left, in one of three forms.
use Rattle.std.specs.Prelude.{ℕ, List, [], Vec}
use Rattle.covstore.specs.declared.test.Test.{Test}
use Rattle.covstore.specs.declared.named_tests.Left.{Left}
use Rattle.covstore.specs.declared.named_tests.Left.TheVariants.{None, One, Many}

abbrev pub tests_left : {A : Type 0} → Left A → List (Vec ℕ A × Test A)
tests_left None = []
tests_left (One only) = only.now.entries
tests_left (Many tests) = tests
