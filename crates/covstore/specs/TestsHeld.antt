-- The tests that a file holds in one of three forms.
use Rattle.std.specs.Prelude.{ℕ, List, [], Vec}
use Rattle.covstore.specs.declared.test.Test.{Test}
use Rattle.covstore.specs.declared.tests.Held.{Held}
use Rattle.covstore.specs.declared.tests.Held.TheVariants.{None, One, Many}

abbrev pub tests_held : {A : Type 0} → Held A → List (Vec ℕ A × Test A)
tests_held None = []
tests_held (One only) = only.entries
tests_held (Many tests) = tests.entries
