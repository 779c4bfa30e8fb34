-- What the tests of a file are after one of them was lent.
use Rattle.std.specs.Prelude.{◌≡◌, ℕ, List, Option}
use Rattle.std.specs.BTreeMap.{is_at}
use Rattle.std.specs.Borrow.{LendsSo, Fml, RattleType, MutBor}
use Rattle.std.specs.Cmp.Lexicographic.{slice_cmp}
use Rattle.std.specs.Map.{set_value}
use Rattle.std.specs.Ordering.{nat_cmp}
use Rattle.std.specs.declared.alloc.Allocator.{Ghosts}
use Rattle.covstore.specs.FileParts.{FileTests}
use Rattle.covstore.specs.declared.test.Test.{Test}
use Rattle.covstore.specs.contracts.boxed.Boxed as Boxed
use Rattle.covstore.specs.contracts.test.Test as TestRow
use Rattle.covstore.specs.contracts.only_test.OnlyTest as OnlyTest
use Rattle.covstore.specs.contracts.tests.Tests as Tests

-- after the last value was written to the test of this name, or nothing if there is none
abbrev pub WritesTest : {A : Type 0} → List ℕ → FileTests A → FileTests A → Test A → Type 0
WritesTest name before after points = after.entries ≡ set_value (is_at (λ other. slice_cmp nat_cmp name other.items)) before.entries points

-- the test of this name has the last value that was written through r. If r is `None`, nothing changed
abbrev pub lends_only : (A : RattleType) → (a : Ghosts A.Denot) → MutBor (FileTests A.Denot) → List ℕ → Option (MutBor (Test A.Denot)) → Fml
lends_only A a only name r = LendsSo (OnlyTest.the_row A a) (Boxed.the_row (TestRow.the_row A a) A a) only r (WritesTest name only.now) (λ n. n ≡ only.now)

abbrev pub lends_test : (A : RattleType) → (a : Ghosts A.Denot) → MutBor (FileTests A.Denot) → List ℕ → Option (MutBor (Test A.Denot)) → Fml
lends_test A a tests name r = LendsSo (Tests.the_row A a) (Boxed.the_row (TestRow.the_row A a) A a) tests r (WritesTest name tests.now) (λ n. n ≡ tests.now)
