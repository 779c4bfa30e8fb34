-- What changes in a file's index when a test comes to hold the checksums of several items at once, and which lines have these
-- checksums.
use Rattle.std.specs.Prelude.{◌≡◌, ℕ, ◌≤◌, ◌^◌, true, Some, None, List, [], ◌∷◌, ◌++◌, Contains}
use Rattle.std.specs.List.{AllByRecursion, flat_map}
use Rattle.std.specs.List.Sorted.{IsStrictlySortedBy}
use Rattle.std.specs.Option.{IfSome, is_some}
use Rattle.std.specs.Ordering.{nat_cmp}
use Rattle.covdata.specs.Row.{ItemData, LineItem, FuncItem, BranchItem}
use Rattle.covmap.specs.Puts.{value_of}
use Rattle.covstore.specs.Checksums.{held_more}
use Rattle.covstore.specs.FileIndex.{FileIndexData}
use Rattle.covstore.specs.Items.{IsTextOf, KeepsTextsOf}
use Rattle.covstore.specs.PointIndexCounts.{is_above_at}
use Rattle.covstore.specs.Runs.{with_items}
use Rattle.covstore.specs.State.{has_checksum, holders_at}
use Rattle.covstore.specs.Sums.{TestData}

-- ---- the lines with a checksum

-- the line of which an item has a checksum
abbrev pub checked_line : ItemData → List ℕ
checked_line (LineItem line count (Some checksum)) = line ∷ []
checked_line (LineItem line count None) = []
checked_line (FuncItem name line count) = []
checked_line (BranchItem line block branch taken) = []

abbrev pub checked_lines : List ItemData → List ℕ
checked_lines items = flat_map checked_line items

-- the lines strictly ascend, and none is below `least`
pub record AscendFrom (least : ℕ) (lines : List ℕ) : Type 0 where
  pub above : AllByRecursion (λ line. least ≤ line) lines
  pub sorted : IsStrictlySortedBy nat_cmp lines

-- ---- one item

-- for each line, how many tests hold a checksum of it after this test holds the item's checksum
abbrev pub holders_with : ItemData → TestData → List (ℕ × ℕ) → List (ℕ × ℕ)
holders_with (LineItem line count (Some checksum)) test holders = held_more line (is_above_at has_checksum (value_of nat_cmp line test.lines)) holders
holders_with (LineItem line count None) test holders = holders
holders_with (FuncItem name line count) test holders = holders
holders_with (BranchItem line block branch taken) test holders = holders

-- for an item with a checksum: if the test already holds a checksum of the item's line, the index counts some test for this
-- line. The number of tests that the index counts for this line has room for one more
abbrev pub HasRoomToHold : ItemData → TestData → FileIndexData → Type 0
HasRoomToHold (LineItem line count (Some checksum)) test index =
    (is_above_at has_checksum (value_of nat_cmp line test.lines) ≡ true → is_some (value_of nat_cmp line index.holders) ≡ true)
    × IfSome (value_of nat_cmp line index.holders) (λ tests. tests ≤ 2 ^ 63)
HasRoomToHold (LineItem line count None) test index = Unit {0}
HasRoomToHold (FuncItem name line count) test index = Unit {0}
HasRoomToHold (BranchItem line block branch taken) test index = Unit {0}

-- the index afterwards: the test holds the item's checksum, and nothing else that the index counts or holds changes
pub record HoldsText (item : ItemData) (test : TestData) (before after : FileIndexData) : Type 0 where
  pub counts : after.counts ≡ before.counts
  pub holders : after.holders ≡ holders_with item test before.holders
  pub own : IsTextOf item after
  pub texts : KeepsTextsOf before after

-- ---- several items

-- one test changes from `before` to `after`. Whatever the other tests are: if `holders` counts for each line the tests that hold
-- a checksum of it before this change, `more` counts them after it
abbrev pub KeepsHolders : TestData → TestData → List (ℕ × ℕ) → List (ℕ × ℕ) → Type 0
KeepsHolders before after holders more =
    (front back : List TestData) → ((line : ℕ) → value_of nat_cmp line holders ≡ holders_at line (front ++ before ∷ back))
    → (line : ℕ) → value_of nat_cmp line more ≡ holders_at line (front ++ after ∷ back)

-- the index afterwards: the test holds the items' checksums, and nothing else that the index counts or holds changes
pub record HoldsTexts (items : List ItemData) (test : TestData) (before after : FileIndexData) : Type 0 where
  pub counts : after.counts ≡ before.counts
  pub holders : KeepsHolders test (with_items items test) before.holders after.holders
  pub own : (item : ItemData) → Contains items item → IsTextOf item after
  pub texts : KeepsTextsOf before after
