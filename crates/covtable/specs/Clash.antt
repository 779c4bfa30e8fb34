-- When a submission clashes: one of its checksums differs from a held checksum of the same line of the same file, or from an
-- earlier checksum that the submission gives for this line. The tests of the rows don't matter. Rows without a checksum aren't
-- compared, so they never clash.
use Rattle.std.specs.Prelude.{◌≡◌, ℕ, Bool, true, false, ◌==◌, ◌&&◌, not, List, [], ◌∷◌, ◌++◌, Option, Some, None, Contains}
use Rattle.std.specs.Str.{bytes_eq}
use Rattle.std.specs.List.{flat_map, find}
use Rattle.covdata.specs.Row.{ItemData, LineItem, Row}

-- the checksum of a line of a file
pub record Checksum : Type 0 where
  pub file : List ℕ
  pub line : ℕ
  pub checksum : List ℕ

abbrev pub checksum_of : List ℕ → ItemData → List Checksum
checksum_of file (LineItem line count (Some checksum)) = record { file = file; line = line; checksum = checksum } ∷ []
checksum_of file item = []

abbrev pub checksum_of_row : Row → List Checksum
checksum_of_row row = checksum_of row.file row.item

-- the checksums of rows, in the order of the rows
abbrev pub checksums_in : List Row → List Checksum
checksums_in rows = flat_map checksum_of_row rows

-- these are different checksums of the same line of the same file
abbrev pub differs : Checksum → Checksum → Bool
differs a b = bytes_eq a.file b.file && a.line == b.line && not (bytes_eq a.checksum b.checksum)

-- no two of them differ
abbrev pub Agree : List Checksum → Type 0
Agree checksums = (a b : Checksum) → Contains checksums a → Contains checksums b → differs a b ≡ false

-- a clash: the file, the line, the held checksum and the given one
pub record ClashData : Type 0 where
  pub file : List ℕ
  pub line : ℕ
  pub held : List ℕ
  pub given : List ℕ

abbrev pub clash_with : Checksum → Checksum → ClashData
clash_with given held = record { file = given.file; line = given.line; held = held.checksum; given = given.checksum }

-- the clash of `given` with the held checksum that differs from it. If there is no such checksum, the clash of the checksums
-- that are given later
abbrev pub or_later : Checksum → Option Checksum → Option ClashData → Option ClashData
or_later given (Some held) later = Some (clash_with given held)
or_later given None later = later

-- the first given checksum that differs from a held one or from an earlier given one
abbrev pub first_clash : List Checksum → List Checksum → Option ClashData
first_clash held [] = None
first_clash held (given ∷ others) = or_later given (find (differs given) held) (first_clash (held ++ given ∷ []) others)

-- the first clash of a submission's rows, which are `given`, with a table's rows; `None` if there is no clash
abbrev pub clash_of : List Row → List Row → Option ClashData
clash_of rows given = first_clash (checksums_in rows) (checksums_in given)

-- the clash is that of the first given checksum that differs from a held one or from an earlier given one
pub record IsFirstClash (held given : List Checksum) (clash : ClashData) : Type 0 where
  pub before : List Checksum
  pub first : Checksum
  pub after : List Checksum
  pub other : Checksum
  pub place : given ≡ before ++ first ∷ after
  pub among : Contains (held ++ before) other
  pub differ : differs first other ≡ true
  pub none_before : Agree (held ++ before)
  pub told : clash ≡ clash_with first other
