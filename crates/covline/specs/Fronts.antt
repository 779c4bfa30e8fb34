-- First lines of texts that are read without being cut. They are `DA:` and `BRDA:` lines that end in a line feed. Their numbers
-- are digits alone and below 2^64; the last field of a `BRDA:` line may also be `-`.
use Rattle.std.specs.Prelude.{◌≡◌, ℕ, ◌<◌, ◌^◌, ◌==◌, if◌then◌else◌, List, [], ◌∷◌, ◌++◌, Option, Some, None, codes, option_map}
use Rattle.std.specs.Option.{option_and_then}
use Rattle.covline.specs.declared.reader.Number.{Number}
use Rattle.covline.specs.declared.reader.Number.TheVariants.{Value, U128, TooLarge}
use Rattle.covdata.specs.Lawful.{IsChecksum}
use Rattle.covdata.specs.Delimiters.{line_feed, comma}
use Rattle.covdata.specs.Points.{BranchPoint}
use Rattle.covdata.specs.Records.{minus}
use Rattle.covline.specs.Spells.{IsNumeral, IsTaken}
use Rattle.covline.specs.Reading.{after_key, field_at, is_checksum_byte, number_at}

-- the text after a line's count: a line feed, or a comma, this checksum and a line feed; `rest` follows the line feed
abbrev pub EndsCount : List ℕ → Option (List ℕ) → List ℕ → Type 0
EndsCount text None rest = text ≡ line_feed ∷ rest
EndsCount text (Some checksum) rest = (text ≡ comma ∷ (checksum ++ line_feed ∷ rest)) × IsChecksum checksum

-- the text begins with `DA:`, the digits of these two numbers, this checksum if there is one, and a line feed; `rest` follows
-- the line feed
pub record BeginsWithCountedLine (text : List ℕ) (line count : ℕ) (checksum : Option (List ℕ)) (rest : List ℕ) : Type 0 where
  pub digits : List ℕ
  pub counts : List ℕ
  pub end : List ℕ
  pub parts : text ≡ codes "DA:" ++ (digits ++ comma ∷ (counts ++ end))
  pub line_is : IsNumeral digits line
  pub count_is : IsNumeral counts count
  pub end_is : EndsCount end checksum rest
  pub line_small : line < 2 ^ 64
  pub count_small : count < 2 ^ 64

-- the number, if there is one, is below 2^64
abbrev pub IsSmallIfAny : Option ℕ → Type 0
IsSmallIfAny None = Unit {0}
IsSmallIfAny (Some n) = n < 2 ^ 64

-- the text begins with `BRDA:`, the digits of these four numbers (or `-` for the last one), and a line feed; `rest` follows the
-- line feed
pub record BeginsWithBranchLine (text : List ℕ) (point : BranchPoint) (taken : Option ℕ) (rest : List ℕ) : Type 0 where
  pub digits : List ℕ
  pub blocks : List ℕ
  pub branches : List ℕ
  pub word : List ℕ
  pub parts : text ≡ codes "BRDA:" ++ (digits ++ comma ∷ (blocks ++ comma ∷ (branches ++ comma ∷ (word ++ line_feed ∷ rest))))
  pub line_is : IsNumeral digits point.line
  pub block_is : IsNumeral blocks point.block
  pub branch_is : IsNumeral branches point.branch
  pub taken_is : IsTaken word taken
  pub line_small : point.line < 2 ^ 64
  pub block_small : point.block < 2 ^ 64
  pub branch_small : point.branch < 2 ^ 64
  pub taken_small : IsSmallIfAny taken

-- ---- how they are read: from left to right

-- the number, if it fits 64 bits
abbrev pub small_of : Number → Option ℕ
small_of (Value n) = Some n
small_of (U128 n) = None
small_of TooLarge = None

abbrev pub small_front : Option (Number × List ℕ) → Option (ℕ × List ℕ)
small_front front = option_and_then (λ (f : Number × List ℕ). option_map (λ (n : ℕ). (n, f.1)) (small_of f.0)) front

-- the field at the front that says how often a branch was taken, and what follows it
abbrev pub taken_front : List ℕ → Option (Option ℕ × List ℕ)
taken_front [] = None
taken_front (b ∷ bs) = if b == minus then Some (None, bs) else option_map (λ (f : ℕ × List ℕ). (Some f.0, f.1)) (small_front (number_at (b ∷ bs)))

-- what follows a line feed, if the text begins with one
abbrev pub after_feed : List ℕ → Option (List ℕ)
after_feed text = after_key (line_feed ∷ []) text

-- the bytes at the front that a checksum may have
abbrev pub checksum_bytes : List ℕ → List ℕ
checksum_bytes [] = []
checksum_bytes (b ∷ bs) = if is_checksum_byte b then b ∷ checksum_bytes bs else []

-- what follows these bytes
abbrev pub after_checksum : List ℕ → List ℕ
after_checksum [] = []
after_checksum (b ∷ bs) = if is_checksum_byte b then after_checksum bs else b ∷ bs

-- the two lists, if the first isn't empty: a checksum isn't
abbrev pub some_front : List ℕ → List ℕ → Option (List ℕ × List ℕ)
some_front [] rest = None
some_front (b ∷ bs) rest = Some (b ∷ bs, rest)

-- the checksum at the front, and what follows it
abbrev pub checksum_front : List ℕ → Option (List ℕ × List ℕ)
checksum_front text = some_front (checksum_bytes text) (after_checksum text)

-- the checksum that was read, and what follows the line feed after it
abbrev pub checked_end : List ℕ × List ℕ → Option (Option (List ℕ) × List ℕ)
checked_end front = option_map (λ (rest : List ℕ). (Some front.0, rest)) (after_feed front.1)

-- no checksum, and what follows the line feed
abbrev pub plain_end : List ℕ → Option (Option (List ℕ) × List ℕ)
plain_end text = option_map (λ (rest : List ℕ). (None, rest)) (after_feed text)

-- the checksum after a count, if there is one, and what follows the line feed
abbrev pub count_end : List ℕ → Option (Option (List ℕ) × List ℕ)
count_end [] = None
count_end (b ∷ bs) = if b == comma then option_and_then checked_end (checksum_front bs) else plain_end (b ∷ bs)

-- a `DA:` line, read to its end once its line and its count are read
abbrev pub counted_end : ℕ → ℕ × List ℕ → Option ((ℕ × ℕ) × (Option (List ℕ) × List ℕ))
counted_end line count = option_map (λ (end : Option (List ℕ) × List ℕ). ((line, count.0), end)) (count_end count.1)

abbrev pub counted_after_line : ℕ × List ℕ → Option ((ℕ × ℕ) × (Option (List ℕ) × List ℕ))
counted_after_line line = option_and_then (counted_end line.0) (small_front (number_at line.1))

abbrev pub counted_after_key : List ℕ → Option ((ℕ × ℕ) × (Option (List ℕ) × List ℕ))
counted_after_key fields = option_and_then counted_after_line (small_front (field_at fields))

-- the `DA:` line at the front: its line and its count, its checksum if there is one, and what follows the line feed
abbrev pub counted_front : List ℕ → Option ((ℕ × ℕ) × (Option (List ℕ) × List ℕ))
counted_front text = option_and_then counted_after_key (after_key (codes "DA:") text)

-- a `BRDA:` line, read to its end once its four fields are read
abbrev pub branch_end : BranchPoint → Option ℕ × List ℕ → Option ((BranchPoint × Option ℕ) × List ℕ)
branch_end point taken = option_map (λ (rest : List ℕ). ((point, taken.0), rest)) (after_feed taken.1)

abbrev pub branch_after_number : ℕ → ℕ → ℕ × List ℕ → Option ((BranchPoint × Option ℕ) × List ℕ)
branch_after_number line block branch = option_and_then (branch_end (record { line = line; block = block; branch = branch.0 })) (taken_front branch.1)

abbrev pub branch_after_block : ℕ → ℕ × List ℕ → Option ((BranchPoint × Option ℕ) × List ℕ)
branch_after_block line block = option_and_then (branch_after_number line block.0) (small_front (field_at block.1))

abbrev pub branch_after_line : ℕ × List ℕ → Option ((BranchPoint × Option ℕ) × List ℕ)
branch_after_line line = option_and_then (branch_after_block line.0) (small_front (field_at line.1))

abbrev pub branch_after_key : List ℕ → Option ((BranchPoint × Option ℕ) × List ℕ)
branch_after_key fields = option_and_then branch_after_line (small_front (field_at fields))

-- the `BRDA:` line at the front: its branch, how often that was taken, and what follows the line feed
abbrev pub branch_front : List ℕ → Option ((BranchPoint × Option ℕ) × List ℕ)
branch_front text = option_and_then branch_after_key (after_key (codes "BRDA:") text)
