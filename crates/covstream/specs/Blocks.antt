-- What is read of a source block by block, and why nothing is read.
use Rattle.std.specs.Io.KnownBytes.{Consumes, IsAtEnd}
use Rattle.std.specs.Prelude.{◌≡◌, ◌⊎◌, ◌<◌, ◌≤◌, ℕ, suc, List, ◌++◌, length, Option}
use Rattle.covstream.specs.declared.fault.BlockFault.{BlockFault}
use Rattle.covstream.specs.declared.fault.BlockFault.TheVariants.{Unreadable, Memory}

-- all bytes that were left were read, or exactly `most` bytes
abbrev pub HasReadAtMost : ℕ → Option (List ℕ) → Option (List ℕ) → List ℕ → Type 0
HasReadAtMost most left left_after text = Consumes left left_after text × (IsAtEnd left_after ⊎ (length text ≡ most))

-- these bytes were read so, and they were appended to the text
abbrev pub HasReadOn : ℕ → (left left_after : Option (List ℕ)) → (text text_after : List ℕ) → Type 0
HasReadOn most left left_after text text_after =
    (bytes : List ℕ) × HasReadAtMost most left left_after bytes × (text_after ≡ text ++ bytes) × (length bytes ≤ most)

-- one read of at most `room` bytes, which are appended to the text. If the read gave no bytes, the source is at its end, unless
-- `room` is 0
abbrev pub HasReadBlock : (left left_after : Option (List ℕ)) → (text text_after : List ℕ) → (room count : ℕ) → Type 0
HasReadBlock left left_after text text_after room count =
    (bytes : List ℕ) × Consumes left left_after bytes × (text_after ≡ text ++ bytes) × (length bytes ≡ count) × (count ≤ room)
    × (count ≡ 0 → 0 < room → IsAtEnd left_after)

-- why no text was read: a read failed after these bytes, or memory ran out and no read failed
abbrev pub IsReadFault : (left left_after : Option (List ℕ)) → (failed failed_after : ℕ) → BlockFault → Type 0
IsReadFault left left_after failed failed_after Unreadable = (bytes : List ℕ) × Consumes left left_after bytes × (failed_after ≡ suc failed)
IsReadFault left left_after failed failed_after Memory = failed_after ≡ failed
