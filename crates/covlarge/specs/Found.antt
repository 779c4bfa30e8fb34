-- Private steps: where a text is cut.
use Rattle.std.specs.Io.KnownBytes.{Consumes, IsAtEnd}
use Rattle.std.specs.Prelude.{◌≡◌, ◌<◌, ◌≤◌, ◌+◌, ℕ, List, ◌++◌, length, take, drop, Option}
use Rattle.covlarge.specs.declared.piece_text.Found.{Found}
use Rattle.covlarge.specs.declared.piece_text.Found.TheVariants.{Last, Sections, TooLong}
use Rattle.covpieces.specs.Sections.{EndsSection}

-- the bytes begin with a section that is too long: behind a front with this number of bytes, it has more than `most` bytes
pub record BeginsLong (most front : ℕ) (bytes : List ℕ) : Type 0 where
  pub long : most < front + length bytes
  pub none : (n : ℕ) → n ≤ length bytes → front + n ≤ most → ¬ EndsSection (take n bytes)

-- the first `n` bytes are whole sections, and no section ends later in the bytes, as far as there is room behind the front. With the
-- front they have at least `least` bytes
pub record AreSections (least most front : ℕ) (bytes : List ℕ) (n : ℕ) : Type 0 where
  pub within : n ≤ length bytes
  pub room : front + n ≤ most
  pub ends : EndsSection (take n bytes)
  pub longest : (k : ℕ) → n < k → k ≤ length bytes → front + k ≤ most → ¬ EndsSection (take k bytes)
  pub enough : least ≤ front + length bytes

-- what is found in these bytes of a tracefile, behind a front with this number of bytes. `Is_end`: they are its end
abbrev pub IsFound : (least most front : ℕ) → (bytes : List ℕ) → (Is_end : Type 0) → Found → Type 0
IsFound least most front bytes Is_end Last = Is_end × (front + length bytes ≤ most)
IsFound least most front bytes Is_end (Sections n) = AreSections least most front bytes n
IsFound least most front bytes Is_end TooLong = BeginsLong most front bytes

-- bytes were read and appended to the text, and this is found in it behind its front
abbrev pub HasReadUntil : (least most front : ℕ) → (text text_after : List ℕ) → (left left_after : Option (List ℕ)) → Found → Type 0
HasReadUntil least most front text text_after left left_after found =
    (bytes : List ℕ) × Consumes left left_after bytes × (text_after ≡ text ++ bytes) × IsFound least most front (drop front text_after) (IsAtEnd left_after) found

-- the same for the bytes behind the front
abbrev pub HasFound : (least most : ℕ) → (front : List ℕ) → (bytes bytes_after : List ℕ) → (left left_after : Option (List ℕ)) → Found → Type 0
HasFound least most front bytes bytes_after left left_after found =
    (more : List ℕ) × Consumes left left_after more × (bytes_after ≡ bytes ++ more) × IsFound least most (length front) bytes_after (IsAtEnd left_after) found
