-- The streams that a call reads and writes, before and after it.
use Rattle.std.specs.Io.KnownBytes.{Appends}
use Rattle.std.specs.Prelude.{◌≡◌, ◌<◌, ◌^◌, ℕ, List, Option}

-- the stream that a call reads: the bytes it has left, if these are known; how often it was read; and how many reads failed
pub record SourceData : Type 0 where
  pub left : Option (List ℕ)
  pub reads : ℕ
  pub failed_reads : ℕ

abbrev pub source : Option (List ℕ) → (reads failed_reads : ℕ) → SourceData
source left reads failed_reads = record { left = left; reads = reads; failed_reads = failed_reads }

-- the two streams that a call writes to: the bytes each has taken, if these are known, and how many writes to it failed. `held`:
-- how many bytes the output may still hold back
pub record SinksData : Type 0 where
  pub output : Option (List ℕ)
  pub held : ℕ
  pub failed_output : ℕ
  pub faults : Option (List ℕ)
  pub failed_faults : ℕ

-- few enough writes have failed that no count of them can overflow
pub record CanWrite (sinks : SinksData) : Type 0 where
  pub output : sinks.failed_output < 2 ^ 62
  pub faults : sinks.failed_faults < 2 ^ 62

-- these words went to the stream for faults, unless a write to it failed: there is nowhere left to report that
abbrev pub Complains : List ℕ → SinksData → SinksData → Type 0
Complains words old new = new.failed_faults ≡ old.failed_faults → Appends old.faults new.faults words

-- nothing was written to the stream for faults
abbrev pub IsSilent : SinksData → SinksData → Type 0
IsSilent old new = (new.faults ≡ old.faults) × (new.failed_faults ≡ old.failed_faults)

-- nothing was written to the output
abbrev pub Withholds : SinksData → SinksData → Type 0
Withholds old new = (new.output ≡ old.output) × (new.held ≡ old.held) × (new.failed_output ≡ old.failed_output)

-- the whole text went to the output, which holds nothing back
abbrev pub PutsOut : List ℕ → SinksData → SinksData → Type 0
PutsOut text old new =
    Appends old.output new.output text × (new.held ≡ 0) × (new.failed_output ≡ old.failed_output)

-- the whole text went to the output, and nothing to the stream for faults
abbrev pub Delivers : List ℕ → SinksData → SinksData → Type 0
Delivers text old new = PutsOut text old new × IsSilent old new

-- the whole text went to the output, and these words to the stream for faults
abbrev pub DeliversAndComplains : (text words : List ℕ) → SinksData → SinksData → Type 0
DeliversAndComplains text words old new = PutsOut text old new × Complains words old new
