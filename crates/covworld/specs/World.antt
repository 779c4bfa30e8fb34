-- What a call changes: the files that it writes, and its standard streams.
use Rattle.std.specs.Prelude.{◌≡◌, ◌<◌, ◌^◌, None}
use Rattle.covworld.specs.OutputFiles.{OutputFilesData}
use Rattle.covworld.specs.Streams.{CanWrite, SinksData, SourceData}

-- what a call changes: the files that it writes, the stream that it reads, and the two streams that it writes to
pub record WorldData : Type 0 where
  pub files : OutputFilesData
  pub input : SourceData
  pub sinks : SinksData

-- no file is begun, and so few calls were made and have failed that no count of them can overflow
pub record CanCall (world : WorldData) : Type 0 where
  pub begun : world.files.begun ≡ None
  pub files : world.files.failed < 2 ^ 62
  pub reads : world.input.reads < 2 ^ 62
  pub failed_reads : world.input.failed_reads < 2 ^ 62
  pub sinks : CanWrite world.sinks

-- the input wasn't read, and no file was written
abbrev pub ChangesSinksAlone : WorldData → WorldData → Type 0
ChangesSinksAlone old new = (new.input ≡ old.input) × (new.files ≡ old.files)
