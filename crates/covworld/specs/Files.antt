-- How a file is read.
use Rattle.std.specs.Prelude.{ℕ, suc, List, Option}
use Rattle.covread.specs.Outcome.{max_bytes}
use Rattle.covworld.specs.Folder.{FolderData}
use Rattle.covstream.specs.Blocks.{HasReadAtMost}
use Rattle.covstream.specs.declared.fault.BlockFault.{BlockFault}
use Rattle.covstream.specs.declared.fault.BlockFault.TheVariants.{Unreadable, Memory}

-- all bytes that were left were read, or exactly one byte more than a text may have
abbrev pub HasRead : Option (List ℕ) → Option (List ℕ) → List ℕ → Type 0
HasRead left left_after text = HasReadAtMost (suc max_bytes) left left_after text

-- the file of this name can't be read, or memory ran out
abbrev pub IsUnread : FolderData → List ℕ → BlockFault → Type 0
IsUnread folder name Unreadable = folder.MayFail name
IsUnread folder name Memory = Unit {0}
