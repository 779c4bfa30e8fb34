-- Why the words of a call give no command: the number and the exit status of each fault, and which errors of clap's lead to it.
use Rattle.std.specs.Prelude.{◌≡◌, ◌≢◌, ℕ}
use Rattle.clap.specs.Kinds.{IsAmong, Kinds}
use Rattle.clap.specs.declared.error.kind.ErrorKind.{ErrorKind}
use Rattle.clap.specs.declared.error.kind.ErrorKind.TheVariants as kind
use Rattle.covcommand.specs.declared.fault.CommandFault.{CommandFault}
use Rattle.covcommand.specs.declared.fault.CommandFault.TheVariants.{Help, Line, Memory, Version}

abbrev pub fault_number : CommandFault → ℕ
fault_number (Help text) = 1
fault_number (Line text) = 2
fault_number Memory = 3
fault_number (Version text) = 4

-- the exit status: a request for help or for the version is no failure
abbrev pub fault_status : CommandFault → ℕ
fault_status (Help text) = 0
fault_status (Line text) = 2
fault_status Memory = 3
fault_status (Version text) = 0

-- the fault for an error of clap's of this kind; it may be `Memory` for any kind, since making the error's text may fail
abbrev pub Tells : ErrorKind → CommandFault → Type 0
Tells k (Help text) = k ≡ kind.DisplayHelp
Tells k (Line text) = (k ≢ kind.DisplayHelp) × (k ≢ kind.DisplayVersion) × (k ≢ kind.OutOfMemory)
Tells k Memory = Unit {0}
Tells k (Version text) = k ≡ kind.DisplayVersion

-- the fault for words for which clap has errors of these kinds. It is `Help` or `Version` only if the kind for that is among
-- them, and `Line` only if another kind is
abbrev pub IsFaultAmong : Kinds → CommandFault → Type 0
IsFaultAmong kinds (Help text) = IsAmong kind.DisplayHelp kinds
IsFaultAmong kinds (Line text) = (k : ErrorKind) × IsAmong k kinds × (k ≢ kind.DisplayHelp) × (k ≢ kind.DisplayVersion)
IsFaultAmong kinds Memory = Unit {0}
IsFaultAmong kinds (Version text) = IsAmong kind.DisplayVersion kinds
