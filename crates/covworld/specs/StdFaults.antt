-- What an error of std says of a file or a folder that is written.
use Rattle.std.specs.declared.io.ErrorKind.{ErrorKind}
use Rattle.std.specs.declared.io.ErrorKind.TheVariants.{OutOfMemory, InvalidFilename}
use Rattle.covworld.specs.declared.folder_writer.FolderFault.{FolderFault}
use Rattle.covworld.specs.declared.folder_writer.FolderFault.TheVariants as folder_faults
use Rattle.covworld.specs.declared.output_folder.OutputFault.{OutputFault}
use Rattle.covworld.specs.declared.output_folder.OutputFault.TheVariants as faults

-- a full disk, say, is no want of memory
abbrev pub fault_of_kind : ErrorKind → OutputFault
fault_of_kind OutOfMemory = faults.Memory
fault_of_kind kind = faults.Failed

-- a folder's file whose name isn't UTF-8 isn't ours
abbrev pub folder_fault_of_kind : ErrorKind → FolderFault
folder_fault_of_kind OutOfMemory = folder_faults.Memory
folder_fault_of_kind InvalidFilename = folder_faults.Foreign
folder_fault_of_kind kind = folder_faults.Failed
