-- What a step does to the store, seen as plain data.
use Rattle.covbook.specs.declared.ready.Change.{Change}
use Rattle.covbook.specs.declared.ready.Change.TheVariants as changes
use Rattle.covbook.specs.Ready.{ChangeData, NoChange, HoldChange, DropChange, RenameChange}

abbrev pub change_data : {A P R : Type 0} → Change A P R → ChangeData P R
change_data changes.Nothing = NoChange
change_data (changes.Hold plan) = HoldChange plan
change_data (changes.Drop test) = DropChange test
change_data (changes.Rename renaming) = RenameChange renaming
