-- The `Sect` of the Rattle code, as plain data.
use Rattle.covdata.specs.declared.sect.Sect.{Sect}
use Rattle.covdata.specs.Row.{SectData}

abbrev pub sect_data : {A : Type 0} → Sect A → SectData
sect_data s = record { test = s.test; file = s.file; items = s.items }
