-- The `PackedSect` of the Rattle code, as plain data.
use Rattle.covdata.specs.Row.{SectData}
use Rattle.covpacked.specs.declared.sect_iter.PackedSect.{PackedSect}

abbrev pub packed_sect_data : PackedSect → SectData
packed_sect_data s = record { test = s.test.now; file = s.file.now; items = s.items }
