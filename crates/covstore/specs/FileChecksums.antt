-- The checksums of a file, or none.
use Rattle.std.specs.Prelude.{Option, Some, None, []}
use Rattle.covstore.specs.Checksums.{ChecksumsData}

abbrev pub checksums_or_none : Option ChecksumsData → ChecksumsData
checksums_or_none None = record { committed = []; staged = []; texts = [] }
checksums_or_none (Some checksums) = checksums
