-- A row, a key and a clash of the code, as plain data.
use Rattle.std.specs.Prelude.{cond}
use Rattle.covdata.specs.Row.{ItemData, item_data}
use Rattle.covdata.specs.Row as plain
use Rattle.covtable.specs.Clash as clashes
use Rattle.covtable.specs.Value as value
use Rattle.covrows.specs.declared.clash.Checksum.{Checksum}
use Rattle.covrows.specs.declared.clash.Clash.{Clash}
use Rattle.covrows.specs.declared.key.Key.{Key}
use Rattle.covrows.specs.declared.row.Row.{Row}

abbrev pub row_data : {A : Type 0} → Row A → plain.Row
row_data row = record { test = row.test; file = row.file; item = item_data row.item }

abbrev pub key_data : Key → value.Key
key_data key = record { file = key.file.now; test = key.test.now }

abbrev pub checksum_data : Checksum → clashes.Checksum
checksum_data c = record { file = c.file.now; line = c.line; checksum = c.text.now }

abbrev pub clash_data : Clash → clashes.ClashData
clash_data clash = record { file = clash.given.file.now; line = clash.given.line; held = clash.held.now; given = clash.given.text.now }

-- what `f` gives of the row's item if the row is of this key, else `other`
abbrev pub at_key : {X : Type 0} → (ItemData → X) → X → value.Key → plain.Row → X
at_key f other key row = cond (value.has_key key row) (f row.item) other
