-- A `Refuse`, seen as plain data, and its number.
use Rattle.std.specs.Prelude.{ℕ}
use Rattle.covtable.specs.declared.refuse.Refuse.{Refuse}
use Rattle.covtable.specs.declared.refuse.Refuse.TheVariants as refusals
use Rattle.covtable.specs.Refuse.{RefuseData, ClashRefuse, MemoryRefuse}

abbrev pub refuse_data : {A : Type 0} → Refuse A → RefuseData
refuse_data (refusals.Clash file line held given) = ClashRefuse (record { file = file; line = line; held = held; given = given })
refuse_data refusals.Memory = MemoryRefuse

abbrev pub refuse_number : {A : Type 0} → Refuse A → ℕ
refuse_number (refusals.Clash file line held given) = 1
refuse_number refusals.Memory = 2
