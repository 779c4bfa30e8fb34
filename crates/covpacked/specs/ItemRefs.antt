-- The `ItemRef` of the Rattle code, as plain data.
use Rattle.std.specs.Prelude.{option_map}
use Rattle.covdata.specs.Row.{ItemData, LineItem, FuncItem, BranchItem}
use Rattle.covpacked.specs.declared.item_ref.ItemRef.{ItemRef}
use Rattle.covpacked.specs.declared.item_ref.ItemRef.TheVariants as refs

abbrev pub item_ref_data : ItemRef → ItemData
item_ref_data (refs.Line line count checksum) = LineItem line count (option_map (λ text. text.now) checksum)
item_ref_data (refs.Func name line count) = FuncItem name.now line count
item_ref_data (refs.Branch line block branch taken) = BranchItem line block branch taken
