-- Items by their index in a section, and items that can't clash.
use Rattle.std.specs.Prelude.{◌≡◌, Some, None, List, slice_get}
use Rattle.std.specs.List.{flat_map}
use Rattle.std.specs.List.Sorted.{IsPermutation}
use Rattle.std.specs.Option.{option_to_list}
use Rattle.covdata.specs.Row.{ItemData, LineItem, FuncItem, BranchItem}
use Rattle.covstore.specs.declared.stage.by_line.Spot.{Spot}

-- the items at these spots, in the spots' order
abbrev pub at_spots : {D : Type 0} → List D → List Spot → List D
at_spots items spots = flat_map (λ spot. option_to_list (slice_get items spot.index)) spots

-- these are the spots of the items, in any order
pub record AreSpotsOf {D : Type 0} (items : List D) (spots : List Spot) : Type 0 where
  pub others : List Spot
  pub permuted : IsPermutation others spots
  pub all : at_spots items others ≡ items

-- the item has no checksum, so it clashes with nothing
abbrev pub HasNoChecksum : ItemData → Type 0
HasNoChecksum (LineItem line count (Some checksum)) = ⊥
HasNoChecksum (LineItem line count None) = Unit {0}
HasNoChecksum (FuncItem name line count) = Unit {0}
HasNoChecksum (BranchItem line block branch taken) = Unit {0}
