-- The same keys with other values: each value is replaced by its image.
use Rattle.std.specs.Prelude.{ℕ, Option, option_map, List, map}

-- a slot with the image of its value, if it has one
abbrev pub slot_image : {K V W : Type 0} → (V → W) → K × Option V → K × Option W
slot_image image slot = (slot.0, option_map image slot.1)

-- a page with the images of its values
abbrev pub page_image : {K V W : Type 0} → (V → W) → List (K × Option V) → List (K × Option W)
page_image image page = map (slot_image image) page

-- a column with the images of its values, for the same page
abbrev pub column_image : {V W : Type 0} → (V → W) → ℕ × List (Option V) → ℕ × List (Option W)
column_image image column = (column.0, map (option_map image) column.1)
