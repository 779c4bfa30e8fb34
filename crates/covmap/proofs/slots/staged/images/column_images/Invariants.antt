use Rattle.std.proofs.Common.{◌≡◌, map, take}
use Rattle.covmap.specs.Images.{column_image}
use Rattle.covmap.proofs.slots.staged.images.column_images.Given as goal

-- the images of the columns so far are made
abbrev pub invariant-loop-column : goal.invariant-loop-column
invariant-loop-column g l = map (λ column. (column.0, column.1.items)) l.images.items ≡ map (λ column. column_image g.W.Image.image (column.0, column.1.items)) (take l.column-index l.columns)
