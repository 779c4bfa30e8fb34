use Rattle.std.proofs.Common.{◌≡◌, map, take}
use Rattle.covmap.specs.Images.{page_image}
use Rattle.covmap.proofs.slots.images.page_images.Given as goal

-- the images of the pages so far are made
abbrev pub invariant-loop-page : goal.invariant-loop-page
invariant-loop-page g l = l.images.items ≡ map (page_image g.W.Image.image) (take l.page-index l.pages)
