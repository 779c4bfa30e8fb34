use Rattle.std.proofs.Common.{◌≡◌, map, take}
use Rattle.std.specs.Prelude.{option_map}
use Rattle.covmap.proofs.slots.page.images.value_images.Given as goal

-- the images of the values so far are made
abbrev pub invariant-loop-value : goal.invariant-loop-value
invariant-loop-value g l = l.images.items ≡ map (option_map g.W.Image.image) (take l.value-index l.values)
